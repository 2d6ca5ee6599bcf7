-- RULES.md, Arbitrate: 8/9 (for a system shortcut: of the first live panel in slot order whose own view is not live and
-- which has a Window registration sharing a class bit).
use Rattle.std.specs.Prelude.{ℕ, Bool, true, false, not, ◌&&◌, List, eqb, is_ok, Option, None, Some, Ok}
use Rattle.std.specs.List.{list_any, find as first}
use Rattle.handles.specs.Slots.{lookup_of, live_handles}
use Rattle.handles.specs.declared.arena.Arena.{Arena}
use Rattle.handles.specs.declared.GenerationalHandle.{GenerationalHandle}
use Rattle.records.specs.declared.error.CompositionError.TheVariants.{InvalidView, StaleView}
use Rattle.records.specs.declared.shortcut.ShortcutScope.{ShortcutScope}
use Rattle.records.specs.declared.shortcut.ShortcutScope.TheVariants.{View, Window, Session}
use Rattle.records.specs.declared.shortcut.SlotShortcut.{SlotShortcut}
use Rattle.records.specs.Surfaces.{SurfaceTable, descriptor_of}
use Rattle.records.specs.Errors.{status_refusal, Outcome}
use Rattle.composition_shortcuts.specs.Scope.{shares_bit}

abbrev pub is_window : ShortcutScope → Bool
is_window View = false
is_window Window = true
is_window Session = false

-- a Window registration of the slot that shares a class bit
abbrev pub is_asking : ℕ → ℕ → SlotShortcut → Bool
is_asking slot mask s =
    eqb slot s.slot && (is_window s.registration.scope && shares_bit s.registration.class_mask mask)

abbrev pub asks_window : ℕ → ℕ → List SlotShortcut → Bool
asks_window slot mask l = list_any (is_asking slot mask) l

-- 8/9 of the panel's own view
abbrev pub own_refusal : Arena → SurfaceTable → GenerationalHandle → Outcome
own_refusal views surfaces panel =
    status_refusal (lookup_of views (descriptor_of surfaces panel).view) InvalidView StaleView

-- its own view is not live, and it has such a registration
abbrev pub is_refused : Arena → SurfaceTable → ℕ → List SlotShortcut → GenerationalHandle → Bool
is_refused views surfaces mask l panel =
    not (is_ok (own_refusal views surfaces panel)) && asks_window panel.index mask l

abbrev pub refusal_of : Arena → SurfaceTable → Option GenerationalHandle → Outcome
refusal_of views surfaces None = Ok tt
refusal_of views surfaces (Some panel) = own_refusal views surfaces panel

-- the first such panel of the live ones in slot order
unfoldable pub own_view_refusal : Arena → SurfaceTable → ℕ → List SlotShortcut → Outcome
own_view_refusal views surfaces mask l =
    refusal_of views surfaces (first (is_refused views surfaces mask l) (live_handles surfaces.arena))
