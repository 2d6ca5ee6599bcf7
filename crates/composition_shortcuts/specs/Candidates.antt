-- RULES.md, System shortcut: the greatest wins by priority, scope (View over Window over Session), same view, z_order,
-- handle.
use Rattle.std.specs.Prelude.{ℕ, Bool, cond, List, ltb, ℤ, Option}
use Rattle.std.specs.Int.Signed.{lt_z}
use Rattle.lists.specs.Orders.{lex_both}
use Rattle.handles.specs.Handles.{handle_lt, same_handle}
use Rattle.handles.specs.declared.GenerationalHandle.{GenerationalHandle}
use Rattle.records.specs.declared.shortcut.ShortcutScope.{ShortcutScope}
use Rattle.records.specs.declared.shortcut.ShortcutScope.TheVariants.{View, Window, Session}
use Rattle.records.specs.declared.shortcut.SlotShortcut.{SlotShortcut}
use Rattle.records.specs.Surfaces.{SurfaceTable}
use Rattle.composition_shortcuts.specs.declared.candidate.Candidate.{Candidate}
use Rattle.composition_shortcuts.specs.Greatest.{greatest}
use Rattle.composition_shortcuts.specs.Scope.{owner_of, owner_descriptor}

-- "View over Window over Session"
abbrev pub scope_rank : ShortcutScope → ℕ
scope_rank View = 3
scope_rank Window = 2
scope_rank Session = 1

-- what is compared of a registration, and the panel that it is for; "same view": the panel's view is the event's
unfoldable pub candidate_of : SurfaceTable → GenerationalHandle → SlotShortcut → Candidate
candidate_of surfaces view s =
    let d = owner_descriptor surfaces s in
    record {
      priority = s.registration.priority;
      scope_rank = scope_rank s.registration.scope;
      same_view = same_handle d.view view;
      z_order = d.z_order;
      surface = owner_of surfaces.arena s;
    }

-- one that is of the same view is greater
abbrev pub view_rank : Bool → ℕ
view_rank same = cond same 1 0

-- "by priority, scope (View over Window over Session), same view, z_order, handle"
abbrev pub rank_of : Candidate → ℤ × (ℕ × (ℕ × (ℤ × GenerationalHandle)))
rank_of c = (c.priority, (c.scope_rank, (view_rank c.same_view, (c.z_order, c.surface))))

unfoldable pub is_less : Candidate → Candidate → Bool
is_less a b = lex_both lt_z (lex_both ltb (lex_both ltb (lex_both lt_z handle_lt))) (rank_of a) (rank_of b)

-- "The greatest wins"
abbrev pub best_of : List Candidate → Option Candidate
best_of l = greatest is_less l
