-- RULES.md, Release order: what is listed, and in which order.
use Rattle.std.specs.Prelude.{◌<◌, ◌≡◌, Bool, true, cond, not, ◌&&◌, List, [], ◌∷◌, ◌++◌, length}
use Rattle.lists.specs.Lists.{keep, first, all}
use Rattle.lists.specs.Tables.{Shape, table}
use Rattle.lists.specs.declared.table.Table.{Table}
use Rattle.handles.specs.Handles.{same_handle, handle_lt}
use Rattle.handles.specs.declared.GenerationalHandle.{GenerationalHandle}
use Rattle.maps.specs.Keys.{pointer_key, key_same}
use Rattle.maps.specs.MapTables.{is_some}
use Rattle.maps.specs.Bindings.{no_binding, key_of_binding}
use Rattle.maps.specs.declared.keys.BindingKey.TheVariants.{Pointer}
use Rattle.maps.specs.declared.bindings.Binding.{Binding}
use Rattle.maps.specs.declared.captures.Capture.{Capture}

-- at most 128 presses and 32 captures in each of 16 views
abbrev pub Releases : Type 0
Releases = Table Binding 640

abbrev pub releases : Shape Binding Releases
releases = table 640 no_binding

-- a press of the panel
abbrev pub is_on : GenerationalHandle → Binding → Bool
is_on surface e = same_handle surface e.surface

-- a press of no lesser panel
abbrev pub is_not_below : GenerationalHandle → Binding → Bool
is_not_below surface e = not (handle_lt e.surface surface)

-- the least panel of the presses: one of them is on it, and none on a lesser
abbrev pub IsLeast : GenerationalHandle → List Binding → Type 0
IsLeast surface l = (all (is_not_below surface) l ≡ true) × (0 < length (keep (is_on surface) l))

-- a press before those of its own and greater panels, after those of lesser panels
abbrev pub placed : Binding → List Binding → List Binding
placed e l = keep (λ f. handle_lt f.surface e.surface) l ++ (e ∷ keep (is_not_below e.surface) l)

-- panel by panel, by handle: the presses of a panel keep their order
unfoldable pub by_panel : List Binding → List Binding
by_panel [] = []
by_panel (e ∷ l) = placed e (by_panel l)

-- no press stands before one of a lesser panel
unfoldable pub in_panel_order : List Binding → Bool
in_panel_order [] = true
in_panel_order (e ∷ l) = all (is_not_below e.surface) l && in_panel_order l

-- ---- captures after presses
-- a pointer's release that is the pair of pointer and panel of a capture
abbrev pub is_pair : Capture → Binding → Bool
is_pair c e = key_same (pointer_key c.pointer) (key_of_binding e) && same_handle c.surface e.surface

abbrev pub is_listed : Capture → List Binding → Bool
is_listed c l = is_some (first (is_pair c) l)

-- a capture's release is a pointer's cancel
abbrev pub capture_release : Capture → Binding
capture_release c = record { key = Pointer c.pointer; surface = c.surface }

-- leaving out a pair of pointer and panel already listed
abbrev pub add_capture : List Binding → Capture → List Binding
add_capture l c = cond (is_listed c l) l (l ++ (capture_release c ∷ []))

-- presses, then captures in their order
unfoldable pub add_captures : List Binding → List Capture → List Binding
add_captures l [] = l
add_captures l (c ∷ cs) = add_captures (add_capture l c) cs
