-- How many numbers a dump has at most, from the lengths of the arrays: arena by arena, whatever the numbers in them.
use Prim.Native.Nat.{ℕ, zero, suc, ◌+◌, ◌*◌, ◌≤◌}
use mathlib.Core.Bool.{Bool}
use mathlib.Core.List.{List, [], ◌∷◌, append-nil}
use mathlib.Core.Path.{◌≡◌, refl}
use native.Mathlib.Omega.{arith}
use lib.Dec.{eqb, ltb}
use lib.ListN.{length, get_or, length-append, length-take}
use borrow.Author.Tests.{eqb-true, ltb-true, lt-ltb, le-ltb}
use Rattle.lists.specs.Lists.{keep}
use Rattle.lists.specs.Tables.{entries_of, packed}
use Rattle.lists.proofs.ListLaws.{by_test, length_keep}
use Rattle.lists.proofs.TableLaws as table
use Rattle.handles.specs.Slots.{slot_at, used_places}
use Rattle.handles.specs.WellFormed.{free_list}
use Rattle.handles.specs.declared.arena.Arena.{Arena}
use Rattle.handles.specs.declared.arena.Slot.{Slot}
use Rattle.maps.specs.Bindings.{bindings, Bindings}
use Rattle.maps.specs.Captures.{captures}
use Rattle.maps.specs.Sequences.{sequences}
use Rattle.maps.specs.declared.bindings.Binding.{Binding}
use Rattle.maps.specs.declared.keys.BindingKey.{BindingKey}
use Rattle.maps.specs.declared.keys.BindingKey.TheVariants.{Pointer, Key, Gamepad}
use Rattle.records.specs.Layers.{layers}
use Rattle.records.specs.Shortcuts.{shortcuts, Shortcuts}
use Rattle.records.specs.Surfaces.{no_surface, SurfaceTable}
use Rattle.records.specs.Views.{no_view, ViewTable}
use Rattle.records.specs.declared.shortcut.SlotShortcut.{SlotShortcut}
use Rattle.records.specs.declared.view.ViewRecord.{ViewRecord}
use Rattle.counter.specs.declared.step.Counter.{Counter}
use Rattle.answer_numbers.specs.Groups.{handle_numbers, capture_numbers, descriptor_numbers}
use Rattle.answer_numbers.specs.Numbers.{Number, each, indices}
use Rattle.answer_numbers.proofs.EachLaws.{each_append, indices_long}
use Rattle.answer_numbers.specs.Arenas.{slot_numbers, index_numbers, arena_end, arena_numbers}
use Rattle.answer_numbers.specs.Panels.{registration_numbers, is_of_slot, registrations_numbers, panel_numbers, panels_numbers}
use Rattle.registry_dump.specs.Registry.{registry_numbers}
use Rattle.answer_numbers.specs.Views.{view_numbers, views_numbers}
use Rattle.answer_numbers.specs.Presses.{press_numbers, is_of_kind, presses_numbers, sequence_numbers}
use Rattle.router_dump.specs.Router.{router_numbers}
use Rattle.answer_words.specs.Lengths.{All, ViewLengths}
use Rattle.answer_words.proofs.EntryLaws.{all_get, each_long, list_fixed}
use Rattle.answer_words.proofs.SizeLaws.{optional_size, descriptor_size, traces_size}
use Rattle.line_lengths.specs.Lengths.{StateLengths}

-- ---- an arena
used_few : (a : Arena) → used_places a ≤ 64
used_few a =
    by_test (ltb a.used 64)
    (λ t. rw t (omega (arith, ltb-true a.used 64 t)))
    (λ t. rw t (omega arith))

-- the free list, and the live count
end_few : (a : Arena) → length a.free ≡ 64 → length (arena_end a) ≤ 66
end_few a h =
    let few : length (free_list a) ≤ 64 = simp length-take (omega (arith, h)) in
    simp length-append (omega (arith, list_fixed index_numbers 1 64 (free_list a) few (λ i. omega arith)))

-- a slot: generation, flag, and its value if it is filled
slot_few : (value : List Number) (s : Slot) → length (slot_numbers value s) ≤ 2 + length value
slot_few value s =
    by_test s.filled (λ t. rw t (omega arith)) (λ t. rw t (omega arith))

-- slots whose values have at most n numbers each
arena_few : (value : ℕ → List Number) (a : Arena) (c : ℕ) → ((i : ℕ) → 2 + length (value i) ≤ c) → length a.free ≡ 64
    → length (arena_numbers value a) ≤ 67 + c * 64
arena_few value a c h free =
    let used : length (indices (used_places a)) ≤ 64 = rw (indices_long (used_places a)) (used_few a) in
    let slots = list_fixed (λ i. slot_numbers (value i) (slot_at a i)) c 64 (indices (used_places a)) used (λ i. omega (arith, h i, slot_few (value i) (slot_at a i))) in
    simp length-append (omega (arith, slots, simp length-append at (end_few a free)))

-- ---- views: window 2, metrics 13, 16 layers, 32 captures, three optional handles
view_few : (v : ViewRecord) → ViewLengths v → length (view_numbers v) ≤ 218
view_few v x =
    let l = entries_of layers v.surfaces in
    let c = entries_of captures v.pointer_captures in
    simp (length-append, optional_size)
    (omega (
      arith,
      list_fixed handle_numbers 2 16 l (table.few layers v.surfaces x.layers) (λ h. omega arith),
      list_fixed capture_numbers 5 32 c (table.few captures v.pointer_captures x.captures) (λ e. omega arith),
    ))

views_few : (t : ViewTable) → All ViewLengths t.records → length t.arena.free ≡ 64 → length (views_numbers t) ≤ 14147
unfolding packed
views_few t x free =
    let each-view : (i : ℕ) → ViewLengths (get_or t.records i no_view) =
    λ i. all_get ViewLengths t.records i no_view x (record { layers = refl; captures = refl }) in
    arena_few (λ i. view_numbers (get_or t.records i no_view)) t.arena 220
    (λ i. omega (arith, view_few (get_or t.records i no_view) (each-view i))) free

-- ---- panels: the registrations of all slots together are at most all registrations
abbrev is_below_slot : ℕ → SlotShortcut → Bool
is_below_slot n e = ltb e.slot n

slot_next : (n : ℕ) (l : List SlotShortcut)
    → length (keep (is_below_slot n) l) + length (keep (is_of_slot n) l) ≤ length (keep (is_below_slot (suc n)) l)
slot_next n [] = omega arith
slot_next n (e ∷ l) =
    by_test (eqb e.slot n)
    (λ t.
    let same = eqb-true e.slot n t in
    rw (t, le-ltb e.slot n (omega arith), lt-ltb e.slot (suc n) (omega arith)) (omega (arith, slot_next n l)))
    (λ t.
    by_test (ltb e.slot n)
    (λ u.
    let less = ltb-true e.slot n u in
    rw (t, u, lt-ltb e.slot (suc n) (omega arith)) (omega (arith, slot_next n l)))
    (λ u.
    by_test (ltb e.slot (suc n))
    (λ w. rw (t, u, w) (omega (arith, slot_next n l)))
    (λ w. rw (t, u, w) (omega (arith, slot_next n l)))))

module _ (l : List SlotShortcut) (f : ℕ → List Number) (h : (i : ℕ) → length (f i) ≤ 27 + 3 * length (keep (is_of_slot i) l)) where
  slots_few : (n : ℕ) → length (each f (indices n)) ≤ 27 * n + 3 * length (keep (is_below_slot n) l)
  unfolding each indices
  slots_few zero = omega arith
  slots_few (suc n) =
      rw (each_append f (indices n) (n ∷ []), append-nil (f n))
      (simp length-append (omega (arith, h n, slots_few n, slot_next n l)))

panels_few : (s : SurfaceTable) (t : Shortcuts) → length t.items ≡ 256 → length s.arena.free ≡ 64
    → length (panels_numbers s t) ≤ 2563
panels_few s t long free =
    let l = entries_of shortcuts t in
    let value : ℕ → List Number = λ i. panel_numbers i (get_or s.records i no_surface) t in
    let f : ℕ → List Number = λ i. slot_numbers (value i) (slot_at s.arena i) in
    let panel : (i : ℕ) → length (value i) ≤ 25 + 3 * length (keep (is_of_slot i) l) =
    λ i.
    let d = (get_or s.records i no_surface).descriptor in
    omega (
      arith,
      length-append (descriptor_numbers d) (registrations_numbers i t),
      descriptor_size d,
      each_long registration_numbers 3 (λ e. refl) (keep (is_of_slot i) l),
    ) in
    let all = slots_few l f (λ i. omega (arith, panel i, slot_few (value i) (slot_at s.arena i))) (used_places s.arena) in
    simp length-append
    (omega (
      arith,
      all,
      used_few s.arena,
      length_keep (is_below_slot (used_places s.arena)) l,
      table.few shortcuts t long,
      simp length-append at (end_few s.arena free),
      indices_long (used_places s.arena),
    ))

-- ---- the registry
pub registry_few : (k : Counter) → StateLengths k → length (registry_numbers k.registry) ≤ 19988
registry_few k x =
    let r = k.registry in
    simp length-append
    (omega (
      arith,
      simp length-append at (arena_few (λ i. []) r.windows 2 (λ i. omega arith) x.windows),
      simp length-append at (views_few r.views x.answered.views x.views),
      simp length-append at (panels_few r.surfaces r.shortcuts x.shortcuts x.surfaces),
      traces_size r.traces x.answered.traces x.answered.each_trace,
    ))

-- ---- the router: 32 devices of 3 numbers, and at most 128 presses of 5 of each kind
press_few : (e : Binding) → length (press_numbers e) ≤ 5
press_few e = key_few e.key
  where
    key_few : (k : BindingKey) → length (press_numbers (record { key = k; surface = e.surface })) ≤ 5
    key_few (Pointer p) = omega arith
    key_few (Key k) = omega arith
    key_few (Gamepad d) = omega arith

presses_few : (kind : ℕ) (t : Bindings) → length t.table.items ≡ 128 → length (presses_numbers kind t) ≤ 641
presses_few kind t long =
    let l = entries_of bindings t in
    list_fixed press_numbers 5 128 (keep (is_of_kind kind) l) (omega (arith, length_keep (is_of_kind kind) l, table.few bindings t long)) press_few

pub router_few : (k : Counter) → StateLengths k → length (router_numbers k.router) ≤ 2022
router_few k x =
    let t = k.router in
    let known = entries_of sequences t.device_sequences in
    simp length-append
    (omega (
      arith,
      list_fixed sequence_numbers 3 32 known (table.few sequences t.device_sequences x.sequences) (λ e. omega arith),
      presses_few 0 t.bindings x.answered.presses,
      presses_few 1 t.bindings x.answered.presses,
      presses_few 2 t.bindings x.answered.presses,
    ))
