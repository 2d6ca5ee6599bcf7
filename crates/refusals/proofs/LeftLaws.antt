-- What `Left` says is what the calls' definitions leave: by cases of keys and statuses, and for a device slot by slot.
use Rattle.std.specs.Prelude.{is_ok, Option, None, Some}
use Prim.Native.Nat.{ℕ, zero, suc, ◌+◌, ◌<◌}
use mathlib.Core.Path.{◌≡◌, refl, sym, ap, ◌∙◌}
use mathlib.Core.Bool.{Bool, true, false, cond, not, ◌&&◌, ◌||◌}
use mathlib.Core.List.{List, [], ◌∷◌, reverse}
use native.Mathlib.Nat.{zero-add}
use native.Mathlib.Omega.{arith}
use borrow.Author.Tests.{le-ltb, lt-ltb, ltb-true, ltb-false, eqb-true, eqb-false, ne_eqb}
use lib.Dec.{eqb, ltb}
use lib.ListN.{length, get_or, set}
use Rattle.lists.specs.Below.{iter_below}
use Rattle.lists.specs.Lists.{keep, first}
use Rattle.lists.specs.Tables.{packed}
use Rattle.lists.proofs.ListLaws.{by_test, and_both}
use Rattle.lists.proofs.TableLaws.{entries_packed}
use Rattle.handles.specs.declared.arena.SlotStatus.{SlotStatus}
use Rattle.handles.specs.declared.arena.SlotStatus.TheVariants.{Live, Invalid, Stale}
use Rattle.handles.specs.declared.GenerationalHandle.{GenerationalHandle}
use Rattle.handles.specs.Handles.{holds_handle}
use Rattle.handles.specs.Slots.{slot_at}
use Rattle.maps.specs.declared.bindings.Binding.{Binding}
use Rattle.maps.specs.declared.keys.BindingKey.{BindingKey}
use Rattle.maps.specs.declared.keys.BindingKey.TheVariants.{Pointer, Key, Gamepad}
use Rattle.maps.specs.declared.keys.InputDeviceId.{InputDeviceId}
use Rattle.maps.specs.Captures.{captures}
use Rattle.maps.specs.Keys.{binding_key, device_same}
use Rattle.maps.specs.MapTables.{is_some, retained}
use Rattle.records.specs.declared.error.CompositionError.TheVariants.{InvalidSurface, StaleSurface}
use Rattle.records.specs.declared.view.ViewRecord.{ViewRecord}
use Rattle.records.specs.Views.{ViewTable, no_view, view_at, view_slots, with_view, with_pointer_capture, with_pointer_captures}
use Rattle.records.specs.Errors.{status_refusal}
use Rattle.records.specs.Layers.{layers, is_live, layers_without}
use Rattle.records.specs.Surfaces.{is_interactive, surface_status, descriptor_of}
use Rattle.composition_state.specs.declared.registry.CompositionRegistry.{CompositionRegistry}
use Rattle.composition_state.specs.Registry.{with_views}
use Rattle.composition_input.specs.Captures.{loses_primary as has_primary, left_view, cleared_at, device_cleared}
use Rattle.composition_close.specs.Close.{detached}
use Rattle.composition_close.specs.Detach.{had_capture, takes_focus as may_be_focused, topmost, detached_view}
use Rattle.input_router.specs.declared.router.PlatformInputRouter.{PlatformInputRouter}
use Rattle.input_router.specs.declared.view_releases.ViewReleased.{ViewReleased}
use Rattle.input_router.specs.Releases.{without_device_presses}
use Rattle.input_router.specs.Router.{presses_of}
use Rattle.input_router.specs.ViewReleases.{release_view_to, release_view}
use Rattle.book.specs.Ids.{is_same_device, press_device}
use Rattle.refusals.specs.Left.{any, drop_presses, is_press_by, is_press_in, kind_of, closed_owner, is_kind_before, in_every_view, changed_from, is_primary, primary_device, is_capture_by, loses_primary, without_device, captures_in, layers_but, takes_focus, is_capture_on, field_left, without_panel, panel_out}

-- ---- presses
press_by : (d : InputDeviceId) (k : BindingKey) → is_same_device (press_device k) d ≡ device_same (binding_key k) d
press_by d (Pointer p) = refl
press_by d (Key k) = refl
press_by d (Gamepad e) = refl

pub device_presses_lem : (t : PlatformInputRouter) (d : InputDeviceId)
    → without_device_presses t d ≡ drop_presses (is_press_by d) t
device_presses_lem t d = sym (λ i. drop_presses (λ x. press_by d x.key i) t)

kind_is : (k : BindingKey) → (binding_key k).kind ≡ kind_of k
kind_is (Pointer p) = refl
kind_is (Key k) = refl
kind_is (Gamepad d) = refl

-- a panel that is looked up without refusal is live
live_is : (s : SlotStatus) → is_ok (status_refusal s InvalidSurface StaleSurface) ≡ is_live s
live_is Live = refl
live_is Invalid = refl
live_is Stale = refl

module _ (r : CompositionRegistry) (t : PlatformInputRouter) (view : GenerationalHandle) where
  -- the release of a view, by the closed owner that it meets
  abbrev pub release_to : Option Binding → ViewReleased
  release_to owner = release_view_to t r.surfaces view owner

  pub owner_met : release_view t r.surfaces view ≡ release_to (closed_owner r t)
  unfolding release_view
  owner_met = λ i. release_to (first (λ x. not (live_is (surface_status r.surfaces x.surface) i)) (presses_of t))

  pub before_owner : (owner : Binding)
      → (release_to (Some owner)).router ≡ drop_presses (λ x. is_kind_before owner x && is_press_in r view x) t
  before_owner owner =
      λ i. drop_presses (λ x. ltb (kind_is x.key i) (kind_is owner.key i) && is_press_in r view x) t

-- ---- lists by a test
module _ {E : Type 0} (p : E → Bool) where
  -- an element that passes is found
  any_found : (l : List E) → is_some (first p l) ≡ any p l
  any_found [] = refl
  any_found (e ∷ l) = by_test (p e) (λ t. simp t) (λ t. simp (t, any_found l))

  any_counted : (l : List E) → not (eqb (length (keep p l)) 0) ≡ any p l
  any_counted [] = refl
  any_counted (e ∷ l) = by_test (p e)
      (λ t. rw t (ap not (ne_eqb (suc (length (keep p l))) 0 (λ z. omega arith))))
      (λ t. rw t (any_counted l))

-- ---- records changed where a test of their slot says so
module _ (f : ViewRecord → ViewRecord) where
  changed_none : (p : ℕ → Bool) → ((j : ℕ) → p j ≡ false) → (i : ℕ) (l : List ViewRecord) → changed_from p f i l ≡ l
  changed_none p off i [] = refl
  changed_none p off i (v ∷ l) = rw (off i) (ap (λ (m : List ViewRecord). v ∷ m) (changed_none p off (suc i) l))

  -- two tests that differ in slot k alone, where the second holds
  module _ (p q : ℕ → Bool) (k : ℕ) (same : (j : ℕ) → (j ≡ k → ⊥) → p j ≡ q j) where
    changed_after : (i : ℕ) → k < i → (l : List ViewRecord) → changed_from p f i l ≡ changed_from q f i l
    changed_after i h [] = refl
    changed_after i h (v ∷ l) =
        let here : p i ≡ q i = same i (λ e. omega arith) in
        let rest = changed_after (suc i) (omega arith) l in
        λ at. cond (here at) (f v) v ∷ rest at

    changed_next : p k ≡ false → q k ≡ true → (i j : ℕ) → i + j ≡ k → (l : List ViewRecord)
        → set (changed_from p f i l) j (f (get_or (changed_from p f i l) j no_view)) ≡ changed_from q f i l
    changed_next off on i j e [] = refl
    changed_next off on i zero e (v ∷ l) =
        let is : i ≡ k = omega arith in
        let rest = changed_after (suc i) (omega arith) l in
        rw (is, off, on) (ap (λ (m : List ViewRecord). f v ∷ m) (rw is at rest))
    changed_next off on i (suc j) e (v ∷ l) =
        let here : p i ≡ q i = same i (λ d. omega arith) in
        let rest = changed_next off on (suc i) j (omega arith) l in
        λ at. cond (here at) (f v) v ∷ rest at

-- ---- the views without a device's captures
-- as the call has it: slot after slot
abbrev pub cleared : InputDeviceId → CompositionRegistry → CompositionRegistry
cleared d r = with_views (device_cleared r.views d.value d.generation) r

module _ (d : InputDeviceId) where
  -- a view's map without the device's captures
  abbrev kept_map : ViewRecord → ViewRecord
  kept_map v = with_pointer_captures (retained captures (λ e. not (is_capture_by d e)) v.pointer_captures) v

  primary_kept : (v : ViewRecord) → has_primary d.value d.generation v.pointer_captures ≡ loses_primary d v
  primary_kept v =
      ap (λ (b : Bool). b && is_same_device primary_device d) (any_found (λ e. is_primary e.pointer) (captures_in v))

  by_field : (v : ViewRecord) (b : Bool) → cond b (with_pointer_capture None (kept_map v)) (kept_map v)
      ≡ with_pointer_capture (cond b None v.pointer_capture) (kept_map v)
  by_field v true = refl
  by_field v false = refl

  view_left_lem : (v : ViewRecord) → left_view d.value d.generation v ≡ without_device d v
  view_left_lem v =
      ap (λ (b : Bool). cond b (with_pointer_capture None (kept_map v)) (kept_map v)) (primary_kept v)
      ∙ by_field v (loses_primary d v)

  -- after the slots below n
  abbrev below : ViewTable → ℕ → ℕ → Bool
  below t n i = ltb i n && (slot_at t.arena i).filled

  abbrev cleared_to : ViewTable → ℕ → ViewTable
  cleared_to t n = record { arena = t.arena; records = changed_from (below t n) (without_device d) 0 t.records }

  -- one slot more, filled or not
  next_below : (t : ViewTable) (n j : ℕ) → (j ≡ n → ⊥) → below t n j ≡ below t (suc n) j
  next_below t n j h = by_test (ltb j n)
      (λ u. let less = ltb-true j n u in rw (u, lt-ltb j (suc n) (omega arith)))
      (λ u. let more = ltb-false j n u in rw (u, le-ltb j (suc n) (omega arith)))

  next_filled : (t : ViewTable) (n : ℕ) → (slot_at t.arena n).filled ≡ true → let l = (cleared_to t n).records in
      set l n (left_view d.value d.generation (get_or l n no_view)) ≡ (cleared_to t (suc n)).records
  next_filled t n u =
      let off : below t n n ≡ false = rw (le-ltb n n (omega arith)) in
      let on : below t (suc n) n ≡ true = and_both (lt-ltb n (suc n) (omega arith)) u in
      ap (set (cleared_to t n).records n) (view_left_lem _)
      ∙ changed_next (without_device d) (below t n) (below t (suc n)) n (next_below t n) off on
      0 n (zero-add n) t.records

  next_empty : (t : ViewTable) (n : ℕ) → (slot_at t.arena n).filled ≡ false → (j : ℕ) → below t n j ≡ below t (suc n) j
  next_empty t n u j = by_test (eqb j n)
      (λ e. rw (eqb-true j n e, le-ltb n n (omega arith), lt-ltb n (suc n) (omega arith), u))
      (λ e. next_below t n j (eqb-false j n e))

  next_cleared : (t : ViewTable) (n : ℕ) → cleared_at d.value d.generation n (cleared_to t n) ≡ cleared_to t (suc n)
  next_cleared t n = by_test (slot_at t.arena n).filled
      (λ u. rw u (ap (λ (l : List ViewRecord). record { arena = t.arena; records = l }) (next_filled t n u)))
      (λ u. rw u (λ i. record {
        arena = t.arena;
        records = changed_from (λ j. next_empty t n u j i) (without_device d) 0 t.records;
      }))

  cleared_to_lem : (t : ViewTable) (n : ℕ) → iter_below (cleared_at d.value d.generation) n t ≡ cleared_to t n
  unfolding iter_below
  cleared_to_lem t zero =
      let off : (j : ℕ) → below t 0 j ≡ false = λ j. rw (le-ltb j 0 (omega arith)) in
      λ i. record { arena = t.arena; records = sym (changed_none (without_device d) (below t 0) off 0 t.records) i }
  cleared_to_lem t (suc n) = ap (cleared_at d.value d.generation n) (cleared_to_lem t n) ∙ next_cleared t n

  pub device_left : (r : CompositionRegistry) → cleared d r ≡ in_every_view (without_device d) r
  unfolding device_cleared
  device_left r = ap (λ (t : ViewTable). with_views t r) (cleared_to_lem r.views (view_slots r.views))

-- ---- the view without a panel
takes_is : (live b : Bool) → cond live b false ≡ (live && b)
takes_is true b = refl
takes_is false b = refl

moved : (had : Bool) (x y f : Option GenerationalHandle) → x ≡ y → cond had (cond had x None) f ≡ cond had y f
moved true x y f e = e
moved false x y f e = refl

module _ (r : CompositionRegistry) (h : GenerationalHandle) (v : ViewRecord) where
  may_focus : (at : GenerationalHandle) → may_be_focused r.surfaces at ≡ takes_focus r at
  may_focus at =
      takes_is (is_live (surface_status r.surfaces at)) (is_interactive (descriptor_of r.surfaces at).input)

  topmost_is : topmost r.surfaces (layers_without h v.surfaces)
      ≡ first (takes_focus r) (reverse (layers_but h v))
  unfolding topmost
  topmost_is =
      rw (entries_packed layers _)
      (λ i. first (λ at. may_focus at i) (reverse (layers_but h v)))

  field_is : cond (had_capture v h) None v.pointer_capture ≡ field_left h v
  unfolding had_capture
  field_is =
      ap (λ (b : Bool). cond (holds_handle v.pointer_capture h || b) None v.pointer_capture)
      (any_counted (is_capture_on h) (captures_in v))

  view_out : detached_view r.surfaces v h ≡ without_panel r h v
  unfolding detached_view
  view_out = λ i. record {
    window = v.window;
    metrics = v.metrics;
    surfaces = layers_without h v.surfaces;
    focus = moved (holds_handle v.focus h) _ _ v.focus topmost_is i;
    pointer_capture = field_is i;
    pointer_captures = packed captures (keep (λ e. not (is_capture_on h e)) (captures_in v));
    ime = cond (holds_handle v.ime h) None v.ime;
  }

pub panel_out_lem : (h : GenerationalHandle) (r : CompositionRegistry) → detached h r ≡ panel_out h r
unfolding detached
panel_out_lem h r =
    let view = (descriptor_of r.surfaces h).view in
    ap (λ (v : ViewRecord). with_views (with_view view v r.views) r) (view_out r h (view_at r.views view))
