-- No press stands twice in a list in release order, nor in parts of it put together, and so no release; nor does one in captures whose
-- panels each have one view.
use mathlib.Core.Path.{◌≡◌, refl, sym, ap, ◌∙◌}
use mathlib.Core.Bool.{Bool, true, not, ◌&&◌}
use mathlib.Core.List.{List, [], ◌∷◌, ◌++◌, map}
use borrow.Author.Tests.{not-true}
use Rattle.lists.specs.Lists.{keep, all}
use Rattle.lists.specs.Maps.{rising}
use Rattle.lists.specs.Orders.{Ordered, both_same}
use Rattle.lists.proofs.ListLaws.{by_test, clash, and_left, and_right, and_both, all_append, keep_passes}
use Rattle.lists.proofs.OrderLaws.{pairs}
use Rattle.lists.proofs.RisingLaws.{Over, Sorted, rising_sorted}
use Rattle.handles.specs.Handles.{same_handle}
use Rattle.handles.specs.declared.GenerationalHandle.{GenerationalHandle}
use Rattle.handles.proofs.HandleLaws.{handles}
use Rattle.maps.specs.Captures.{capture_key}
use Rattle.maps.specs.Bindings.{key_of_binding}
use Rattle.maps.specs.Keys.{key_same}
use Rattle.maps.specs.declared.bindings.Binding.{Binding}
use Rattle.maps.specs.declared.keys.MapKey.{MapKey}
use Rattle.maps.proofs.MapTableLaws.{keys}
use Rattle.composition_state.specs.declared.registry.CompositionRegistry.{CompositionRegistry}
use Rattle.composition_soundness.proofs.ListLaws.{all_as, all_keep}
use Rattle.book.specs.Ids.{press_before}
use Rattle.book.specs.Book.{Held, key_of, held_place, place_before}
use Rattle.book.specs.Owed.{is_same_press_of, is_same_release, none_twice, cancel_of, then_captures}
use Rattle.registry_book.specs.Agreement.{is_open, view_of, is_held_well}
use Rattle.registry_book.specs.MapTests.{map_place, place_lt}
use Rattle.registry_book.proofs.ListLaws.{all_map}
use Rattle.history.proofs.TestLaws.{presses}

-- ---- one release and another
pub release_self : (x : Binding) → is_same_release x x ≡ true
release_self x = and_both (presses.same_refl x.key) (handles.same_refl x.surface)

pub release_is : (x y : Binding) → is_same_release x y ≡ true → x ≡ y
release_is x y h =
    let k = presses.same_eq x.key y.key (and_left (is_same_press_of x y) _ h) in
    let s = handles.same_eq x.surface y.surface (and_right (is_same_press_of x y) _ h) in
    λ i. record { key = k i; surface = s i }

pub press_swap : (x y : Binding) → not (is_same_press_of x y) ≡ true → not (is_same_press_of y x) ≡ true
press_swap x y h = by_test (is_same_press_of y x)
    (λ t. clash (rw (presses.same_eq y.key x.key t) (presses.same_refl x.key)) (not-true (is_same_press_of x y) h))
    (λ t. ap not t)

abbrev pub is_other : Binding → Binding → Bool
is_other x y = not (is_same_release x y)

pub other_sym : (x y : Binding) → is_other x y ≡ true → is_other y x ≡ true
other_sym x y h = by_test (is_same_release y x)
    (λ t. clash (ap (λ (z : Binding). is_same_release z y) (sym (release_is y x t)) ∙ release_self y) (not-true (is_same_release x y) h))
    (λ t. ap not t)

-- ---- lists in which none stands twice, by any test
module _ (same : Binding → Binding → Bool) where
  -- none of one list is the same as one of the other
  abbrev pub apart : List Binding → List Binding → Bool
  apart a b = all (λ x. all (λ y. not (same x y)) b) a

  pub apart_sym : ((x y : Binding) → not (same x y) ≡ true → not (same y x) ≡ true) → (a b : List Binding) → apart b a ≡ true → apart a b ≡ true
  apart_sym swap [] b h = refl
  apart_sym swap (x ∷ a) b h = and_both
      (all_as (λ y. not (same y x) && all (λ z. not (same y z)) a) (λ y. not (same x y)) (λ y t. swap y x (and_left (not (same y x)) (all (λ z. not (same y z)) a) t)) b h)
      (apart_sym swap a b (all_as (λ y. not (same y x) && all (λ z. not (same y z)) a) (λ y. all (λ z. not (same y z)) a) (λ y t. and_right (not (same y x)) (all (λ z. not (same y z)) a) t) b h))

  pub once_append : (a b : List Binding) → none_twice same a ≡ true → none_twice same b ≡ true → apart a b ≡ true → none_twice same (a ++ b) ≡ true
  unfolding none_twice
  once_append [] b h k s = k
  once_append (x ∷ a) b h k s = and_both
      (all_append (λ y. not (same x y)) a b ∙ and_both (and_left (all (λ y. not (same x y)) a) (none_twice same a) h) (and_left (all (λ y. not (same x y)) b) (apart a b) s))
      (once_append a b (and_right (all (λ y. not (same x y)) a) (none_twice same a) h) k (and_right (all (λ y. not (same x y)) b) (apart a b) s))

  pub once_keep : (p : Binding → Bool) (l : List Binding) → none_twice same l ≡ true → none_twice same (keep p l) ≡ true
  unfolding none_twice
  once_keep p [] h = refl
  once_keep p (x ∷ l) h =
      let rest = once_keep p l (and_right (all (λ y. not (same x y)) l) (none_twice same l) h) in
      by_test (p x)
      (λ t. rw t (and_both (all_keep (λ y. not (same x y)) p l (and_left (all (λ y. not (same x y)) l) (none_twice same l) h)) rest))
      (λ t. rw t rest)

-- where no press stands twice no release does
other_press : (x y : Binding) → not (is_same_press_of x y) ≡ true → is_other x y ≡ true
other_press x y h = rw (not-true (is_same_press_of x y) h)

pub releases_once : (l : List Binding) → none_twice is_same_press_of l ≡ true → none_twice is_same_release l ≡ true
unfolding none_twice
releases_once [] h = refl
releases_once (x ∷ l) h = and_both
    (all_as (λ y. not (is_same_press_of x y)) (is_other x) (other_press x) l (and_left (all (λ y. not (is_same_press_of x y)) l) (none_twice is_same_press_of l) h))
    (releases_once l (and_right (all (λ y. not (is_same_press_of x y)) l) (none_twice is_same_press_of l) h))

-- ---- presses in release order
over_others : (x : Binding) (l : List Binding) → Over key_of press_before x.key l → all (λ y. not (is_same_press_of x y)) l ≡ true
over_others x [] h = refl
over_others x (y ∷ l) h = and_both
    (by_test (is_same_press_of x y)
    (λ t. clash h.0 (rw (presses.same_eq x.key y.key t) (presses.irrefl y.key)))
    (λ t. ap not t))
    (over_others x l h.1)

sorted_once : (l : List Binding) → Sorted key_of press_before l → none_twice is_same_press_of l ≡ true
unfolding none_twice
sorted_once [] s = refl
sorted_once (x ∷ l) s = and_both (over_others x l s.0) (sorted_once l s.1)

pub rising_once : (l : List Binding) → rising key_of press_before l ≡ true → none_twice is_same_press_of l ≡ true
rising_once l h = sorted_once l (rising_sorted key_of presses l h)

-- ---- captures
-- the order of captures, by view and pointer
pub places : Ordered place_lt (both_same same_handle key_same)
places = pairs handles keys

module _ (r : CompositionRegistry) where
  -- a panel has one view, so captures with the same pointer and panel have the same place
  one_place : (x y : Held) → is_held_well r x ≡ true → is_held_well r y ≡ true → is_same_release (cancel_of x) (cancel_of y) ≡ true → map_place x ≡ map_place y
  one_place x y u v t =
      let same : cancel_of x ≡ cancel_of y = release_is (cancel_of x) (cancel_of y) t in
      let at : (z : Held) → is_held_well r z ≡ true → view_of r z.capture.surface ≡ z.view =
      λ z w. handles.same_eq (view_of r z.capture.surface) z.view (and_right (is_open r z.capture.surface) _ w) in
      let view : x.view ≡ y.view = sym (at x u) ∙ ap (λ (z : Binding). view_of r z.surface) same ∙ at y v in
      let key : capture_key x.capture ≡ capture_key y.capture = ap key_of_binding same in
      λ i. (view i, key i)

  over_cancels : (x : Held) (l : List Held) → is_held_well r x ≡ true → all (is_held_well r) l ≡ true → Over map_place place_lt (map_place x) l → all (λ y. is_other (cancel_of x) (cancel_of y)) l ≡ true
  over_cancels x [] u w h = refl
  over_cancels x (y ∷ l) u w h = and_both
      (by_test (is_same_release (cancel_of x) (cancel_of y))
      (λ t. clash h.0 (ap (λ (k : GenerationalHandle × MapKey). place_lt k (map_place y)) (one_place x y u (and_left (is_held_well r y) _ w) t) ∙ places.irrefl (map_place y)))
      (λ t. ap not t))
      (over_cancels x l u (and_right (is_held_well r y) _ w) h.1)

  cancels_once : (l : List Held) → all (is_held_well r) l ≡ true → Sorted map_place place_lt l → none_twice is_same_release (map cancel_of l) ≡ true
  unfolding none_twice
  cancels_once [] w s = refl
  cancels_once (x ∷ l) w s =
      let rest = and_right (is_held_well r x) (all (is_held_well r) l) w in
      and_both (all_map cancel_of (is_other (cancel_of x)) l ∙ over_cancels x l (and_left (is_held_well r x) (all (is_held_well r) l) w) rest s.0) (cancels_once l rest s.1)

  pub captures_once : (l : List Held) → all (is_held_well r) l ≡ true → rising held_place place_before l ≡ true → none_twice is_same_release (map cancel_of l) ≡ true
  captures_once l w h = cancels_once l w (rising_sorted map_place places l h)

-- presses, then captures that are not among them
pub then_once : (l : List Binding) (cs : List Held) → none_twice is_same_release l ≡ true → none_twice is_same_release (map cancel_of cs) ≡ true → none_twice is_same_release (then_captures l cs) ≡ true
unfolding then_captures
then_once l cs h k =
    once_append is_same_release l (keep (λ x. all (is_other x) l) (map cancel_of cs)) h (once_keep is_same_release (λ x. all (is_other x) l) (map cancel_of cs) k)
    (apart_sym is_same_release other_sym l (keep (λ x. all (is_other x) l) (map cancel_of cs)) (keep_passes (λ x. all (is_other x) l) (map cancel_of cs)))
