-- The book's tests and orders are the router's: for each kind of press the same numbers are compared in the same order.
use mathlib.Core.Path.{◌≡◌, refl, sym, ap, ◌∙◌, subst}
use mathlib.Core.Bool.{Bool, true, false, not, cond, ◌&&◌}
use mathlib.Core.List.{List, ◌∷◌, ◌++◌}
use Prim.Native.Nat.{ℕ}
use lib.Dec.{ltb, eqb}
use Rattle.lists.specs.Lists.{keep}
use Rattle.lists.specs.Maps.{insert, rising, remove}
use Rattle.lists.specs.Orders.{Ordered}
use Rattle.lists.proofs.ListLaws.{by_test}
use Rattle.lists.proofs.OrderLaws.{number, through}
use Rattle.handles.specs.Handles.{same_handle, handle_lt}
use Rattle.handles.specs.declared.GenerationalHandle.{GenerationalHandle}
use Rattle.maps.specs.Bindings.{key_of_binding}
use Rattle.maps.specs.Keys.{binding_key, key_lt, key_same, device_same}
use Rattle.maps.specs.declared.bindings.Binding.{Binding}
use Rattle.maps.specs.declared.keys.BindingKey.{BindingKey}
use Rattle.maps.specs.declared.keys.BindingKey.TheVariants.{Pointer, Key, Gamepad}
use Rattle.maps.specs.declared.keys.CompositionPointerId.{CompositionPointerId}
use Rattle.maps.specs.declared.keys.InputDeviceId.{InputDeviceId}
use Rattle.maps.proofs.ClaimLaws as map
use Rattle.maps.proofs.MapTableLaws.{keys}
use Rattle.release_lists.specs.Releases.{is_on, is_pair}
use Rattle.input_router.specs.Releases.{is_of_device as is_of_router_device}
use Rattle.book.specs.Ids.{is_same_handle, handle_before, is_same_device, press_device, is_same_press, press_before}
use Rattle.book.specs.Book.{Held, Book, key_of, held_place, place_before, is_held_by_device, is_held_both, with_capture, is_of_device, is_on_panel}
use Rattle.book.specs.Owed.{is_same_release, cancel_of}
use Rattle.registry_book.specs.MapTests.{map_place, place_lt, is_of_map_device, is_map_entry, captured}

-- ---- panels and views
pub handle_same : is_same_handle ≡ same_handle
handle_same = refl

pub handle_order : handle_before ≡ handle_lt
handle_order = refl

-- ---- presses
-- a gamepad's key has no third number
third_order : (a b : ℕ) → ltb a b ≡ cond (eqb a b) false (ltb a b)
third_order a b = by_test (eqb a b)
    (λ t. ap (λ (k : ℕ). ltb k b) (number.same_eq a b t) ∙ number.irrefl b ∙ rw t)
    (λ t. rw t)

third_same : (a b : Bool) → (a && b) ≡ (a && (b && true))
third_same true true = refl
third_same true false = refl
third_same false b = refl

pub press_order : (j k : BindingKey) → press_before j k ≡ key_lt (binding_key j) (binding_key k)
press_order (Pointer p) (Pointer q) = refl
press_order (Pointer p) (Key k) = refl
press_order (Pointer p) (Gamepad d) = refl
press_order (Key k) (Pointer p) = refl
press_order (Key j) (Key k) = refl
press_order (Key k) (Gamepad d) = refl
press_order (Gamepad d) (Pointer p) = refl
press_order (Gamepad d) (Key k) = refl
press_order (Gamepad d) (Gamepad e) =
    ap (λ (b : Bool). cond (eqb d.value e.value) b (ltb d.value e.value)) (third_order d.generation e.generation)

pub press_same : (j k : BindingKey) → is_same_press j k ≡ key_same (binding_key j) (binding_key k)
press_same (Pointer p) (Pointer q) = refl
press_same (Pointer p) (Key k) = refl
press_same (Pointer p) (Gamepad d) = refl
press_same (Key k) (Pointer p) = refl
press_same (Key j) (Key k) = refl
press_same (Key k) (Gamepad d) = refl
press_same (Gamepad d) (Pointer p) = refl
press_same (Gamepad d) (Key k) = refl
press_same (Gamepad d) (Gamepad e) = third_same (eqb d.value e.value) (eqb d.generation e.generation)

-- so the book's is a strict order
pub presses : Ordered press_before is_same_press
presses = subst (λ (t : (BindingKey → BindingKey → Bool) × (BindingKey → BindingKey → Bool)). Ordered t.0 t.1) tests
    (through binding_key (map.claims).one_binding keys)
  where
    tests : ◌≡◌ {A = (BindingKey → BindingKey → Bool) × (BindingKey → BindingKey → Bool)}
        ((λ a b. key_lt (binding_key a) (binding_key b)), (λ a b. key_same (binding_key a) (binding_key b))) (press_before, is_same_press)
    tests = λ i. ((λ a b. sym (press_order a b) i), (λ a b. sym (press_same a b) i))

pub insert_is : (e : Binding) (l : List Binding) → insert key_of press_before e l ≡ insert key_of_binding key_lt e l
insert_is e l = λ i. keep (λ f. press_order f.key e.key i) l ++ (e ∷ keep (λ f. press_order e.key f.key i) l)

pub remove_is : (k : BindingKey) (l : List Binding) → remove key_of is_same_press k l ≡ remove key_of_binding key_same (binding_key k) l
remove_is k l = λ i. keep (λ e. not (press_same k e.key i)) l

pub rising_is : (l : List Binding) → rising key_of press_before l ≡ rising key_of_binding key_lt l
rising_is l = λ i. rising key_of (λ j k. press_order j k i) l

-- ---- a press of a device id, of a panel
device_same_lem : (d : InputDeviceId) (k : BindingKey) → is_same_device (press_device k) d ≡ device_same (binding_key k) d
device_same_lem d (Pointer p) = refl
device_same_lem d (Key k) = refl
device_same_lem d (Gamepad e) = refl

pub of_device : (d : InputDeviceId) → is_of_router_device d ≡ is_of_device d
of_device d = λ i x. sym (device_same_lem d x.key) i

pub on_panel : is_on ≡ is_on_panel
on_panel = refl

-- ---- captures
-- a pair of pointer and panel that is listed already
pub pair_is : (x : Held) (y : Binding) → is_pair x.capture y ≡ is_same_release (cancel_of x) y
pair_is x y = ap (λ (b : Bool). b && same_handle x.capture.surface y.surface) (sym (press_same (Pointer x.capture.pointer) y.key))

pub held_device : (d : InputDeviceId) → is_of_map_device d ≡ is_held_by_device d
held_device d = refl

pub held_both : (p : CompositionPointerId) (h : GenerationalHandle) → is_map_entry p h ≡ is_held_both p h
held_both p h = refl

pub place_order : (x y : Held) → place_lt (map_place x) (map_place y) ≡ place_before (held_place x) (held_place y)
place_order x y = refl

pub capture_is : (p : CompositionPointerId) (h : GenerationalHandle) (b : Book) → captured p h b ≡ with_capture p h b
unfolding captured with_capture
capture_is p h b = refl
