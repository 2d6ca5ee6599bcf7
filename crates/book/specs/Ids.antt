-- RULES.md, Release order: what tells devices, presses and panels apart, and their orders. The book says this for
-- itself and takes no test of the router; that the router's tests and orders are these is proved in `history`.
use Rattle.std.specs.Prelude.{ℕ, Bool, true, false}
use Rattle.lists.specs.Orders.{pair_lt, pair_same, triple_lt, triple_same}
use Rattle.handles.specs.declared.GenerationalHandle.{GenerationalHandle}
use Rattle.maps.specs.declared.keys.BindingKey.{BindingKey}
use Rattle.maps.specs.declared.keys.BindingKey.TheVariants.{Pointer, Key, Gamepad}
use Rattle.maps.specs.declared.keys.CompositionPointerId.{CompositionPointerId}
use Rattle.maps.specs.declared.keys.DeviceKey.{DeviceKey}
use Rattle.maps.specs.declared.keys.InputDeviceId.{InputDeviceId}

-- ---- panels and views: "A handle is an index and a generation .. ordered by index, then generation."
abbrev pub handle_parts : GenerationalHandle → ℕ × ℕ
handle_parts h = (h.index, h.generation)

abbrev pub is_same_handle : GenerationalHandle → GenerationalHandle → Bool
is_same_handle g h = pair_same (handle_parts g) (handle_parts h)

abbrev pub handle_before : GenerationalHandle → GenerationalHandle → Bool
handle_before g h = pair_lt (handle_parts g) (handle_parts h)

-- ---- devices: "that device id (value and generation)"
abbrev pub device_parts : InputDeviceId → ℕ × ℕ
device_parts d = (d.value, d.generation)

abbrev pub is_same_device : InputDeviceId → InputDeviceId → Bool
is_same_device d e = pair_same (device_parts d) (device_parts e)

-- the device of a pointer, and of a press
abbrev pub pointer_device : CompositionPointerId → InputDeviceId
pointer_device p = record { value = p.device; generation = p.device_generation }

abbrev pub press_device : BindingKey → InputDeviceId
press_device (Pointer p) = pointer_device p
press_device (Key k) = k.device
press_device (Gamepad d) = d

-- ---- presses: "a press is a pointer, a device's key or its gamepad"
abbrev pub pointer_parts : CompositionPointerId → ℕ × (ℕ × ℕ)
pointer_parts p = (p.device, (p.device_generation, p.contact))

abbrev pub key_parts : DeviceKey → ℕ × (ℕ × ℕ)
key_parts k = (k.device.value, (k.device.generation, k.physical_key))

abbrev pub is_same_pointer : CompositionPointerId → CompositionPointerId → Bool
is_same_pointer p q = triple_same (pointer_parts p) (pointer_parts q)

abbrev pub pointer_before : CompositionPointerId → CompositionPointerId → Bool
pointer_before p q = triple_lt (pointer_parts p) (pointer_parts q)

-- the same press: of one kind, with the same numbers
abbrev pub is_same_press : BindingKey → BindingKey → Bool
is_same_press (Pointer p) (Pointer q) = is_same_pointer p q
is_same_press (Pointer p) (Key k) = false
is_same_press (Pointer p) (Gamepad d) = false
is_same_press (Key k) (Pointer p) = false
is_same_press (Key j) (Key k) = triple_same (key_parts j) (key_parts k)
is_same_press (Key k) (Gamepad d) = false
is_same_press (Gamepad d) (Pointer p) = false
is_same_press (Gamepad d) (Key k) = false
is_same_press (Gamepad d) (Gamepad e) = is_same_device d e

-- "Pointers by device, generation, contact; keys by device, generation, key; gamepads by device, generation": kind
-- after kind
abbrev pub press_before : BindingKey → BindingKey → Bool
press_before (Pointer p) (Pointer q) = pointer_before p q
press_before (Pointer p) (Key k) = true
press_before (Pointer p) (Gamepad d) = true
press_before (Key k) (Pointer p) = false
press_before (Key j) (Key k) = triple_lt (key_parts j) (key_parts k)
press_before (Key k) (Gamepad d) = true
press_before (Gamepad d) (Pointer p) = false
press_before (Gamepad d) (Key k) = false
press_before (Gamepad d) (Gamepad e) = pair_lt (device_parts d) (device_parts e)
