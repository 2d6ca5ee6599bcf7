-- The keys of the maps, and their one order.
use Rattle.std.specs.Prelude.{ℕ, Bool, not, ◌&&◌, eqb}
use Rattle.lists.specs.Orders.{quad_lt, quad_same, pair_same}
use Rattle.maps.specs.declared.keys.CompositionPointerId.{CompositionPointerId}
use Rattle.maps.specs.declared.keys.InputDeviceId.{InputDeviceId}
use Rattle.maps.specs.declared.keys.BindingKey.{BindingKey}
use Rattle.maps.specs.declared.keys.BindingKey.TheVariants as B
use Rattle.maps.specs.declared.keys.MapKey.{MapKey}

-- RULES.md, Validity: valid means value and generation not 0, contact not 4,294,967,295
abbrev pub pointer_valid : CompositionPointerId → Bool
pointer_valid p = not (eqb p.device 0) && (not (eqb p.device_generation 0) && not (eqb p.contact 4294967295))

abbrev pub device_valid : InputDeviceId → Bool
device_valid d = not (eqb d.value 0) && not (eqb d.generation 0)

abbrev pub map_key : ℕ → ℕ → ℕ → ℕ → MapKey
map_key kind device generation code = record { kind = kind; device = device; generation = generation; code = code }

-- RULES.md, Release order: pointers by device, generation, contact; then keys by device, generation, key; then gamepads
-- by device, generation
abbrev pub pointer_key : CompositionPointerId → MapKey
pointer_key p = map_key 0 p.device p.device_generation p.contact

abbrev pub device_key : InputDeviceId → MapKey
device_key d = map_key 2 d.value d.generation 0

abbrev pub binding_key : BindingKey → MapKey
binding_key (B.Pointer p) = pointer_key p
binding_key (B.Key k) = map_key 1 k.device.value k.device.generation k.physical_key
binding_key (B.Gamepad d) = device_key d

abbrev pub parts : MapKey → ℕ × (ℕ × (ℕ × ℕ))
parts k = (k.kind, (k.device, (k.generation, k.code)))

abbrev pub key_lt : MapKey → MapKey → Bool
key_lt a b = quad_lt (parts a) (parts b)

abbrev pub key_same : MapKey → MapKey → Bool
key_same a b = quad_same (parts a) (parts b)

-- RULES.md, Release order: of that device id, value and generation
abbrev pub device_same : MapKey → InputDeviceId → Bool
device_same k d = pair_same (k.device, k.generation) (d.value, d.generation)
