-- What holds of the maps and their keys beyond the answers of each call.
use Rattle.std.specs.Prelude.{◌≡◌, true}
use Rattle.lists.specs.MapClaims.{MapClaims}
use Rattle.maps.specs.declared.keys.CompositionPointerId.{CompositionPointerId}
use Rattle.maps.specs.declared.keys.InputDeviceId.{InputDeviceId}
use Rattle.maps.specs.declared.keys.DeviceKey.{DeviceKey}
use Rattle.maps.specs.declared.keys.BindingKey.{BindingKey}
use Rattle.maps.specs.declared.keys.BindingKey.TheVariants.{Pointer, Key, Gamepad}
use Rattle.maps.specs.Keys.{pointer_key, device_key, binding_key, key_lt, key_same}
use Rattle.maps.specs.Captures.{capture_key}
use Rattle.maps.specs.Sequences.{sequence_key}
use Rattle.maps.specs.Bindings.{key_of_binding}

pub record Claims : Type 0 where
  -- the laws of maps, at each kind of entry
  pub captures : MapClaims capture_key key_lt key_same
  pub sequences : MapClaims sequence_key key_lt key_same
  pub bindings : MapClaims key_of_binding key_lt key_same
  -- keys with the same numbers are the same key
  pub one_pointer : (p q : CompositionPointerId) → pointer_key p ≡ pointer_key q → p ≡ q
  pub one_device : (d e : InputDeviceId) → device_key d ≡ device_key e → d ≡ e
  pub one_binding : (j k : BindingKey) → binding_key j ≡ binding_key k → j ≡ k
  -- RULES.md, Release order: pointers before keys before gamepads
  pub pointers_first : (p : CompositionPointerId) (k : DeviceKey)
      → key_lt (binding_key (Pointer p)) (binding_key (Key k))
      ≡ true
  pub keys_second : (k : DeviceKey) (d : InputDeviceId) → key_lt (binding_key (Key k)) (binding_key (Gamepad d)) ≡ true
