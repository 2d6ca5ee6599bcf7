-- The claims about the maps and their keys: the laws of maps at each kind of entry, and each key made again from its numbers.
use mathlib.Core.Path.{◌≡◌, refl, ap}
use native.Mathlib.Omega.{arith}
use Rattle.maps.specs.declared.keys.CompositionPointerId.{CompositionPointerId}
use Rattle.maps.specs.declared.keys.InputDeviceId.{InputDeviceId}
use Rattle.maps.specs.declared.keys.BindingKey.{BindingKey}
use Rattle.maps.specs.declared.keys.BindingKey.TheVariants.{Pointer, Key, Gamepad}
use Rattle.maps.specs.declared.keys.MapKey.{MapKey}
use Rattle.maps.specs.Keys.{binding_key}
use Rattle.maps.specs.Captures.{capture_key}
use Rattle.maps.specs.Sequences.{sequence_key}
use Rattle.maps.specs.Bindings.{key_of_binding}
use Rattle.maps.specs.Claims.{Claims}
use Rattle.maps.proofs.MapTableLaws as map

-- the key of each kind that has these numbers
abbrev pointer_of : MapKey → CompositionPointerId
pointer_of k = record { device = k.device; device_generation = k.generation; contact = k.code }

abbrev device_of : MapKey → InputDeviceId
device_of k = record { value = k.device; generation = k.generation }

-- keys of different kinds differ in their first number
kinds : (j k : MapKey) → j ≡ k → j.kind ≡ k.kind
kinds j k e = ap (λ (x : MapKey). x.kind) e

one_binding : (j k : BindingKey) → binding_key j ≡ binding_key k → j ≡ k
one_binding (Pointer p) (Pointer q) e = ap (λ (x : MapKey). Pointer (pointer_of x)) e
one_binding (Key j) (Key k) e = ap (λ (x : MapKey). Key (record { device = device_of x; physical_key = x.code })) e
one_binding (Gamepad d) (Gamepad f) e = ap (λ (x : MapKey). Gamepad (device_of x)) e
one_binding (Pointer p) (Key k) e = let z = kinds _ _ e in absurd (omega arith)
one_binding (Pointer p) (Gamepad d) e = let z = kinds _ _ e in absurd (omega arith)
one_binding (Key k) (Pointer p) e = let z = kinds _ _ e in absurd (omega arith)
one_binding (Key k) (Gamepad d) e = let z = kinds _ _ e in absurd (omega arith)
one_binding (Gamepad d) (Pointer p) e = let z = kinds _ _ e in absurd (omega arith)
one_binding (Gamepad d) (Key k) e = let z = kinds _ _ e in absurd (omega arith)

pub claims : Claims
claims = record {
  captures = map.claims capture_key;
  sequences = map.claims sequence_key;
  bindings = map.claims key_of_binding;
  one_pointer = λ p q e. ap pointer_of e;
  one_device = λ d f e. ap device_of e;
  one_binding = one_binding;
  pointers_first = λ p k. refl;
  keys_second = λ k d. refl;
}
