-- Soundness of a router, taken apart and put together; a router with fewer presses, or with one more where there is room, stays sound.
use Rattle.std.specs.Prelude.{Option, None, Some, is_ok}
use Prim.Native.Nat.{ℕ, ◌≤◌}
use mathlib.Core.Path.{◌≡◌, refl, sym}
use mathlib.Core.Bool.{Bool, true, ◌&&◌, ◌||◌}
use mathlib.Core.List.{List, []}
use native.Mathlib.Omega.{arith}
use borrow.Author.Tests.{le-leb, leb-true, lt-ltb, ltb-true, ltb-false}
use lib.Dec.{ltb, leb, eqb}
use lib.ListN.{length, length-take}
use Rattle.lists.specs.Lists.{keep}
use Rattle.lists.specs.Tables.{Shape, entries_of, packed}
use Rattle.lists.specs.Maps.{insert, rising}
use Rattle.lists.proofs.ListLaws.{by_test, clash, and_left, and_right, and_both, length_keep}
use Rattle.lists.proofs.TableLaws.{len_packed, entries_packed}
use Rattle.lists.proofs.MapLaws as map
use Rattle.maps.specs.Keys.{binding_key, key_lt}
use Rattle.maps.specs.MapTables.{is_some, found, accepts, keys_rise}
use Rattle.maps.specs.Bindings.{bindings, key_of_binding, surface_of}
use Rattle.maps.specs.Sequences.{sequences, sequence_key}
use Rattle.maps.specs.declared.bindings.Binding.{Binding}
use Rattle.maps.specs.declared.keys.BindingKey.{BindingKey}
use Rattle.maps.specs.declared.sequences.DeviceSequence.{DeviceSequence}
use Rattle.maps.proofs.MapTableLaws as maps
use Rattle.handles.specs.declared.GenerationalHandle.{GenerationalHandle}
use Rattle.input_router.specs.declared.router.PlatformInputRouter.{PlatformInputRouter}
use Rattle.input_router.specs.Router.{start_outcome, empty_router, with_bindings, with_sequences, with_timestamp, presses_of}
use Rattle.input_router.specs.Damage.{limit_sound, counts_sound, keys_sound, is_router_sound}
use Rattle.input_router.specs.Presses.{press, has_room_with, has_room, opened}

pub record Sound (r : PlatformInputRouter) : Type 0 where
  pub limit : limit_sound r ≡ true
  pub devices : r.device_sequences.table.len ≤ 32
  pub within : r.bindings.table.len ≤ r.max_active_bindings
  pub presses_rise : keys_rise bindings key_of_binding r.bindings ≡ true
  pub devices_rise : keys_rise sequences sequence_key r.device_sequences ≡ true

pub parts : (r : PlatformInputRouter) → is_router_sound r ≡ true → Sound r
unfolding is_router_sound
parts r h =
    let rest = and_right (limit_sound r) (counts_sound r && keys_sound r) h in
    let counts = and_left (counts_sound r) (keys_sound r) rest in
    let keys = and_right (counts_sound r) (keys_sound r) rest in
    let tables = and_left (leb r.bindings.table.len 128 && leb r.device_sequences.table.len 32) (leb r.bindings.table.len r.max_active_bindings) counts in
    record {
      limit = and_left (limit_sound r) (counts_sound r && keys_sound r) h;
      devices = leb-true r.device_sequences.table.len 32 (and_right (leb r.bindings.table.len 128) _ tables);
      within = leb-true r.bindings.table.len r.max_active_bindings (and_right (leb r.bindings.table.len 128 && leb r.device_sequences.table.len 32) _ counts);
      presses_rise = and_left (keys_rise bindings key_of_binding r.bindings) _ keys;
      devices_rise = and_right (keys_rise bindings key_of_binding r.bindings) _ keys;
    }

-- a limit that the start accepts is within the table
pub limit_within : (n : ℕ) → is_ok (start_outcome n) ≡ true → n ≤ 128
limit_within n h = by_test (ltb 128 n)
    (λ t. by_test (eqb n 0) (λ u. clash refl (sym (rw u at h))) (λ u. clash refl (sym (rw (u, t) at h))))
    (λ t. ltb-false 128 n t)

pub whole : (r : PlatformInputRouter) → Sound r → is_router_sound r ≡ true
unfolding is_router_sound
whole r s =
    let table : r.bindings.table.len ≤ 128 = omega (arith, s.within, limit_within r.max_active_bindings s.limit) in
    and_both s.limit
    (and_both (and_both (and_both (le-leb r.bindings.table.len 128 table) (le-leb r.device_sequences.table.len 32 s.devices)) (le-leb r.bindings.table.len r.max_active_bindings s.within))
    (and_both s.presses_rise s.devices_rise))

-- a table has no more entries than its count says
pub short : {E T : Type 0} (s : Shape E T) (t : T) → length (entries_of s t) ≤ s.len t
unfolding entries_of
short s t = simp length-take (omega arith)

pub empty_sound : (n : ℕ) → is_ok (start_outcome n) ≡ true → Sound (empty_router n)
empty_sound n h = record {
  limit = h;
  devices = omega (arith, len_packed sequences []);
  within = omega (arith, len_packed bindings []);
  presses_rise = rw (entries_packed bindings []);
  devices_rise = rw (entries_packed sequences []);
}

-- other presses that fit and rise
pub presses_sound : (r : PlatformInputRouter) (l : List Binding) → Sound r → length l ≤ r.max_active_bindings → rising key_of_binding key_lt l ≡ true → Sound (with_bindings (packed bindings l) r)
presses_sound r l s fit rise = record {
  limit = s.limit;
  devices = s.devices;
  within = omega (arith, len_packed bindings l);
  presses_rise = rw (entries_packed bindings l) rise;
  devices_rise = s.devices_rise;
}

pub kept_sound : (p : Binding → Bool) (r : PlatformInputRouter) → Sound r → Sound (with_bindings (packed bindings (keep p (presses_of r))) r)
kept_sound p r s =
    presses_sound r (keep p (presses_of r)) s
    (omega (arith, length_keep p (presses_of r), short bindings r.bindings, s.within))
    ((maps.claims key_of_binding).keep_rises p (presses_of r) s.presses_rise)

-- other devices that fit and rise
pub devices_sound : (r : PlatformInputRouter) (l : List DeviceSequence) → Sound r → length l ≤ 32 → rising sequence_key key_lt l ≡ true → Sound (with_sequences (packed sequences l) r)
devices_sound r l s fit rise = record {
  limit = s.limit;
  devices = omega (arith, len_packed sequences l);
  within = s.within;
  presses_rise = s.presses_rise;
  devices_rise = rw (entries_packed sequences l) rise;
}

-- the time says nothing of soundness
pub time_sound : (r : PlatformInputRouter) (time : ℕ) → Sound r → Sound (with_timestamp time r)
time_sound r time s = record { limit = s.limit; devices = s.devices; within = s.within; presses_rise = s.presses_rise; devices_rise = s.devices_rise }

-- ---- a press where there is room
module _ (r : PlatformInputRouter) (k : BindingKey) (h : GenerationalHandle) (s : Sound r) (room : has_room r k ≡ true) where
  pub opened_fits : length (insert key_of_binding key_lt (press k h) (presses_of r)) ≤ r.max_active_bindings
  opened_fits = go (found bindings key_of_binding (binding_key k) r.bindings) refl room
    where
      go : (f : Option Binding) → found bindings key_of_binding (binding_key k) r.bindings ≡ f → has_room_with (surface_of f) (length (presses_of r)) r.max_active_bindings ≡ true
          → length (insert key_of_binding key_lt (press k h) (presses_of r)) ≤ r.max_active_bindings
      go (Some f) q t = omega (arith, map.insert_fits_found key_of_binding maps.keys (press k h) f (presses_of r) q, short bindings r.bindings, s.within)
      go None q t = omega (arith, map.insert_fits key_of_binding maps.keys (press k h) (presses_of r), ltb-true (length (presses_of r)) r.max_active_bindings t)

  pub opened_accepted : accepts bindings key_of_binding (press k h) r.bindings ≡ true
  opened_accepted = go (found bindings key_of_binding (binding_key k) r.bindings) room
    where
      go : (f : Option Binding) → has_room_with (surface_of f) (length (presses_of r)) r.max_active_bindings ≡ true → (is_some f || ltb (length (presses_of r)) 128) ≡ true
      go (Some f) t = refl
      go None t = lt-ltb (length (presses_of r)) 128 (omega (arith, ltb-true (length (presses_of r)) r.max_active_bindings t, limit_within r.max_active_bindings s.limit))

  pub opened_sound : Sound (opened r k h)
  opened_sound =
      rw opened_accepted
      (presses_sound r (insert key_of_binding key_lt (press k h) (presses_of r)) s opened_fits ((maps.claims key_of_binding).insert_rises (press k h) (presses_of r) s.presses_rise))
