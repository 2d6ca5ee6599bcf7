-- What holds of the two lists of a line: which fields an entry is read from, and what stands in the table; and that a
-- list with an entry out of its range is none, and makes no call.
use Rattle.std.specs.Prelude.{ℕ, ◌+◌, ◌*◌, ◌≤◌, ◌<◌, ◌≡◌, cond, List, take, get_or, None, Some, is_some}
use Rattle.lists.specs.Below.{all_below}
use Rattle.lists.specs.Lists.{pad}
use Rattle.lists.specs.Tables.{packed}
use Rattle.handles.specs.Handles.{handle_of}
use Rattle.handles.specs.declared.GenerationalHandle.{GenerationalHandle}
use Rattle.records.specs.Traces.{hits}
use Rattle.records.specs.declared.shortcut.SurfaceShortcutRegistration.{SurfaceShortcutRegistration}
use Rattle.script.specs.Ranges.{unsigned_of}
use Rattle.script.specs.Lines.{Fields}
use Rattle.script.specs.declared.verb.StepVerb.TheVariants.{RegisterSurfaceSystemShortcutSet, Arbitrate}
use Rattle.script.specs.declared.verb.Verb.TheVariants as verb
use Rattle.script_calls.specs.Calls.{call_of}
use Rattle.script_calls.specs.Groups.{number_at, handle_at}
use Rattle.script_calls.specs.ListFields.{handles_from, hits_of, hits_from, no_registration, registration_at, list_from, registrations_of, registrations_from}
use Rattle.script_calls.specs.ListValues.{handle_value, registration_value, handle_values, registration_values}

pub record ListClaims : Type 0 where
  -- an entry is read from its own fields
  pub hit_at : (fs : Fields) (i n k : ℕ) (l : List GenerationalHandle) → handles_from fs i n ≡ Some l → k < n
      → handle_at fs (i + 2 * k) ≡ Some (get_or l k (handle_of 0 0))
  pub registration_at_lem : (fs : Fields) (i n k : ℕ) (l : List SurfaceShortcutRegistration) → list_from fs i n ≡ Some l
      → k < n → registration_at fs (i + 3 * k) ≡ Some (get_or l k no_registration)
  -- a list that fits its table stands there whole, with blanks behind it
  pub hits_packed : (fs : Fields) (i n : ℕ) (l : List GenerationalHandle) → handles_from fs i n ≡ Some l → n ≤ 16
      → hits_from fs i n ≡ Some (packed hits l)
  pub registrations_held : (fs : Fields) (i n : ℕ) (l : List SurfaceShortcutRegistration) → list_from fs i n ≡ Some l
      → n ≤ 64 → registrations_from fs i n ≡ Some (record { items = pad 64 no_registration l; len = n })
  -- of a longer one the first entries stand
  pub hits_cut : (fs : Fields) (i n : ℕ) (l : List GenerationalHandle) → handles_from fs i n ≡ Some l → 16 ≤ n
      → hits_from fs i n ≡ Some (record { items = take 16 l; len = n })
  pub registrations_cut : (fs : Fields) (i n : ℕ) (l : List SurfaceShortcutRegistration) → list_from fs i n ≡ Some l
      → 64 ≤ n → registrations_from fs i n ≡ Some (record { items = take 64 l; len = n })
  -- every list, whatever its entries: the table of its values, or none where an entry is out of its range
  pub every_hits : (fs : Fields) (i n : ℕ) → hits_from fs i n
      ≡ cond (all_below (λ k. is_some (handle_at fs (i + 2 * k))) n) (Some (hits_of n (handle_values fs i n))) None
  pub every_registrations : (fs : Fields) (i n : ℕ) → registrations_from fs i n
      ≡ cond (all_below (λ k. is_some (registration_at fs (i + 3 * k))) n)
      (Some (registrations_of n (registration_values fs i n))) None
  -- a value is read from its own fields
  pub hit_value_at : (fs : Fields) (i n k : ℕ) → k < n
      → get_or (handle_values fs i n) k (handle_of 0 0) ≡ handle_value fs (i + 2 * k)
  pub registration_value_at : (fs : Fields) (i n k : ℕ) → k < n
      → get_or (registration_values fs i n) k no_registration ≡ registration_value fs (i + 3 * k)
  -- values that fit their table stand there whole, with blanks behind them
  pub values_packed : (fs : Fields) (i n : ℕ) → n ≤ 16
      → hits_of n (handle_values fs i n) ≡ packed hits (handle_values fs i n)
  pub values_held : (fs : Fields) (i n : ℕ) → n ≤ 64
      → (registrations_of n (registration_values fs i n)).items ≡ pad 64 no_registration (registration_values fs i n)
  -- of more the first stand
  pub hit_values_cut : (fs : Fields) (i n : ℕ) → 16 ≤ n
      → (hits_of n (handle_values fs i n)).items ≡ handle_values fs i 16
  pub registration_values_cut : (fs : Fields) (i n : ℕ) → 64 ≤ n
      → (registrations_of n (registration_values fs i n)).items ≡ registration_values fs i 64
  -- one entry out of its range, and there is no list
  pub hits_none : (fs : Fields) (i n k : ℕ) → k < n → handle_at fs (i + 2 * k) ≡ None → hits_from fs i n ≡ None
  pub registrations_none : (fs : Fields) (i n k : ℕ) → k < n → registration_at fs (i + 3 * k) ≡ None
      → registrations_from fs i n ≡ None
  -- and the line makes no call
  pub arbitrate_none : (fs : Fields) (n k : ℕ) → unsigned_of 20 (number_at fs 10) ≡ Some n → k < n
      → handle_at fs (11 + 2 * k) ≡ None → call_of (record { verb = verb.Step Arbitrate; fields = fs }) ≡ None
  pub register_none : (fs : Fields) (n k : ℕ) → unsigned_of 70 (number_at fs 3) ≡ Some n → k < n
      → registration_at fs (4 + 3 * k) ≡ None
      → call_of (record { verb = verb.Step RegisterSurfaceSystemShortcutSet; fields = fs }) ≡ None
