-- No call has two forms, and every call has one.
use Rattle.std.specs.Prelude.{ℕ, ◌≡◌, true, List, length}
use Rattle.lists.specs.Lists.{pad}
use Rattle.calls.specs.declared.call.Call.{Call}
use Rattle.call_numbers.specs.Calls.{call_numbers, call_at}
use Rattle.call_numbers.specs.Fits.{FitsCall}
use Rattle.call_forms.specs.Forms.{is_form}

pub record CallFormClaims : Type 0 where
  -- what is accepted is exactly what the call read from it is written as
  pub forth : (l : List ℕ) → length l ≡ 32 → is_form l ≡ true → l ≡ pad 32 0 (call_numbers (call_at l))
  -- so two forms of one call are the same numbers
  pub one_form : (l m : List ℕ) → length l ≡ 32 → length m ≡ 32 → is_form l ≡ true → is_form m ≡ true → call_at l
      ≡ call_at m → l ≡ m
  -- what a call is written as is accepted
  pub accepted : (c : Call) → FitsCall c → is_form (pad 32 0 (call_numbers c)) ≡ true
