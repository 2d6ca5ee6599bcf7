-- A call is read back from its numbers, so that no two calls have one form.
use Rattle.std.specs.Prelude.{◌≡◌}
use Rattle.lists.specs.Lists.{pad}
use Rattle.calls.specs.declared.call.Call.{Call}
use Rattle.call_numbers.specs.Calls.{call_numbers, call_at}
use Rattle.call_numbers.specs.Fits.{FitsCall}

pub record CallNumberClaims : Type 0 where
  -- the call of a call's numbers, with zeros behind them, is that call
  pub back : (c : Call) → FitsCall c → call_at (pad 32 0 (call_numbers c)) ≡ c
  -- two calls with the same numbers are one
  pub one : (c d : Call) → FitsCall c → FitsCall d → call_numbers c ≡ call_numbers d → c ≡ d
