-- Which numbers are a form: only those that the call read from them is written as.
use Rattle.std.specs.Prelude.{ℕ, Bool, List, nat_eq}
use Rattle.std.specs.Cmp.Lexicographic.{pointwise}
use Rattle.lists.specs.Lists.{pad}
use Rattle.call_numbers.specs.Calls.{call_numbers, call_at}

unfoldable pub is_form : List ℕ → Bool
is_form l = pointwise nat_eq l (pad 32 0 (call_numbers (call_at l)))
