-- Tests, counts and iteration over the indices below a bound.
use Rattle.std.specs.Prelude.{ℕ, zero, suc, ◌+◌, Bool, true, cond, ◌&&◌}

-- whether p holds of every index below n
unfoldable pub all_below : (ℕ → Bool) → ℕ → Bool
all_below p zero = true
all_below p (suc n) = all_below p n && p n

-- of how many indices below n p holds
unfoldable pub count_below : (ℕ → Bool) → ℕ → ℕ
count_below p zero = 0
count_below p (suc n) = cond (p n) (count_below p n + 1) (count_below p n)

-- s after a step for each index below n, from 0 on
unfoldable pub iter_below : {S : Type 0} → (ℕ → S → S) → ℕ → S → S
iter_below f zero s = s
iter_below f (suc n) s = f n (iter_below f n s)
