-- A float is under 2 ^ -52 in size exactly where it lies between -2 ^ -52 and 2 ^ -52: on each side of zero one of the two tests decides.
use Rattle.std.proofs.Common.{◌≡◌, ℕ, ◌+◌, ◌*◌, ◌<◌, true, false, negsuc, sym, refl, ◌∙◌, true≢false, arith, lt-ltb}
use lib.Ieee.{Float, nan, inf, fin, up, down, lt}
use lib.Ieee.Fits.{down_pos}
use Rattle.geometry.specs.Transform.{epsilon, is_under_epsilon}

abbrev pub minus_epsilon : Float
minus_epsilon = fin true 1 (negsuc 51)

-- numbers on the two sides of zero
apart : (a d : ℕ) → 0 < d → 0 < 1 * 1 * d + a
apart a d h = omega arith

apart' : (a d : ℕ) → 0 < d → 0 < a + 1 * 1 * d
apart' a d h = omega arith

pub low_side : (d : Float) → lt d epsilon ≡ true → lt minus_epsilon d ≡ is_under_epsilon d
unfolding lt
low_side nan h = refl
low_side (inf true) h = refl
low_side (inf false) h = absurd (true≢false (sym h))
low_side (fin true m e) h = refl
low_side (fin false m e) h = lt-ltb 0 _ (apart (m * up e * down (negsuc 51)) (down e) (down_pos e)) ∙ sym h

pub high_side : (d : Float) → lt d epsilon ≡ false → lt d epsilon ≡ is_under_epsilon d
unfolding lt
high_side nan h = refl
high_side (inf true) h = absurd (true≢false h)
high_side (inf false) h = refl
high_side (fin false m e) h = refl
high_side (fin true m e) h =
    absurd (true≢false (sym (lt-ltb 0 _ (apart' (m * up e * down (negsuc 51)) (down e) (down_pos e))) ∙ h))
