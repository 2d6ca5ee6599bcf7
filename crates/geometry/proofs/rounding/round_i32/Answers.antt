-- `round_i32` meets its contract: doubling is exact, so the whole part of twice the float, halved away from zero, is the nearest `i32`.
use Rattle.std.specs.Prelude.{Some}
use Rattle.std.proofs.Common.{◌≡◌, ◌^◌, ◌<◌, ℤ, sym, ap, ◌∙◌, subst, to_z-of_z, w32, w64, SFits, to_z, of_z, rules}
use lib.Signed.{mag}
use lib.Ieee.{Float, of_bits, neg, to_signed}
use lib.Ieee.Casts.{to_signed_in}
use Rattle.geometry.specs.Rounding.{half_away}
use Rattle.geometry.proofs.Integers.{widens}
use Rattle.geometry.proofs.RangeTests.{under_low, over_high}
use Rattle.geometry.proofs.Doubled.{twice}
use Rattle.geometry.proofs.Nearest.{Facts, facts}
use Rattle.geometry.proofs.rounding.round_i32.Goals as goal

-- twice the value, cut to an `i64` and read back from its bits: the number between the two calls
between : (v : Float) (r : ℤ) → r ≡ to_signed 63 (twice v) → to_z w64 (of_z w64 r) ≡ to_signed 63 (twice v)
between v r is =
    to_z-of_z (subst (λ (z : ℤ). SFits w64 z) (sym is) (record { sfits = to_signed_in 63 (twice v) })) ∙ is

pub truncating_f64_to_i64-twice-requires : goal.truncating_f64_to_i64-twice-requires
unfolding of_bits neg
truncating_f64_to_i64-twice-requires c =
    let known : Facts c.args.value = facts c.args.value (search rules) c.if-value.true c.if-value-2.true in
    record { lower_bound = known.above; upper_bound = known.below }

pub half_away-requires : goal.half_away-requires
unfolding of_bits neg
half_away-requires c =
    let known : Facts c.args.value = facts c.args.value (search rules) c.if-value.true c.if-value-2.true in
    subst (λ (z : ℤ). mag z < 2 ^ 33) (sym (between c.args.value c.truncating_f64_to_i64-twice.result c.truncating_f64_to_i64-twice.ensures)) known.narrow

-- what `half_away` gives
half : (c : goal.After-half_away)
    → c.half_away.result ≡ half_away (to_signed 63 (twice c.args.value))
half c = c.half_away.ensures ∙ ap half_away (between c.args.value c.truncating_f64_to_i64-twice.result c.truncating_f64_to_i64-twice.ensures)

fit : (c : goal.After-half_away) → Facts c.args.value → SFits w32 c.half_away.result
fit c known = subst (λ (z : ℤ). SFits w32 z) (sym (half c)) known.fit

pub overflow_cast-result : goal.overflow_cast-result
unfolding of_bits neg
overflow_cast-result c =
    let known : Facts c.args.value = facts c.args.value (search rules) c.if-value.true c.if-value-2.true in
    rw (to_z-of_z (widens (fit c known))) (fit c known)

pub returns-then-value-2 : goal.returns-then-value-2
unfolding of_bits neg
returns-then-value-2 c =
    let known : Facts c.args.value = facts c.args.value (search rules) c.if-value.true c.if-value-2.true in
    simp (to_z-of_z (widens (fit c known)), to_z-of_z (fit c known)) (ap Some (half c) ∙ known.is)

pub returns-else-value-2 : goal.returns-else-value-2
unfolding of_bits neg
returns-else-value-2 c = over_high _ c.if-value-2.false

pub returns-else-value : goal.returns-else-value
unfolding of_bits neg
returns-else-value c = under_low _ c.if-value.false
