-- The `f64` determinant of four `i32` entries is finite: rounding keeps an order, so each product is at most 2 ^ 30 in size.
use Rattle.std.proofs.Common.{◌≡◌, ℕ, suc, ◌+◌, ◌-◌, ◌*◌, ◌^◌, ◌<◌, ◌≤◌, Bool, true, false, cond, not, ◌&&◌, ◌||◌, T, eqb, ltb, ℤ, pos, negsuc, sym, refl, subst, inl, inr, true≢false, le_trans, le_of_eq, lt_of_le_of_lt, le_of_lt, mul-le-mul, mul-one, arith, lit<, lit≤, eqb→eq, ltb→lt, pow_pos, w32, SFits}
use mathlib.Core.Bool.{beq}
use lib.Ieee.{Float, nan, inf, fin, binary64, up, down, unlike, odd, units, round, sum, mul, div, le, of_int}
use lib.Ieee.Fits.{down_pos, and_l, round_is}
use lib.Ieee.Exact.{HasValue, odd_sign, units_val}
use lib.Ieee.Order.{drop, kept, transfer, round_mono}
use lib.Ieee.Scale.{grid, overflow, finite, round_val, round_under}
use lib.Ieee.Back.{round_whole}
use Rattle.geometry.specs.Transform.{matrix_entry, determinant, is_finite}
use Rattle.geometry.specs.Claims.{I32Entries, float_determinant}
use Rattle.geometry.specs.declared.transform.SurfaceTransform.{SurfaceTransform}
use Rattle.geometry.proofs.Logic.{or_split}
use Rattle.geometry.proofs.Exact.{exact_at}
use Rattle.geometry.proofs.Fractions.{mul_val, div_val, sub_val}

-- x is a fraction over c, and is at most B in size
record AtMost (x : Float) (c B : ℕ) : Type 0 where
  sign : Bool
  size : ℕ
  value : HasValue x sign size c
  bound : size ≤ B * c

finite_of : (x : Float) (s : Bool) (a c : ℕ) → HasValue x s a c → T (finite x)
finite_of nan s a c v = absurd v
finite_of (inf t) s a c v = absurd v
finite_of (fin t m e) s a c v = tt

is_finite_lem : (x : Float) (s : Bool) (a c : ℕ) → HasValue x s a c → is_finite x ≡ true
is_finite_lem nan s a c v = absurd v
is_finite_lem (inf t) s a c v = absurd v
is_finite_lem (fin t m e) s a c v = refl

-- a float that is no larger than a finite one, and not negative, is finite
no_inf : (y : Float) (b d : ℕ) → HasValue y false b d → T (le (inf false) y) → ⊥
unfolding le
no_inf nan b d v h = v
no_inf (inf t) b d v h = v
no_inf (fin t n g) b d v h = h

units_finite : (y : Float) (b d q k : ℕ) → HasValue y false b d → T (le (units binary64 false q k) y) → T (finite (units binary64 false q k))
unfolding units
units_finite y b d q k v = go (ltb (q * 2 ^ k) (overflow binary64))
  where
    go : (u : Bool) → T (le (cond u (odd 54 false q k 1074) (inf false)) y) → T (finite (cond u (odd 54 false q k 1074) (inf false)))
    go true h = finite_of (odd 54 false q k 1074) false (q * 2 ^ k) (2 ^ 1074) (odd_sign 54 false q k 1074)
    go false h = absurd (no_inf y b d v h)

cross : (x y : ℕ) → T (ltb x y || (eqb x y && true)) → x ≤ y
cross x y t =
    elim (or_split (ltb x y) (eqb x y && true) t) [
      | inl u ↦ le_of_lt (ltb→lt x y u)
      | inr u ↦ le_of_eq (eqb→eq x y (and_l (eqb x y) true u))
    ]

le_says : (x y : Float) (a c b d : ℕ) → HasValue x false a c → HasValue y false b d → T (le x y) → a * d ≤ b * c
unfolding le
le_says nan y a c b d v w h = absurd v
le_says (inf s) y a c b d v w h = absurd v
le_says (fin true m e) y a c b d v w h = absurd (true≢false v.0)
le_says (fin false m e) nan a c b d v w h = absurd w
le_says (fin false m e) (inf t) a c b d v w h = absurd w
le_says (fin false m e) (fin true n g) a c b d v w h = absurd (true≢false w.0)
le_says (fin false m e) (fin false n g) a c b d v w h =
    transfer a b c d (m * up e) (n * up g) (down e) (down g) (down_pos e) (down_pos g) (sym v.1) (sym w.1)
    (cross (m * up e * down g) (n * up g * down e) h)

-- a fraction of at most B rounds to a float of at most B
round_at_most : (s : Bool) (num den B : ℕ) → 0 < den → B ≤ 2 ^ 53 → num ≤ B * den → AtMost (round binary64 s num den) (2 ^ 1074) B
round_at_most s num den B D b h =
    let x = round binary64 false num den in
    let y = round binary64 false B 1 in
    let w : HasValue y false B 1 = round_whole binary64 false B b in
    let l : T (le x y) = round_mono binary64 num den B 1 D (lit< tt) (le_trans (le_of_eq (mul-one num)) h) in
    let q = kept 53 (num * 2 ^ 1074) den in
    let k = drop 53 (num * 2 ^ 1074) den in
    let is = round_is binary64 false num den in
    let f : T (finite x) =
    subst (λ (v : Float). T (finite v)) (sym is) (units_finite y B 1 q k w (subst (λ (v : Float). T (le v y)) is l)) in
    let n = grid binary64 num den in
    let g : n < overflow binary64 = round_under binary64 num den f in
    let v : HasValue x false n (2 ^ 1074) = round_val binary64 num den g in
    record {
      sign = s;
      size = n;
      value =
          subst (λ (r : Float). HasValue r s n (2 ^ 1074)) (sym (round_is binary64 s num den)) (units_val binary64 s q k g);
      bound = le_trans (le_of_eq (sym (mul-one n))) (le_says x y n (2 ^ 1074) B 1 v w l);
    }

-- a matrix entry is a whole number of 65,536ths
scaled_down : (s : Bool) (n : ℕ) → n ≤ 2 ^ 31 → HasValue (div binary64 (round binary64 s n 1) (fin false 1 (pos 16))) s n 65536
scaled_down s n h =
    subst (λ (x : Float). HasValue x s n 65536)
    (sym (div_val binary64 (round binary64 s n 1) s n 1 16 (lit< tt) (lit< tt) (round_whole binary64 s n (le_trans h (lit≤ tt)))))
    (exact_at s n 65536 n 16 (lit< tt) (lt_of_le_of_lt h (lit< tt)) (lit≤ tt) refl)

entry_at_most : (z : ℤ) → SFits w32 z → AtMost (matrix_entry z) 65536 (2 ^ 15)
unfolding of_int
entry_at_most (pos n) f =
    let h = le_of_lt f.sfits in record { sign = false; size = n; value = scaled_down false n h; bound = h }
entry_at_most (negsuc n) f =
    record { sign = true; size = suc n; value = scaled_down true (suc n) f.sfits; bound = f.sfits }

product_at_most : (x y : Float) → AtMost x 65536 (2 ^ 15) → AtMost y 65536 (2 ^ 15) → AtMost (mul binary64 x y) (2 ^ 1074) (2 ^ 30)
product_at_most x y p q =
    subst (λ (v : Float). AtMost v (2 ^ 1074) (2 ^ 30))
    (sym (mul_val binary64 x y p.sign q.sign p.size 65536 q.size 65536 (lit< tt) (lit< tt) p.value q.value))
    (round_at_most (unlike p.sign q.sign) (p.size * q.size) (2 ^ 32) (2 ^ 30) (lit< tt) (lit≤ tt) (mul-le-mul p.bound q.bound))

either : (u : Bool) (x y : Float) (c B : ℕ) → AtMost x c B → AtMost y c B → AtMost (cond u x y) c B
either true x y c B p q = p
either false x y c B p q = q

-- over any denominator, since 2 ^ 1074 is too long a numeral for the arithmetic
plus : (D a b : ℕ) → a ≤ 2 ^ 30 * D → b ≤ 2 ^ 30 * D → a + b ≤ 2 ^ 31 * D
plus D a b h k = omega arith

less : (D a b : ℕ) → a ≤ 2 ^ 30 * D → a - b ≤ 2 ^ 31 * D
less D a b h = omega arith

sum_at_most : (s : Bool) (a : ℕ) (t : Bool) (b : ℕ)
    → a ≤ 2 ^ 30 * 2 ^ 1074
    → b ≤ 2 ^ 30 * 2 ^ 1074
    → AtMost (sum binary64 s a t b (2 ^ 1074)) (2 ^ 1074) (2 ^ 31)
unfolding sum
sum_at_most s a t b h k =
    let D = 2 ^ 1074 in
    let at : (u : Bool) (n : ℕ) → n ≤ 2 ^ 31 * D → AtMost (round binary64 u n D) D (2 ^ 31) =
    λ u n l. round_at_most u n D (2 ^ 31) (pow_pos 1074) (lit≤ tt) l in
    either (beq s t) (round binary64 s (a + b) D)
    (cond (ltb a b) (round binary64 t (b - a) D) (round binary64 (s && ltb b a) (a - b) D)) D (2 ^ 31)
    (at s (a + b) (plus D a b h k))
    (either (ltb a b) (round binary64 t (b - a) D) (round binary64 (s && ltb b a) (a - b) D) D (2 ^ 31)
    (at t (b - a) (less D b a k)) (at (s && ltb b a) (a - b) (less D a b h)))

entries_finite : (x11 x12 x21 x22 : Float)
    → AtMost x11 65536 (2 ^ 15)
    → AtMost x12 65536 (2 ^ 15)
    → AtMost x21 65536 (2 ^ 15)
    → AtMost x22 65536 (2 ^ 15)
    → is_finite (determinant x11 x12 x21 x22) ≡ true
entries_finite x11 x12 x21 x22 h11 h12 h21 h22 =
    let p = product_at_most x11 x22 h11 h22 in
    let q = product_at_most x12 x21 h12 h21 in
    let r = sum_at_most p.sign p.size (not q.sign) q.size p.bound q.bound in
    let left = mul binary64 x11 x22 in
    let right = mul binary64 x12 x21 in
    let is = sub_val binary64 left right p.sign q.sign p.size q.size (2 ^ 1074) (pow_pos 1074) p.value q.value in
    is_finite_lem (determinant x11 x12 x21 x22) r.sign r.size (2 ^ 1074)
    (subst (λ (v : Float). HasValue v r.sign r.size (2 ^ 1074)) (sym is) r.value)

pub determinant_finite : (t : SurfaceTransform) → I32Entries t → is_finite (float_determinant t) ≡ true
determinant_finite t f =
    entries_finite _ _ _ _
    (entry_at_most t.m11_q16 f.m11)
    (entry_at_most t.m12_q16 f.m12)
    (entry_at_most t.m21_q16 f.m21)
    (entry_at_most t.m22_q16 f.m22)
