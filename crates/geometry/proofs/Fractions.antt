-- Sums and products of floats by the fractions that they equal, whatever the signs: equal fractions round alike.
use Rattle.std.proofs.Common.{◌≡◌, ℕ, ◌+◌, ◌-◌, ◌*◌, ◌<◌, Bool, true, false, cond, not, ◌&&◌, ltb, pos, sym, refl, ap, ◌∙◌, ap₂, le_of_eq, lt_of_lt_of_le, lt_of_le_of_lt, mul_assoc, mul_comm, add-mul, lt_of_mul-lt-mul_right, mul-lt-mul_of_pos_right, mul-pos, mul-one, mul_right_comm, ltb→lt, lt→ltb}
use mathlib.Core.Bool.{beq}
use native.Mathlib.Nat.{mul-mul-mul_comm, mul-sub}
use lib.Ieee.{Float, nan, inf, fin, Format, up, down, unlike, round, neg, sum, add, sub, mul, div}
use lib.Ieee.Fits.{up_pos, down_pos}
use lib.Ieee.Exact.{HasValue}
use lib.Ieee.Scale.{round_same}
use Rattle.geometry.proofs.Logic.{bool_ext}

pub mul_val : (f : Format) (x y : Float) (s t : Bool) (a c b d : ℕ)
    → 0 < c
    → 0 < d
    → HasValue x s a c
    → HasValue y t b d
    → mul f x y ≡ round f (unlike s t) (a * b) (c * d)
unfolding mul
mul_val f nan y s t a c b d C D p q = absurd p
mul_val f (inf u) y s t a c b d C D p q = absurd p
mul_val f (fin u m e) nan s t a c b d C D p q = absurd q
mul_val f (fin u m e) (inf w) s t a c b d C D p q = absurd q
mul_val f (fin u m e) (fin w n g) s t a c b d C D p q =
    let x = m * up e in
    let y = n * up g in
    let same : x * y * (c * d) ≡ a * b * (down e * down g) =
    mul-mul-mul_comm x y c d ∙ ap₂ (λ (k l : ℕ). k * l) p.1 q.1 ∙ mul-mul-mul_comm a (down e) b (down g) in
    ap₂ (λ (k l : Bool). round f (unlike k l) (x * y) (down e * down g)) p.0 q.0
    ∙ round_same f (unlike s t) (x * y) (down e * down g) (a * b) (c * d) (mul-pos (down_pos e) (down_pos g)) (mul-pos C D) same

-- a quotient by a power of two that is written 1 * 2 ^ k
pub div_val : (f : Format) (x : Float) (s : Bool) (a c k : ℕ)
    → 0 < c
    → 0 < up (pos k)
    → HasValue x s a c
    → div f x (fin false 1 (pos k)) ≡ round f s a (c * (1 * up (pos k)))
unfolding div
div_val f nan s a c k C K p = absurd p
div_val f (inf u) s a c k C K p = absurd p
div_val f (fin u m e) s a c k C K p =
    let x = m * up e in
    let w = 1 * up (pos k) in
    let W : 0 < w = mul-pos (up_pos (pos 0)) K in
    let same : x * 1 * (c * w) ≡ a * (w * down e) =
    ap (λ (l : ℕ). l * (c * w)) (mul-one x)
    ∙ sym (mul_assoc x c w)
    ∙ ap (λ (l : ℕ). l * w) p.1
    ∙ mul_assoc a (down e) w
    ∙ ap (λ (l : ℕ). a * l) (mul_comm (down e) w) in
    like u
    ∙ ap (λ (l : Bool). round f l (x * 1) (w * down e)) p.0
    ∙ round_same f s (x * 1) (w * down e) a (c * w) (mul-pos W (down_pos e)) (mul-pos C W) same
  where
    like : (u : Bool)
        → round f (unlike u false) (m * up e * 1) (1 * up (pos k) * down e) ≡ round f u (m * up e * 1) (1 * up (pos k) * down e)
    like true = refl
    like false = refl

-- x / C and y / C are a / c and b / c
module _ (x y C a b c : ℕ) (P : 0 < C) (Q : 0 < c) (h : x * c ≡ a * C) (k : y * c ≡ b * C) where
  order : ltb x y ≡ ltb a b
  order =
      bool_ext (ltb x y) (ltb a b)
      (λ t.
      let l : x * c < y * c = mul-lt-mul_of_pos_right (ltb→lt x y t) Q in
      lt→ltb a b (lt_of_mul-lt-mul_right C (lt_of_le_of_lt (le_of_eq (sym h)) (lt_of_lt_of_le l (le_of_eq k)))))
      (λ t.
      let l : a * C < b * C = mul-lt-mul_of_pos_right (ltb→lt a b t) P in
      lt→ltb x y (lt_of_mul-lt-mul_right c (lt_of_le_of_lt (le_of_eq h) (lt_of_lt_of_le l (le_of_eq (sym k))))))

  plus : (x + y) * c ≡ (a + b) * C
  plus = add-mul x y c ∙ ap₂ (λ (m n : ℕ). m + n) h k ∙ sym (add-mul a b C)

  less : (x - y) * c ≡ (a - b) * C
  less =
      mul_comm (x - y) c
      ∙ mul-sub c x y
      ∙ ap₂ (λ (m n : ℕ). m - n) (mul_comm c x ∙ h ∙ mul_comm a C) (mul_comm c y ∙ k ∙ mul_comm b C)
      ∙ sym (mul-sub C a b)
      ∙ mul_comm C (a - b)

sum_same : (f : Format) (s t : Bool) (x y C a b c : ℕ)
    → 0 < C
    → 0 < c
    → x * c ≡ a * C
    → y * c ≡ b * C
    → sum f s x t y C ≡ sum f s a t b c
unfolding sum
sum_same f s t x y C a b c P Q h k = go (beq s t)
  where
    tail : (u : Bool)
        → cond u (round f t (y - x) C) (round f (s && ltb y x) (x - y) C)
        ≡ cond u (round f t (b - a) c) (round f (s && ltb b a) (a - b) c)
    tail true = round_same f t (y - x) C (b - a) c P Q (less y x C b a c P Q k h)
    tail false =
        ap (λ (l : Bool). round f (s && l) (x - y) C) (order y x C b a c P Q k h)
        ∙ round_same f (s && ltb b a) (x - y) C (a - b) c P Q (less x y C a b c P Q h k)

    go : (u : Bool)
        → cond u (round f s (x + y) C) (cond (ltb x y) (round f t (y - x) C) (round f (s && ltb y x) (x - y) C))
        ≡ cond u (round f s (a + b) c) (cond (ltb a b) (round f t (b - a) c) (round f (s && ltb b a) (a - b) c))
    go true = round_same f s (x + y) C (a + b) c P Q (plus x y C a b c P Q h k)
    go false =
        ap (λ (l : Bool). cond l (round f t (y - x) C) (round f (s && ltb y x) (x - y) C)) (order x y C a b c P Q h k)
        ∙ tail (ltb a b)

-- two floats by fractions over one denominator
add_val : (f : Format) (x y : Float) (s t : Bool) (a b c : ℕ)
    → 0 < c
    → HasValue x s a c
    → HasValue y t b c
    → add f x y ≡ sum f s a t b c
unfolding add
add_val f nan y s t a b c C p q = absurd p
add_val f (inf u) y s t a b c C p q = absurd p
add_val f (fin u m e) nan s t a b c C p q = absurd q
add_val f (fin u m e) (inf w) s t a b c C p q = absurd q
add_val f (fin u m e) (fin w n g) s t a b c C p q =
    let x = m * up e in
    let y = n * up g in
    let d = down e * down g in
    let left : x * down g * c ≡ a * d =
    mul_right_comm x (down g) c ∙ ap (λ (k : ℕ). k * down g) p.1 ∙ mul_assoc a (down e) (down g) in
    let right : y * down e * c ≡ b * d =
    mul_right_comm y (down e) c
    ∙ ap (λ (k : ℕ). k * down e) q.1
    ∙ mul_assoc b (down g) (down e)
    ∙ ap (λ (k : ℕ). b * k) (mul_comm (down g) (down e)) in
    ap₂ (λ (k l : Bool). sum f k (x * down g) l (y * down e) d) p.0 q.0
    ∙ sum_same f s t (x * down g) (y * down e) d a b c (mul-pos (down_pos e) (down_pos g)) C left right

neg_val : (y : Float) (t : Bool) (b c : ℕ) → HasValue y t b c → HasValue (neg y) (not t) b c
unfolding neg
neg_val nan t b c q = absurd q
neg_val (inf w) t b c q = absurd q
neg_val (fin w n g) t b c q = (ap not q.0, q.1)

pub sub_val : (f : Format) (x y : Float) (s t : Bool) (a b c : ℕ)
    → 0 < c
    → HasValue x s a c
    → HasValue y t b c
    → sub f x y ≡ sum f s a (not t) b c
unfolding sub
sub_val f x y s t a b c C p q = add_val f x (neg y) s (not t) a b c C p (neg_val y t b c q)
