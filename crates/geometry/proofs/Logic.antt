-- What a test, an `||` and a `cond` come to, by going through the two truth values.
use Rattle.std.proofs.Common.{◌≡◌, ℕ, ◌<◌, Bool, true, false, cond, ◌||◌, T, ltb, ◌⊎◌, sym, refl, inl, inr, true≢false, lt→ltb}

pub bool_ext : (p q : Bool) → (T p → T q) → (T q → T p) → p ≡ q
bool_ext true true f g = refl
bool_ext true false f g = absurd (f tt)
bool_ext false true f g = absurd (g tt)
bool_ext false false f g = refl

pub is_true : (b : Bool) → T b → b ≡ true
is_true true t = refl
is_true false t = absurd t

pub or_split : (a b : Bool) → T (a || b) → T a ⊎ T b
or_split true b t = inl tt
or_split false b t = inr t

pub or_l : (a b : Bool) → T a → T (a || b)
or_l true b t = tt
or_l false b t = absurd t

pub or_r : (a b : Bool) → T b → T (a || b)
or_r true b t = tt
or_r false b t = t

-- a test that holds, before an `||`
pub ltb_or : {x y : ℕ} (b : Bool) → x < y → T (ltb x y || b)
ltb_or {x} {y} b h = or_l (ltb x y) b (lt→ltb x y h)

pub cond_true : {A : Type 0} (b : Bool) (x y : A) → b ≡ true → cond b x y ≡ x
cond_true true x y h = refl
cond_true false x y h = absurd (true≢false (sym h))

pub cond_false : {A : Type 0} (b : Bool) (x y : A) → b ≡ false → cond b x y ≡ y
cond_false true x y h = absurd (true≢false h)
cond_false false x y h = refl
