-- Laws of reading a number: a row of digits is read one by one, and one fault makes it no number.
use Rattle.std.proofs.Common.{◌≡◌, ℕ, ◌+◌, ◌<◌, List, [], ◌∷◌, length, drop, refl, ◌∙◌, get_or, add-one, drop-cons}
use mathlib.Core.List.{foldl}
use Rattle.std.specs.Prelude.{None, Some}
use Rattle.script.specs.Numbers.{push_digit, push_behind}

-- behind no number stands none
none_stays : (w : List ℕ) → foldl push_behind None w ≡ None
none_stays [] = refl
none_stays (b ∷ w) = none_stays w

-- one digit more
pub digit_next : (s : List ℕ) (i n : ℕ) → i < length s → foldl push_behind (Some n) (drop i s) ≡ foldl push_behind (push_digit n (get_or s i 0)) (drop (i + 1) s)
digit_next s i n h = rw (drop-cons s i 0 h, add-one)

pub digit_stops : (s : List ℕ) (i n : ℕ) → i < length s → push_digit n (get_or s i 0) ≡ None → foldl push_behind (Some n) (drop i s) ≡ None
digit_stops s i n h e = digit_next s i n h ∙ rw e (none_stays (drop (i + 1) s))
