-- `put_u64` meets its contract: the last digits, as many as the number has, are its decimal text.
use Prim.Native.Nat.{ℕ, ◌+◌, ◌^◌, ◌<◌}
use mathlib.Core.Bool.{Bool, true}
use mathlib.Core.List.{List, ◌++◌}
use mathlib.Core.Path.{◌≡◌, sym}
use native.Mathlib.Omega.{arith}
use lib.Dec.{leb}
use lib.ListN.{length, take, drop}
use Rattle.answer_text.specs.Decimal.{decimal, last_digits}
use Rattle.answer_text.specs.Put.{over, put}
use Rattle.answer_text.proofs.DecimalLaws.{all_digits}
use Rattle.answer_text.proofs.PutLaws.{put_yes, put_no}
use Rattle.answer_text.proofs.put.put_u64.Goals as goal

-- the test of the room, at the number's own length
room : (at k n size : ℕ) (r : Bool) {b : Bool} → k ≡ length (decimal n) → r ≡ leb (at + k) size → r ≡ b → leb (at + length (decimal n)) size ≡ b
room at k n size r e t u = rw (sym e, sym t) u

spelled : (buf : List ℕ) (at k n : ℕ) → n < 10 ^ 20 → k ≡ length (decimal n) → take at buf ++ last_digits k n ++ drop (at + k) buf ≡ over (decimal n) buf at
spelled buf at k n b e = rw (e, all_digits n b)

put_is : (buf : List ℕ) (at k n : ℕ) → n < 10 ^ 20 → k ≡ length (decimal n) → leb (at + length (decimal n)) (length buf) ≡ true → ◌≡◌ {A = List ℕ × ℕ} (take at buf ++ last_digits k n ++ drop (at + k) buf, at + k) (put (decimal n) (buf, at))
put_is buf at k n b e t = rw (put_yes (decimal n) buf at t, spelled buf at k n b e, e)

pub returns-then-not-has_room : goal.returns-then-not-has_room
returns-then-not-has_room c = sym (put_no _ c.args.buf.now c.args.at (room c.args.at _ c.args.n _ _ c.places-k.ensures c.has_room.ensures c.if-not-has_room.true))

pub returns : goal.returns
returns c = rw c.put_digits.ensures (put_is c.args.buf.now c.args.at _ c.args.n (omega arith) c.places-k.ensures (room c.args.at _ c.args.n _ _ c.places-k.ensures c.has_room.ensures c.if-not-has_room.false))
