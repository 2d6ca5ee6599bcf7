-- `put_bytes` meets its contract: with room the copy is the text put.
use Rattle.std.proofs.Common.{◌≡◌, ℕ, ◌+◌, ◌-◌, List, length, sym, ◌∙◌, append_assoc, arith}
use Rattle.answer_text.proofs.PutLaws.{put_yes, put_no}
use Rattle.answer_text.specs.Put.{over}
use lib.Seq.{drop-drop}
use borrow.Rule.Slice.PartMut.{put_mid}
use Rattle.answer_text.proofs.put.put_bytes.Goals as goal

-- what stands in the middle is the text
pasted : (buf s mid : List ℕ) (at n : ℕ) → n ≡ length s → mid ≡ s → ◌≡◌ {A = List ℕ × ℕ} (put_mid at n buf mid, at + length s) (over s buf at, at + length s)
pasted buf s mid at n e f = rw (e, f, drop-drop (length s) at buf, append_assoc)

more : (at k : ℕ) → at + k - at ≡ k
more at k = omega arith

pub returns-then-not-has_room : goal.returns-then-not-has_room
returns-then-not-has_room c = sym (put_no c.args.s.now c.args.buf.now c.args.at (sym c.has_room.ensures ∙ c.if-not-has_room.true))

pub returns : goal.returns
returns c =
    pasted c.args.buf.now c.args.s.now _ c.args.at _ (more c.args.at (length c.args.s.now)) c.copy_from_slice.ensures.after
    ∙ sym (put_yes c.args.s.now c.args.buf.now c.args.at (sym c.has_room.ensures ∙ c.if-not-has_room.false))
