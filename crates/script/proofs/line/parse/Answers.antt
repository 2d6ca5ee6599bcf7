-- `parse` meets its contract: each turn reads one word, and the words to come answer as all of them.
use Rattle.std.proofs.Common.{rules, ◌≡◌, ℕ, List, [], refl, sym, ap, ◌∙◌, subst, replicate, arith}
use Rattle.std.proofs.lemmas.Grind.{common_steps}
use Rattle.std.specs.Prelude.{None, Some, Ok, Err}
use Rattle.script.specs.declared.fault.LineFault.TheVariants.{UnknownVerb, MalformedNumber}
use Rattle.script.specs.Lines.{Fields, zero_number, gathered}
use Rattle.lists.specs.Tables.{packed}
use Rattle.script.proofs.LineLaws.{Gathering, start, added, done, fields_read, no_number, too_many, turn, too_long, called_is}
use Rattle.script.proofs.WordLaws.{words_left, word_next, word_last, first_is}
use Rattle.script.specs.Verbs.{verb_named}
use Rattle.script.specs.Words.{later_words}
use Rattle.script.proofs.line.parse.Goals as goal

pub returns-then-line-gt4096 : goal.returns-then-line-gt4096
returns-then-line-gt4096 c = sym (too_long c.args.line.now c.if-line-gt4096.true)

pub returns-in_err-verb : goal.returns-in_err-verb
returns-in_err-verb c =
    let l : List ℕ = c.args.line.now in
    let w = first_is _ _ _ (λ x b q k. search rules) l _ _ _ c.split-words.ensures.rest c.split-words.ensures.done c.next.ensures.steps c.unwrap_or.ensures in
    let none : c.verb_named.result ≡ None = grind (arith, common_steps) in
    let r : c.from_residual.result ≡ Err UnknownVerb = grind (arith, common_steps) in
    r ∙ sym (called_is l None (gathered [] (later_words l)) c.if-line-gt4096.false (ap verb_named w.0 ∙ sym c.verb_named.ensures ∙ none) refl)

pub loop-word-init : goal.loop-word-init
unfolding packed
loop-word-init c =
    let l : List ℕ = c.args.line.now in
    let w = first_is _ _ _ (λ x b q k. search rules) l _ _ _ c.split-words.ensures.rest c.split-words.ensures.done c.next.ensures.steps c.unwrap_or.ensures in
    let e : words_left c.into_iter-word-iterator.result ≡ later_words l = ap words_left c.into_iter-word-iterator.ensures.into_iter_gives ∙ sym w.1 in
    subst (λ (f : Fields). Gathering (later_words l) (words_left c.into_iter-word-iterator.result) f.items f.len) (sym c.new-fields.ensures)
    (subst (λ (ws : List (List ℕ)). Gathering (later_words l) ws (replicate 256 zero_number) 0) (sym e) (start (later_words l)))

pub returns-in_err-number : goal.returns-in_err-number
returns-in_err-number c =
    let l : List ℕ = c.args.line.now in
    let w = first_is _ _ _ (λ x b q k. search rules) l _ _ _ c.split-words.ensures.rest c.split-words.ensures.done c.next.ensures.steps c.unwrap_or.ensures in
    let none : c.read_number.result ≡ None = grind (arith, common_steps) in
    let r : c.from_residual-in_err-number.result ≡ Err MalformedNumber = grind (arith, common_steps) in
    let v : c.verb_named.result ≡ Some c.in_ok-verb.verb = grind (arith, common_steps) in
    let n = word_next _ c.loop-word.word-iterator c.next-in-loop-word.new.self (λ x b q k. search rules) c.in-Some.word c.in-Some.ensures.steps in
    r ∙ sym (called_is l (Some c.in_ok-verb.verb) None c.if-line-gt4096.false (ap verb_named w.0 ∙ sym c.verb_named.ensures ∙ v) (no_number _ _ _ _ _ _ c.loop-word.invariant n (sym c.read_number.ensures ∙ none)))

pub returns-then-fields-ge256 : goal.returns-then-fields-ge256
returns-then-fields-ge256 c =
    let l : List ℕ = c.args.line.now in
    let w = first_is _ _ _ (λ x b q k. search rules) l _ _ _ c.split-words.ensures.rest c.split-words.ensures.done c.next.ensures.steps c.unwrap_or.ensures in
    let some : c.read_number.result ≡ Some c.in_ok-number.number = grind (arith, common_steps) in
    let v : c.verb_named.result ≡ Some c.in_ok-verb.verb = grind (arith, common_steps) in
    let n = word_next _ c.loop-word.word-iterator c.next-in-loop-word.new.self (λ x b q k. search rules) c.in-Some.word c.in-Some.ensures.steps in
    sym (called_is l (Some c.in_ok-verb.verb) None c.if-line-gt4096.false (ap verb_named w.0 ∙ sym c.verb_named.ensures ∙ v) (too_many _ _ _ _ _ _ c.loop-word.invariant n _ (sym c.read_number.ensures ∙ some) c.if-fields-ge256.true))

pub loop-word-preserved : goal.loop-word-preserved
loop-word-preserved c =
    let some : c.read_number.result ≡ Some c.in_ok-number.number = grind (arith, common_steps) in
    let n = word_next _ c.loop-word.word-iterator c.next-in-loop-word.new.self (λ x b q k. search rules) c.in-Some.word c.in-Some.ensures.steps in
    let put = c.push_in_place.ensures ∙ added c.loop-word.fields c.in_ok-number.number c.if-fields-ge256.false in
    subst (λ (f : Fields). Gathering (later_words c.args.line.now) (words_left c.next-in-loop-word.new.self) f.items f.len) (sym put)
    (turn _ _ _ _ _ _ c.loop-word.invariant n _ (sym c.read_number.ensures ∙ some) c.if-fields-ge256.false)

pub returns : goal.returns
returns c =
    let l : List ℕ = c.args.line.now in
    let w = first_is _ _ _ (λ x b q k. search rules) l _ _ _ c.split-words.ensures.rest c.split-words.ensures.done c.next.ensures.steps c.unwrap_or.ensures in
    let v : c.verb_named.result ≡ Some c.in_ok-verb.verb = grind (arith, common_steps) in
    let last = word_last c.loop-word.word-iterator c.in-None.ensures.steps.0 in
    ap (λ (f : Fields). Ok (record { verb = c.in_ok-verb.verb; fields = f })) (sym (fields_read _ _ _ _ c.loop-word.invariant))
    ∙ sym (called_is l (Some c.in_ok-verb.verb) _ c.if-line-gt4096.false (ap verb_named w.0 ∙ sym c.verb_named.ensures ∙ v) (done _ _ _ _ last c.loop-word.invariant))
