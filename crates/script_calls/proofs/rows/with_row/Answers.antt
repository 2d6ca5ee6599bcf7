-- `with_row` meets its contract: the letters to come answer as the whole row.
use Rattle.std.proofs.Common.{◌+◌, drop, get_or, length, sym, ap, ◌∙◌, add-zero}
use Rattle.std.specs.Option.{option_map, option_and_then}
use lib.ListN.{drop_of_length-le}
use mathlib.Core.List.{foldl}
use Rattle.lists.specs.Tables.{pushed_within}
use Rattle.script.specs.declared.number.Number.{Number}
use Rattle.script_calls.proofs.RowLaws.{read_row, letter_next, with_row_is}
use Rattle.script_calls.specs.Rows.{words, words_of, row_words}
use Rattle.script_calls.proofs.rows.with_row.Goals as goal

pub returns-in_err-words : goal.returns-in_err-words
returns-in_err-words c =
    let a = c.args in
    let l = c.loop-k in
    let read = ap (λ (n : Number). option_map (foldl (pushed_within words) l.words) (words_of (get_or a.row.now l.k 0) n)) (sym c.field.ensures) ∙ sym c.in_err-words.ensures in
    c.from_residual.ensures
    ∙ sym (with_row_is a.asked a.row.now a.fields a.from
    ∙ ap (option_map (λ w. record { words = w; end = a.from + length a.row.now }))
    (l.invariant ∙ letter_next l.words a.row.now a.fields a.from l.k c.loop-k-test.true
    ∙ ap (option_and_then (λ v. read_row v (drop (l.k + 1) a.row.now) a.fields (a.from + (l.k + 1)))) read))

pub loop-k-preserved : goal.loop-k-preserved
loop-k-preserved c =
    let a = c.args in
    let l = c.loop-k in
    let read = ap (λ (n : Number). option_map (foldl (pushed_within words) l.words) (words_of (get_or a.row.now l.k 0) n)) (sym c.field.ensures) ∙ sym c.in_ok-words.ensures in
    l.invariant ∙ letter_next l.words a.row.now a.fields a.from l.k c.loop-k-test.true
    ∙ ap (option_and_then (λ v. read_row v (drop (l.k + 1) a.row.now) a.fields (a.from + (l.k + 1)))) read

pub returns : goal.returns
unfolding row_words
returns c =
    let a = c.args in
    let l = c.loop-k in
    sym (with_row_is a.asked a.row.now a.fields a.from
    ∙ ap (option_map (λ w. record { words = w; end = a.from + length a.row.now })) (l.invariant ∙ ap (λ r. read_row l.words r a.fields (a.from + l.k)) (drop_of_length-le a.row.now c.loop-k-test.false)))
