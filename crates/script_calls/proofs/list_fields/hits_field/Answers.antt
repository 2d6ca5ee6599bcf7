-- `hits_field` meets its contract: the closure reads the handle at its place.
use Rattle.std.proofs.Common.{ap, ◌∙◌, ◌+◌, ◌*◌, rules}
use Rattle.std.specs.Option.{option_and_then}
use Rattle.script.specs.Ranges.{unsigned_of}
use Rattle.script.specs.declared.number.Number.{Number}
use Rattle.script_calls.specs.Groups.{handle_at}
use Rattle.script_calls.specs.ListFields.{hits_from, hits_at}
use Rattle.script_calls.proofs.list_fields.hits_field.Goals as goal

pub returns : goal.returns
unfolding hits_at hits_from
returns c =
    let fs = c.args.fields in
    let i = c.args.i in
    c.list_of.ensures (λ k. handle_at fs (i + 1 + 2 * k)) (λ k r h p. search rules)
    ∙ ap (option_and_then (λ n. hits_from fs (i + 1) n)) c.in_ok-count.ensures
    ∙ ap (λ (n : Number). option_and_then (λ m. hits_from fs (i + 1) m) (unsigned_of 20 n)) c.field.ensures
