-- `registrations_field` meets its contract: the closure reads the registration at its place.
use Rattle.std.proofs.Common.{ap, ◌∙◌, ◌+◌, ◌*◌, rules}
use Rattle.std.specs.Option.{option_and_then}
use Rattle.script.specs.Ranges.{unsigned_of}
use Rattle.script.specs.declared.number.Number.{Number}
use Rattle.script_calls.specs.ListFields.{registration_at, registrations_from, registrations_at}
use Rattle.script_calls.proofs.list_fields.registrations_field.Goals as goal

pub returns : goal.returns
unfolding registrations_at registrations_from
returns c =
    let fs = c.args.fields in
    let i = c.args.i in
    c.list_of.ensures (λ k. registration_at fs (i + 1 + 3 * k)) (λ k r h p. search rules)
    ∙ ap (option_and_then (λ n. registrations_from fs (i + 1) n)) c.in_ok-count.ensures
    ∙ ap (λ (n : Number). option_and_then (λ m. registrations_from fs (i + 1) m) (unsigned_of 70 n)) c.field.ensures
