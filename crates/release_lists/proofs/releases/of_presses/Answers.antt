-- The presses are at most 128, so all of them find a place.
use Rattle.std.proofs.Common.{◌+◌, ◌≤◌, ◌∙◌, [], ap, arith, length, rules}
use Rattle.std.specs.List.{fold}
use Rattle.lists.specs.Tables.{entries_of, pushed_within}
use Rattle.lists.proofs.TableLaws.{few, all_within}
use Rattle.maps.specs.Bindings.{bindings}
use Rattle.maps.specs.declared.bindings.Binding.{Binding}
use Rattle.release_lists.specs.Releases.{Releases, releases}
use Rattle.release_lists.proofs.releases.of_presses.Goals as goal

pub returns : goal.returns
returns c =
    let l = entries_of bindings c.args.presses in
    let room : length {A = Binding} [] + length l ≤ 640 = omega (arith, few bindings c.args.presses (search rules)) in
    c.extended.ensures ∙ ap (λ (t : Releases). fold (pushed_within releases) t l) c.new.ensures ∙ all_within releases [] l room
