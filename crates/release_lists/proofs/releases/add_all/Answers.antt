-- After i turns the first i captures are added.
use Rattle.std.proofs.Common.{◌≡◌, ◌≤◌, ◌∙◌, sym, ap, arith, length, rules}
use Rattle.lists.specs.Tables.{entries_of, packed}
use Rattle.lists.proofs.TableLaws.{few}
use Rattle.maps.specs.Bindings.{bindings}
use Rattle.maps.specs.Captures.{no_capture}
use Rattle.release_lists.specs.Releases.{releases}
use Rattle.release_lists.proofs.ReleaseLaws.{entries_are, packed_self, add_none, add_turn, add_room}
use Rattle.release_lists.proofs.releases.add_all.Goals as goal

pub loop-capture-init : goal.loop-capture-init
loop-capture-init c = c.of_presses-list.ensures ∙ ap (packed releases) (sym (add_none _))

pub add-list-requires-clause-list_value : goal.add-list-requires-clause-list_value
add-list-requires-clause-list_value c = packed_self releases _ _ c.loop-capture.invariant

pub add-list-requires-clause-list_len_bound : goal.add-list-requires-clause-list_len_bound
add-list-requires-clause-list_len_bound c =
    let a = c.args in
    let l = c.loop-capture in
    omega (
      arith,
      ap length (entries_are releases _ _ l.invariant),
      add_room a.captures.now l.capture-index no_capture c.loop-capture-test.true (entries_of bindings a.presses) (few bindings a.presses (search rules)) c.requires,
    )

pub loop-capture-preserved : goal.loop-capture-preserved
loop-capture-preserved c =
    let a = c.args in
    let l = c.loop-capture in
    c.add-list.ensures ∙ rw (entries_are releases _ _ l.invariant) (ap (packed releases) (add_turn a.captures.now l.capture-index _ c.loop-capture-test.true (entries_of bindings a.presses)))
