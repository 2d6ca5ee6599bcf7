-- `push_trace` meets its contract: a turn stores one trace more.
use Rattle.std.proofs.Common.{rules}
use mathlib.Core.Path.{◌≡◌, ap, ◌∙◌}
use Prim.Native.Nat.{◌≤◌, ◌+◌, ◌-◌}
use native.Mathlib.Omega.{arith}
use lib.ListN.{length, take, drop}
use mathlib.Core.List.{[]}
use lib.Seq.{take-length}
use borrow.Author.Tests.{lt-ltb}
use Rattle.lists.specs.Tables.{pushed, pushed_within}
use Rattle.lists.proofs.TableLaws.{few, len_packed}
use Rattle.records.specs.Traces.{Traces, traces}
use Rattle.composition_arbitration.specs.Trace.{kept_traces}
use Rattle.composition_arbitration.proofs.TraceLaws.{few_stay, turn, done}
use Rattle.composition_arbitration.proofs.trace.push_trace.Goals as goal

pub loop-old-init : goal.loop-old-init
loop-old-init c =
    let l = c.entries-stored.result.now in
    let from : c.saturating_sub-from.result ≡ (length l + 1) - kept_traces c.args.limit = c.saturating_sub-from.ensures ∙ rw c.kept_traces.ensures in
    let few_stored : length l ≤ 32 = rw c.entries-stored.ensures (few traces c.args.traces (search rules)) in
    (few_stay l c.args.limit _ few_stored from, omega (arith, ap (λ (t : Traces). t.len) c.new-next.ensures ∙ len_packed traces []), c.new-next.ensures)

pub loop-old-preserved : goal.loop-old-preserved
unfolding pushed pushed_within
loop-old-preserved c =
    let k = c.loop-old in
    let stored = c.entries-stored.result.now in
    let from = c.saturating_sub-from.result in
    let room = lt-ltb k.next.len 32 (omega arith) in
    let stored_is = rw room at c.push_in_place.ensures in
    (k.invariant.0, omega (arith, ap (λ (t : Traces). t.len) stored_is), stored_is ∙ rw k.invariant.2 (turn (take (length stored - from) (drop from stored)) k.old-index _ (omega arith) k.invariant.0))

pub returns : goal.returns
unfolding pushed pushed_within
returns c =
    let k = c.loop-old in
    let stored = c.entries-stored.result.now in
    let from = c.saturating_sub-from.result in
    let all_of_them : k.old-index ≡ length (take (length stored - from) (drop from stored)) = omega arith in
    let room = lt-ltb k.next.len 32 (omega arith) in
    (rw room at c.push_in_place-2.ensures) ∙ rw (k.invariant.2, all_of_them, take-length)
    (done c.args.limit c.args.traces stored from c.args.trace c.entries-stored.ensures (c.saturating_sub-from.ensures ∙ rw c.kept_traces.ensures))
