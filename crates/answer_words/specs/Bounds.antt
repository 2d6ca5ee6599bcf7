-- How long each list of an answer is at most, by the call. RULES.md, Port limits: 16 panels a view, 32 captures in
-- each of 16 views, 32 traces, 128 presses in a router; an arena has 64 slots.
use Rattle.std.specs.Prelude.{ℕ, ◌+◌, ◌*◌, ◌≤◌, length}
use Rattle.lists.specs.Tables.{entries_of}
use Rattle.records.specs.Traces.{deliveries}
use Rattle.release_lists.specs.Captures.{capture_list}
use Rattle.release_lists.specs.Releases.{releases}
use Rattle.calls.specs.declared.call.Call.{Call}
use Rattle.calls.specs.declared.call.Call.TheVariants as call
use Rattle.calls.specs.declared.call.CloseCall.{CloseCall}
use Rattle.calls.specs.declared.call.CloseCall.TheVariants as close
use Rattle.calls.specs.declared.call.RouterCall.{RouterCall}
use Rattle.calls.specs.declared.call.RouterCall.TheVariants as router
use Rattle.counter.specs.declared.answer.Answer.{Answer}
use Rattle.counter.specs.declared.step.Counter.{Counter}
use Rattle.answer_more.specs.More.{more_of}
use Rattle.answer_words.specs.Answers.{shown_numbers}

-- at most how many deliveries, releases and captures, and how many numbers of what the call shows
pub record Most : Type 0 where
  pub deliveries : ℕ
  pub releases : ℕ
  pub captures : ℕ
  pub shown : ℕ

-- the bounds by their four numbers
abbrev pub most : ℕ → ℕ → ℕ → ℕ → Most
most d r c n = record { deliveries = d; releases = r; captures = c; shown = n }

-- a close shows at most 3 releases and a focus; a shutdown 256 reports of at most 10 numbers, 64 views and 64 windows
abbrev pub most_closing : CloseCall → Most
most_closing (close.CloseSurface s) = most 0 0 0 7
most_closing close.Shutdown = most 0 0 0 2819

-- a disconnect lists 128 presses and 512 captures, a view's loss shows an input state; a release lists presses alone
abbrev pub most_routed : RouterCall → Most
most_routed (router.Route e) = most 16 640 0 10
most_routed (router.ReleaseSurface h) = most 0 128 0 0
most_routed router.ReleaseAll = most 0 128 0 0

-- metrics are 13 numbers, an input state 9, and the longest read is 32 traces of 96 numbers at most; no answer lists
-- both releases and captures
abbrev pub most_of : Call → Most
most_of (call.Panel c) = most 0 0 0 13
most_of (call.Input c) = most 0 0 0 9
most_of (call.ReleaseDevice c) = most 0 0 512 0
most_of (call.Shortcut c) = most 0 0 0 0
most_of (call.Arbitrate c) = most 16 0 0 0
most_of (call.Close c) = most_closing c
most_of (call.Router c) = most_routed c
most_of (call.Read c) = most 0 0 0 3073

-- an answer keeps to these bounds
pub record Bounded (m : Most) (call : Call) (a : Answer) (k : Counter) : Type 0 where
  pub delivered : length (entries_of deliveries a.report.arbitration.deliveries) ≤ m.deliveries
  pub released : length (entries_of releases a.report.synthesized_releases) ≤ m.releases
  pub captured : length (entries_of capture_list a.listed.captures) ≤ m.captures
  pub shown : length (shown_numbers (more_of call a k)) ≤ m.shown

-- the words of such an answer: eleven, and those of its lists
abbrev pub most_words : Most → ℕ
most_words m = 11 + 3 * m.deliveries + 6 * m.releases + 5 * m.captures + m.shown
