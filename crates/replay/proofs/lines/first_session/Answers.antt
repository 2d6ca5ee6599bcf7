-- `first_session` meets its contract: the first counter, and nothing answered.
use Rattle.replay.specs.Replay.{first_session}
use Rattle.replay.proofs.lines.first_session.Goals as goal

pub returns : goal.returns
unfolding first_session
returns c = rw c.first_counter.ensures
