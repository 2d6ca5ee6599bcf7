-- The damage test accepts every counter that a list of calls leads to: it is proved in `HistoryLaws.antt`.
use Rattle.history.proofs.HistoryLaws.{never_damaged}
use Rattle.history.proofs.never_damaged.Goals as goal

pub returns : goal.returns
returns c = never_damaged
