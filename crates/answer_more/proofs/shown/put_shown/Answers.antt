-- `put_shown` meets its contract: each case puts its own numbers.
use Rattle.lists.proofs.TableLaws.{entries_packed}
use Rattle.records.specs.Traces.{hits}
use Rattle.answer_more.proofs.shown.put_shown.Goals as goal

pub returns-in-Metrics : goal.returns-in-Metrics
returns-in-Metrics c = rw c.in-Metrics.is c.put_numbers.ensures

pub returns-in-Hits : goal.returns-in-Hits
returns-in-Hits c = rw c.in-Hits.is (rw (c.view_hits-hits.ensures, entries_packed hits _) at c.put_numbers-in-Hits.ensures)
