-- `arbitrate_call` meets its contract: a list's count is in its range.
use Rattle.std.proofs.Common.{sym, arith}
use Rattle.script_calls.proofs.ListLaws.{few_hits}
use Rattle.script_calls.proofs.read.arbitrate_call.Goals as goal

pub overflow_mul-hits : goal.overflow_mul-hits
overflow_mul-hits c = omega (arith, few_hits c.args.fields 10 c.in_ok-hits.hits (sym c.in_ok-hits.ensures))

pub overflow_add-hits : goal.overflow_add-hits
overflow_add-hits c = omega (arith, few_hits c.args.fields 10 c.in_ok-hits.hits (sym c.in_ok-hits.ensures))
