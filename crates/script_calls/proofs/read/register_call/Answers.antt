-- `register_call` meets its contract: a list's count is in its range.
use Rattle.std.proofs.Common.{sym, arith}
use Rattle.script_calls.proofs.ListLaws.{few_registrations}
use Rattle.script_calls.proofs.read.register_call.Goals as goal

pub overflow_mul-list : goal.overflow_mul-list
overflow_mul-list c = omega (arith, few_registrations c.args.fields 3 c.in_ok-list.list (sym c.in_ok-list.ensures))

pub overflow_add-list : goal.overflow_add-list
overflow_add-list c = omega (arith, few_registrations c.args.fields 3 c.in_ok-list.list (sym c.in_ok-list.ensures))
