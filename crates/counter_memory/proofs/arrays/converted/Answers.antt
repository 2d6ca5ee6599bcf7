-- `converted` meets its contract: each entry is what the function makes of the one at its index.
use Rattle.std.proofs.Common.{sym, ap, ◌∙◌, get_or}
use native.Mathlib.Omega.{arith}
use Rattle.counter_memory.proofs.ArrayLaws.{each_made, each_map}
use Rattle.counter_memory.proofs.arrays.converted.Goals as goal

pub returns : goal.returns
returns g c f h =
    let made = c.from_fn.ensures.items in
    let given = c.args.items.now in
    each_map f given c.from_fn.result (made.long ∙ sym c.told-items)
    (λ i d e below. h _ _ (each_made
    (λ i y. (d : g.row.A.Denot) → g.B.From.from_gives (get_or given i d) y)
    (λ i y q called. (ap (λ b. (b, q.1)) called.met.0, called.met.1))
    g.row.N 0 i i c.from_fn.result e made.each (omega (arith, below, c.told-items)) (omega arith) d))
