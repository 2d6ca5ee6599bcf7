-- Which hits are a form: any handle within the count, and zeros behind it. A count over 16 stands as it is given.
use Rattle.std.specs.Prelude.{ℕ, Bool, cond, true, ◌&&◌, eqb, ltb, get_or}
use Rattle.handles.specs.declared.GenerationalHandle.{GenerationalHandle}
use Rattle.records.specs.Traces.{Hits}
use Rattle.host_message.specs.declared.hits.HitsNumbers.{HitsNumbers}

-- what is read
abbrev pub hits_of : HitsNumbers → Hits
hits_of w = record { items = w.items; len = w.len }

abbrev pub is_hit_form : ℕ → ℕ → GenerationalHandle → Bool
is_hit_form n i h = cond (ltb i n) true (eqb h.index 0 && eqb h.generation 0)

-- the place i of the list
abbrev pub hit_form : HitsNumbers → ℕ → Bool
hit_form h i = is_hit_form h.len i (get_or h.items i (record { index = 0; generation = 0 }))
