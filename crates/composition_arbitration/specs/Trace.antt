-- RULES.md, Port limits: 32 traces (the oldest drops out).
use Rattle.std.specs.Prelude.{ℕ, ◌-◌, cond, List, [], ◌∷◌, ◌++◌, length, drop, eqb, ltb}
use Rattle.lists.specs.Tables.{entries_of, packed}
use Rattle.records.specs.declared.trace.CompositionTrace.{CompositionTrace}
use Rattle.records.specs.Traces.{Traces, traces}

-- the last n of a list
abbrev pub last_of : {E : Type 0} → ℕ → List E → List E
last_of n l = drop (length l - n) l

-- how many traces stay: the limit, at most 32, and the new one always
abbrev pub kept_traces : ℕ → ℕ
kept_traces limit = cond (eqb limit 0) 1 (cond (ltb limit 32) limit 32)

-- the last of the old traces with the new one
unfoldable pub traced : ℕ → Traces → CompositionTrace → Traces
traced limit t e = packed traces (last_of (kept_traces limit) (entries_of traces t ++ (e ∷ [])))
