-- The lengths of a counter's arrays, as its types fix them; the definitions take lists of any length.
use Rattle.std.specs.Prelude.{List, [], ◌∷◌, ◌≡◌, length}
use Rattle.records.specs.declared.trace.CompositionTrace.{CompositionTrace}
use Rattle.records.specs.declared.view.ViewRecord.{ViewRecord}
use Rattle.counter.specs.declared.step.Counter.{Counter}

-- what holds of each entry of a list
abbrev pub All : {E : Type 0} → (E → Type 0) → List E → Type 0
All P [] = Unit {0}
All P (e ∷ l) = P e × All P l

-- a view's layers and captures
pub record ViewLengths (v : ViewRecord) : Type 0 where
  pub layers : length v.surfaces.items ≡ 16
  pub captures : length v.pointer_captures.table.items ≡ 32

-- a trace's hits and deliveries
pub record TraceLengths (t : CompositionTrace) : Type 0 where
  pub hits : length t.hits.items ≡ 16
  pub deliveries : length t.deliveries.items ≡ 16

-- the arrays that the lists of an answer are made from
pub record Lengths (k : Counter) : Type 0 where
  pub presses : length k.router.bindings.table.items ≡ 128
  pub views : All ViewLengths k.registry.views.records
  pub traces : length k.registry.traces.items ≡ 32
  pub each_trace : All TraceLengths k.registry.traces.items
