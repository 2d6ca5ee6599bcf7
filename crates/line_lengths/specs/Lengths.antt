-- The lengths of the arrays that a line is made from, as their types fix them: those of an answer, and those of the
-- dumps.
use Rattle.std.specs.Prelude.{◌≡◌, length}
use Rattle.counter.specs.declared.step.Counter.{Counter}
use Rattle.answer_words.specs.Lengths.{Lengths}

pub record StateLengths (k : Counter) : Type 0 where
  -- presses, layers, captures and traces
  pub answered : Lengths k
  -- the free lists of the three arenas
  pub windows : length k.registry.windows.free ≡ 64
  pub views : length k.registry.views.arena.free ≡ 64
  pub surfaces : length k.registry.surfaces.arena.free ≡ 64
  -- the registrations of all panels
  pub shortcuts : length k.registry.shortcuts.items ≡ 256
  -- the known devices
  pub sequences : length k.router.device_sequences.table.items ≡ 32
