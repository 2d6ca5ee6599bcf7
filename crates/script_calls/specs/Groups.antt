-- The groups of fields that stand in a line from an index on: what they say, and none where a field is out of its range.
use Rattle.std.specs.Prelude.{ℕ, ◌+◌, Bool, eqb, get_or, Option}
use Rattle.std.specs.Option.{option_map, option_and_then}
use Rattle.composition_state.specs.declared.registry.CompositionLimits.{CompositionLimits}
use Rattle.lists.specs.Numbers.{max_u64}
use Rattle.handles.specs.Handles.{handle_of}
use Rattle.handles.specs.declared.GenerationalHandle.{GenerationalHandle}
use Rattle.script.specs.Lines.{zero_number, Fields}
use Rattle.script.specs.Ranges.{unsigned_of, flag_of}
use Rattle.script.specs.declared.number.Number.{Number}

-- the number at an index; past the line it is 0
abbrev pub number_at : Fields → ℕ → Number
number_at fs i = get_or fs.items i zero_number

-- the line has so many fields
abbrev pub has : Fields → ℕ → Bool
has fs n = eqb fs.len n

-- the number at an index as a flag, and as one of 32 or 64 bits
abbrev pub flag_at : Fields → ℕ → Option Bool
flag_at fs i = flag_of (number_at fs i)

abbrev pub u32_at : Fields → ℕ → Option ℕ
u32_at fs i = unsigned_of 4294967295 (number_at fs i)

abbrev pub u64_at : Fields → ℕ → Option ℕ
u64_at fs i = unsigned_of max_u64 (number_at fs i)

-- H: index, generation
abbrev pub handle_at : Fields → ℕ → Option GenerationalHandle
handle_at fs i = option_and_then (λ n. option_map (handle_of n) (u32_at fs (i + 1))) (u32_at fs i)

abbrev limits_of : ℕ → ℕ → ℕ → ℕ → ℕ → CompositionLimits
limits_of windows views surfaces per_view traces = record {
  max_windows = windows;
  max_views = views;
  max_surfaces = surfaces;
  max_surfaces_per_view = per_view;
  max_trace_entries = traces;
}

-- the five limits of a start
abbrev pub limits_at : Fields → ℕ → Option CompositionLimits
limits_at fs i =
    option_and_then
    (λ windows. option_and_then
    (λ views. option_and_then
    (λ surfaces. option_and_then
    (λ per_view. option_map (limits_of windows views surfaces per_view) (u64_at fs (i + 4)))
    (u64_at fs (i + 3)))
    (u64_at fs (i + 2)))
    (u64_at fs (i + 1)))
    (u64_at fs i)
