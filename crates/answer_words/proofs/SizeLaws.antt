-- How many numbers each group of an answer has, by its fields; of a trace, by the lengths of its arrays.
use Rattle.geometry.specs.declared.rect.SurfaceRect.{SurfaceRect}
use Rattle.std.specs.Prelude.{Option, None, Some}
use Prim.Native.Nat.{ℕ, ◌+◌, ◌*◌, ◌≤◌}
use mathlib.Core.Path.{◌≡◌, refl}
use native.Mathlib.Omega.{arith}
use lib.ListN.{length, length-append}
use Rattle.lists.specs.Tables.{entries_of}
use Rattle.lists.proofs.TableLaws as table
use Rattle.geometry.specs.declared.surface.SurfaceGeometry.{SurfaceGeometry}
use Rattle.handles.specs.declared.GenerationalHandle.{GenerationalHandle}
use Rattle.records.specs.Surfaces.{descriptor_of, SurfaceTable}
use Rattle.records.specs.Traces.{hits, deliveries, traces, Traces}
use Rattle.records.specs.declared.surface.SurfaceDescriptor.{SurfaceDescriptor}
use Rattle.records.specs.declared.trace.CompositionTrace.{CompositionTrace}
use Rattle.records.specs.declared.view.ViewInputState.{ViewInputState}
use Rattle.release_lists.specs.Captures.{capture_list}
use Rattle.release_lists.specs.Releases.{releases}
use Rattle.counter.specs.declared.answer.Answer.{Answer}
use Rattle.answer_numbers.specs.Groups.{handle_numbers, optional_numbers, capture_numbers, rect_numbers, input_state_numbers}
use Rattle.answer_numbers.specs.Groups.{geometry_numbers, descriptor_numbers}
use Rattle.answer_numbers.specs.Traces.{event_fields, delivery_numbers, trace_numbers, traces_numbers}
use Rattle.answer_numbers.specs.Views.{described_numbers}
use Rattle.answer_words.specs.Answers.{release_numbers, answer_numbers}
use Rattle.answer_words.specs.Lengths.{All, TraceLengths}
use Rattle.answer_words.proofs.EntryLaws.{all_take, all_more, each_long, list_few, list_fixed}

pub optional_size : (o : Option GenerationalHandle) → length (optional_numbers o) ≡ 3
optional_size None = refl
optional_size (Some h) = refl

rect_size : (r : Option SurfaceRect) → length (rect_numbers r) ≡ 5
rect_size None = refl
rect_size (Some r) = refl

pub state_size : (s : ViewInputState) → length (input_state_numbers s) ≡ 9
state_size s = simp (length-append, optional_size)

geometry_size : (g : SurfaceGeometry) → length (geometry_numbers g) ≡ 18
geometry_size g = simp (length-append, rect_size)

pub descriptor_size : (d : SurfaceDescriptor) → length (descriptor_numbers d) ≡ 24
descriptor_size d = omega (arith, geometry_size d.geometry)

pub described_size : (s : SurfaceTable) (h : GenerationalHandle) → length (described_numbers s h) ≤ 26
described_size s h = omega (arith, descriptor_size (descriptor_of s h))

trace_size_lem : (t : CompositionTrace) → TraceLengths t → length (trace_numbers t) ≤ 96
trace_size_lem t x =
    let e = event_fields t.event in
    let few = table.few hits t.hits x.hits in
    let less = table.few deliveries t.deliveries x.deliveries in
    simp (length-append, optional_size)
    (omega (
      arith,
      list_fixed handle_numbers 2 16 (entries_of hits t.hits) few (λ h. omega arith),
      list_fixed delivery_numbers 3 16 (entries_of deliveries t.deliveries) less (λ d. omega arith),
    ))

pub traces_size : (t : Traces) → length t.items ≡ 32 → All TraceLengths t.items → length (traces_numbers t) ≤ 3073
unfolding entries_of
traces_size t h x =
    list_few trace_numbers 96 32 (entries_of traces t) (table.few traces t h)
    (all_more TraceLengths _ trace_size_lem (entries_of traces t) (all_take TraceLengths t.len t.items x))

-- the answer's own numbers: eleven, and those of its three lists
pub front_size : (revision : ℕ) (a : Answer) (named : Option GenerationalHandle)
    → length (answer_numbers revision a named)
    ≡ 11 + 3 * length (entries_of deliveries a.report.arbitration.deliveries)
    + 6 * length (entries_of releases a.report.synthesized_releases)
    + 5 * length (entries_of capture_list a.listed.captures)
front_size revision a named =
    simp (length-append, optional_size)
    (omega (
      arith,
      each_long delivery_numbers 3 (λ e. refl) (entries_of deliveries a.report.arbitration.deliveries),
      each_long release_numbers 6 (λ e. refl) (entries_of releases a.report.synthesized_releases),
      each_long capture_numbers 5 (λ e. refl) (entries_of capture_list a.listed.captures),
    ))
