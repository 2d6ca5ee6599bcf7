-- RULES.md, Hit test: the layers from the top that pass the panel test. Refused 42, 8/9, 41.
use Rattle.std.specs.Result.{result_and}
use Rattle.std.specs.Prelude.{ℕ, Bool, List, [], reverse, length, ltb, Result, Ok, Err}
use Rattle.lists.specs.Lists.{keep}
use Rattle.geometry.specs.Surface.{is_hit}
use Rattle.geometry.specs.declared.transform.Point.{Point}
use Rattle.handles.specs.declared.GenerationalHandle.{GenerationalHandle}
use Rattle.records.specs.declared.error.CompositionError.{CompositionError}
use Rattle.records.specs.declared.error.CompositionError.TheVariants.{PortLimit}
use Rattle.records.specs.Layers.{Layers}
use Rattle.composition_state.specs.declared.registry.CompositionRegistry.{CompositionRegistry}
use Rattle.records.specs.Views.{ViewTable, view_at, view_refusal}
use Rattle.records.specs.Errors.{refusal_if, Outcome}
use Rattle.composition_state.specs.Damage.{damage_refusal}
use Rattle.view_panels.specs.Panels.{Panel, handles_of, panels_in}
use Rattle.composition_hits.specs.Buffer.{numbers_of, written}

-- a panel passes the panel test at a point
abbrev pub is_panel_hit : Point → Panel → Bool
is_panel_hit p s = is_hit s.descriptor.geometry p.x_milli p.y_milli

-- those from the top that pass it, of panels from the lowest on
unfoldable pub hits_among : Point → List Panel → List GenerationalHandle
hits_among p l = handles_of (keep (is_panel_hit p) (reverse l))

abbrev pub layers_of : ViewTable → GenerationalHandle → Layers
layers_of views view = (view_at views view).surfaces

-- ---- in a registry
-- the hits of a view, topmost first
unfoldable pub view_hits : CompositionRegistry → GenerationalHandle → Point → List GenerationalHandle
view_hits r view p = hits_among p (panels_in r.views r.surfaces view)

-- 42, 8/9, 41 (a buffer shorter than 32 numbers)
abbrev pub hit_test_refusal : CompositionRegistry → GenerationalHandle → ℕ → Outcome
hit_test_refusal r view size =
    result_and (damage_refusal r) (result_and (view_refusal r.views view) (refusal_if (ltb size 32) PortLimit))

-- a refused test finds nothing
abbrev pub found_numbers : Outcome → List GenerationalHandle → List ℕ
found_numbers (Ok _) l = numbers_of l
found_numbers (Err e) l = []

-- the filled front part of the buffer
unfoldable pub hit_numbers : CompositionRegistry → GenerationalHandle → Point → ℕ → List ℕ
hit_numbers r view p size = found_numbers (hit_test_refusal r view size) (view_hits r view p)

-- the refusal, or how many numbers stand there
unfoldable pub hit_test : CompositionRegistry → GenerationalHandle → Point → ℕ → Result ℕ CompositionError
hit_test r view p size = result_and (hit_test_refusal r view size) (Ok (length (hit_numbers r view p size)))

-- the whole buffer: the numbers at its front, and the rest untouched
unfoldable pub buffer_after : CompositionRegistry → GenerationalHandle → Point → List ℕ → List ℕ
buffer_after r view p old = written old (hit_numbers r view p (length old))
