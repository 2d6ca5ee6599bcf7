-- What holds of every hit test. It answers no registry, so it alters none.
use Rattle.std.specs.Prelude.{ℕ, ◌≡◌, List, ◌++◌, reverse, length, drop, Ok, Err}
use Rattle.lists.specs.Lists.{keep}
use Rattle.geometry.specs.declared.transform.Point.{Point}
use Rattle.handles.specs.declared.GenerationalHandle.{GenerationalHandle}
use Rattle.records.specs.declared.error.CompositionError.{CompositionError}
use Rattle.composition_state.specs.declared.registry.CompositionRegistry.{CompositionRegistry}
use Rattle.view_panels.specs.Panels.{Panel, handles_of}
use Rattle.composition_hits.specs.Buffer.{numbers_of}
use Rattle.composition_hits.specs.HitTest.{is_panel_hit, hits_among, view_hits, hit_test_refusal, buffer_after}

pub record HitClaims : Type 0 where
  -- the hits, read from the last on, are the panels that pass the panel test, in layer order
  pub layer_order : (p : Point) (l : List Panel) → reverse (hits_among p l) ≡ handles_of (keep (is_panel_hit p) l)
  -- a refused test leaves the buffer untouched
  pub refused : (r : CompositionRegistry) (view : GenerationalHandle) (p : Point) (old : List ℕ) (e : CompositionError)
      → hit_test_refusal r view (length old) ≡ Err e → buffer_after r view p old ≡ old
  -- an accepted test leaves everything behind the front part untouched
  pub accepted : (r : CompositionRegistry) (view : GenerationalHandle) (p : Point) (old : List ℕ)
      → hit_test_refusal r view (length old) ≡ Ok tt
      → buffer_after r view p old ≡ numbers_of (view_hits r view p)
      ++ drop (length (numbers_of (view_hits r view p))) old
