-- What a sound router lists for a panel, a device or a view rises by the book's order: its presses do, and each list is a part of them.
use Rattle.std.specs.Prelude.{Ok, Err, is_ok}
use mathlib.Core.Path.{◌≡◌, refl, ap, ◌∙◌}
use mathlib.Core.Bool.{Bool, true, cond}
use mathlib.Core.List.{List, []}
use Rattle.lists.specs.Lists.{keep}
use Rattle.lists.specs.Tables.{packed, entries_of}
use Rattle.lists.proofs.RisingLaws.{rising_keep}
use Rattle.lists.proofs.TableLaws.{entries_packed}
use Rattle.handles.specs.declared.GenerationalHandle.{GenerationalHandle}
use Rattle.maps.specs.Bindings.{Bindings, bindings}
use Rattle.maps.specs.declared.bindings.Binding.{Binding}
use Rattle.records.specs.Surfaces.{SurfaceTable}
use Rattle.composition_soundness.proofs.CaseLaws.{either}
use Rattle.release_lists.specs.Releases.{releases, is_on}
use Rattle.input_router.specs.declared.router.PlatformInputRouter.{PlatformInputRouter}
use Rattle.input_router.specs.Damage.{is_router_sound}
use Rattle.input_router.specs.Releases.{releases_of, is_of_device, release_surface}
use Rattle.input_router.specs.Router.{presses_of}
use Rattle.input_router.specs.ViewReleases.{listed_presses, first_closed, closed_refusal, is_taken, release_view}
use Rattle.input_router.proofs.ClaimLaws as router
use Rattle.input_router.proofs.SoundLaws.{parts}
use Rattle.book.specs.Book.{key_of}
use Rattle.history.specs.ReleaseOrder.{in_release_order, ReleaseOrder}
use Rattle.history.proofs.TestLaws.{presses, rising_is}
use Rattle.records.specs.Errors.{Outcome}
use Rattle.std.specs.Result.{result_and, result_unwrap_or}

-- a refused release lists nothing
of_listed : (o : Outcome) (l : Bindings) → in_release_order (entries_of bindings l) ≡ true
    → in_release_order (entries_of bindings (result_unwrap_or (result_and o (Ok l)) (packed bindings []))) ≡ true
of_listed (Ok _) l h = h
of_listed (Err e) l h = ap in_release_order (entries_packed bindings [])

module _ (r : PlatformInputRouter) (s : is_router_sound r ≡ true) where
  kept : (p : Binding → Bool) → in_release_order (keep p (presses_of r)) ≡ true
  kept p = rising_keep key_of presses p (presses_of r) (rising_is (presses_of r) ∙ (parts r s).presses_rise)

  of_panel : (h : GenerationalHandle) → in_release_order (entries_of releases (releases_of (release_surface r h))) ≡ true
  unfolding release_surface
  of_panel h = rw s (ap in_release_order (entries_packed releases (keep (is_on h) (presses_of r))) ∙ kept (is_on h))

  of_view : (t : SurfaceTable) (v : GenerationalHandle) → in_release_order (entries_of bindings (listed_presses (release_view r t v))) ≡ true
  unfolding release_view
  of_view t v =
      let stop = first_closed t (presses_of r) in
      of_listed (closed_refusal t stop) _ (ap in_release_order (entries_packed bindings (keep (is_taken t v stop) (presses_of r))) ∙ kept (is_taken t v stop))

pub release_order : ReleaseOrder
release_order = record {
  panel = λ r h s. of_panel r s h;
  device = λ r d s. ap in_release_order (entries_packed bindings (keep (is_of_device d) (presses_of r))) ∙ kept r s (is_of_device d);
  view = λ r t v s. of_view r s t v;
  all = λ r h s. ap in_release_order ((router.claims).all_of_panel r h s) ∙ of_panel r s h;
}
