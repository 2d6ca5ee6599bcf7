-- The router's releases of a panel and of all are right, also where the panel was just closed: they list the book's presses in its order, and leave the others.
use Rattle.std.specs.Prelude.{Option, None}
use mathlib.Core.Path.{◌≡◌, refl, sym, ap, ◌∙◌, subst}
use mathlib.Core.Bool.{true, not}
use mathlib.Core.List.{[], append-nil}
use borrow.Author.Tests.{not-true}
use Rattle.lists.specs.Lists.{keep, all}
use Rattle.lists.specs.Maps.{rising}
use Rattle.lists.proofs.ListLaws.{by_test, clash}
use Rattle.lists.proofs.TableLaws.{entries_packed}
use Rattle.handles.specs.Handles.{same_handle}
use Rattle.handles.specs.declared.GenerationalHandle.{GenerationalHandle}
use Rattle.maps.specs.Bindings.{bindings}
use Rattle.maps.specs.MapTables.{retained}
use Rattle.maps.specs.declared.bindings.Binding.{Binding}
use Rattle.input_router.specs.declared.releases.Released.{Released}
use Rattle.input_router.specs.Damage.{is_router_sound}
use Rattle.release_lists.specs.Releases.{releases, is_on, by_panel}
use Rattle.input_router.specs.Releases.{released, release_surface, release_all}
use Rattle.input_router.specs.Router.{empty_router, with_bindings, presses_of}
use Rattle.input_router.proofs.SoundLaws.{parts}
use Rattle.calls.specs.declared.call.Call.TheVariants.{Router}
use Rattle.calls.specs.declared.call.Lists.{Lists}
use Rattle.calls.specs.declared.call.RouterCall.{RouterCall}
use Rattle.calls.specs.declared.call.RouterCall.TheVariants.{ReleaseSurface, ReleaseAll}
use Rattle.book.specs.Ids.{press_before}
use Rattle.book.specs.Book.{Book, key_of, is_on_panel, without_presses}
use Rattle.book.specs.Notes.{router_change, change, changed, registered, noted}
use Rattle.book.specs.Owed.{router_concern, concern, is_same_press_of, is_same_release, none_twice, panels_of, panel_by_panel, concerned_presses, concerned_captures, then_captures, without_concerned}
use Rattle.counter.specs.declared.step.Counter.{Counter}
use Rattle.counter.specs.Answers.{releases_alone}
use Rattle.counter.specs.Step.{from_released, router_step, stepped}
use Rattle.history.specs.Histories.{entry_of}
use Rattle.history.proofs.TestLaws.{rising_is}
use Rattle.history.proofs.OnceLaws.{once_keep, releases_once, rising_once}
use Rattle.history.proofs.ListedLaws.{all_by_panel, all_once}
use Rattle.history.proofs.JoinLaws.{is_pending, is_hosted, Joined, Right, accepted, shared_presses, keep_so}
use Rattle.history.proofs.RegistryLaws.{ask, entry}

module _ (p : Option GenerationalHandle) (c : Counter) (b : Book) (s : is_router_sound c.router ≡ true) (j : Joined p c b) (l : Lists) where
  -- what a release answers, and leaves
  abbrev ReleasedRight : RouterCall → Released → Type 0
  ReleasedRight call x = Right (entry_of (ask (Router call) l) (from_released c.registry x).answer) b (from_released c.registry x).counter

  -- the book's presses are in release order, so none stands twice
  presses_rise : rising key_of press_before b.presses ≡ true
  presses_rise = ap (rising key_of press_before) (sym j.own.presses) ∙ rising_is (presses_of c.router) ∙ (parts c.router s).presses_rise

  presses_once : none_twice is_same_press_of b.presses ≡ true
  presses_once = rising_once b.presses presses_rise

  -- without the presses of the panel that was closed, if one was, every press is on a live panel
  hosted_without : (h : GenerationalHandle) → ((g : GenerationalHandle) → is_pending p g ≡ true → same_handle h g ≡ true)
      → all (is_hosted None c.registry) (keep (λ x. not (is_on_panel h x)) b.presses) ≡ true
  hosted_without h only = keep_so (is_hosted p c.registry) (λ x. not (is_on_panel h x)) (is_hosted None c.registry) stays b.presses j.own.hosted
    where
      stays : (x : Binding) → is_hosted p c.registry x ≡ true → not (is_on_panel h x) ≡ true → is_hosted None c.registry x ≡ true
      stays x t n = by_test (is_pending p x.surface)
          (λ q. clash (only x.surface q) (not-true (is_on_panel h x) n))
          (λ q. rw q at t)

  surface_released : (h : GenerationalHandle) → ((g : GenerationalHandle) → is_pending p g ≡ true → same_handle h g ≡ true)
      → ReleasedRight (ReleaseSurface h) (released (keep (is_on h) (presses_of c.router)) (with_bindings (retained bindings (λ x. not (is_on h x)) c.router.bindings) c.router))
  unfolding releases_alone router_concern concern concerned_presses concerned_captures then_captures without_concerned router_change change changed registered noted without_presses
  surface_released h only =
      let taken = keep (is_on h) (presses_of c.router) in
      let listed = entries_packed releases taken ∙ ap (keep (is_on h)) j.own.presses in
      let one = once_keep is_same_press_of (is_on_panel h) b.presses presses_once in
      accepted _ b _ refl (listed ∙ sym (append-nil (keep (is_on_panel h) b.presses))) (ap (none_twice is_same_release) listed ∙ releases_once (keep (is_on_panel h) b.presses) one) one
      (record {
        shared = shared_presses c.registry b _ j.shared;
        own = record {
          presses = entries_packed bindings (keep (λ x. not (is_on h x)) (presses_of c.router)) ∙ ap (keep (λ x. not (is_on h x))) j.own.presses;
          hosted = hosted_without h only;
        };
      })

  all_released_lem : ReleasedRight ReleaseAll (released (by_panel (presses_of c.router)) (empty_router c.router.max_active_bindings))
  unfolding releases_alone router_concern concern concerned_presses concerned_captures then_captures without_concerned router_change change changed registered noted
  all_released_lem =
      let m = b.presses in
      let listed = entries_packed releases (by_panel (presses_of c.router)) ∙ ap by_panel j.own.presses ∙ all_by_panel m in
      let one = all_once m presses_rise in
      accepted _ b _ refl (listed ∙ sym (append-nil (panel_by_panel (panels_of m) m))) (ap (none_twice is_same_release) listed ∙ releases_once (panel_by_panel (panels_of m) m) one) one
      (record { shared = shared_presses c.registry b [] j.shared; own = record { presses = entries_packed bindings []; hosted = refl } })

  surface_is : (h : GenerationalHandle) → released (keep (is_on h) (presses_of c.router)) (with_bindings (retained bindings (λ x. not (is_on h x)) c.router.bindings) c.router) ≡ release_surface c.router h
  unfolding release_surface
  surface_is h = rw s

  all_is : released (by_panel (presses_of c.router)) (empty_router c.router.max_active_bindings) ≡ release_all c.router
  unfolding release_all
  all_is = rw s

  pub surface_goes : (h : GenerationalHandle) → ((g : GenerationalHandle) → is_pending p g ≡ true → same_handle h g ≡ true)
      → Right (entry c (Router (ReleaseSurface h)) l) b (stepped c (Router (ReleaseSurface h)) l).counter
  unfolding stepped router_step
  surface_goes h only = subst (ReleasedRight (ReleaseSurface h)) (surface_is h) (surface_released h only)

  pub all_goes : Right (entry c (Router ReleaseAll) l) b (stepped c (Router ReleaseAll) l).counter
  unfolding stepped router_step
  all_goes = subst (ReleasedRight ReleaseAll) all_is all_released_lem
