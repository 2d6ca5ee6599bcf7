-- A device's disconnect and a view's loss are right: both list the book's presses and then its captures, drop them, and are refused by 21 alone; no closed owner is met, as every press is on a live panel.
use Rattle.std.specs.Prelude.{Result, is_ok, None, Ok, Err}
use mathlib.Core.Path.{◌≡◌, refl, sym, ap, ◌∙◌, subst}
use mathlib.Core.Bool.{Bool, true, not, cond}
use mathlib.Core.List.{List, [], ◌∷◌, map}
use borrow.Author.Tests.{not-true}
use Rattle.lists.specs.Lists.{keep, first, all}
use Rattle.lists.specs.Maps.{rising}
use Rattle.lists.specs.Tables.{entries_of, packed}
use Rattle.lists.proofs.ListLaws.{and_left, and_right}
use Rattle.lists.proofs.RisingLaws.{rising_keep}
use Rattle.lists.proofs.TableLaws.{entries_packed}
use Rattle.handles.specs.declared.arena.SlotStatus.{SlotStatus}
use Rattle.handles.specs.declared.arena.SlotStatus.TheVariants.{Live, Invalid, Stale}
use Rattle.handles.specs.declared.GenerationalHandle.{GenerationalHandle}
use Rattle.maps.specs.Bindings.{Bindings, bindings}
use Rattle.maps.specs.Captures.{captures}
use Rattle.maps.specs.Keys.{device_valid}
use Rattle.maps.specs.declared.bindings.Binding.{Binding}
use Rattle.maps.specs.declared.captures.Capture.{Capture}
use Rattle.maps.specs.declared.keys.InputDeviceId.{InputDeviceId}
use Rattle.records.specs.declared.error.CompositionError.{CompositionError}
use Rattle.composition_state.specs.declared.registry.CompositionRegistry.{CompositionRegistry}
use Rattle.records.specs.Errors.{error_number, status_refusal, Outcome}
use Rattle.records.specs.Layers.{is_live}
use Rattle.records.specs.Surfaces.{surface_status}
use Rattle.records.specs.Views.{view_at, view_status}
use Rattle.release_lists.specs.Captures.{CaptureList, capture_list}
use Rattle.composition_input.specs.Captures.{listed_captures, device_captures, release_device_pointer_captures}
use Rattle.composition_input.specs.Focus.{suspend_view_input}
use Rattle.composition_soundness.specs.Claims.{Undamaged}
use Rattle.composition_soundness.proofs.CaseLaws.{refused≢accepted}
use Rattle.composition_soundness.proofs.ListLaws.{all_as, all_keep}
use Rattle.input_events.specs.declared.event.PlatformInputEvent.{PlatformInputEvent}
use Rattle.input_router.specs.declared.router.PlatformInputRouter.{PlatformInputRouter}
use Rattle.input_router.specs.Damage.{is_router_sound}
use Rattle.release_lists.specs.Releases.{releases, add_captures}
use Rattle.input_router.specs.Releases.{is_of_device as is_of_router_device, device_presses, without_device as router_without}
use Rattle.input_router.specs.Router.{presses_of}
use Rattle.input_router.specs.ViewReleases.{listed_presses, view_outcome, is_closed, first_closed, is_of_view, release_view}
use Rattle.input_router.proofs.ClaimLaws as router
use Rattle.input_router.proofs.SoundLaws.{parts}
use Rattle.input_releases.specs.Losses.{disconnect_after, routed_disconnect, loss_after, suspended_loss, loss_from, routed_loss}
use Rattle.calls.specs.declared.call.Call.TheVariants.{Router}
use Rattle.calls.specs.declared.call.Lists.{Lists}
use Rattle.calls.specs.declared.call.RouterCall.TheVariants.{Route}
use Rattle.book.specs.Ids.{press_before}
use Rattle.book.specs.Book.{Told, Held, Book, key_of, is_held_by_device, is_held_in_view, without_captures, is_view, is_of_device, is_in_view, without_presses}
use Rattle.book.specs.Notes.{leaves, change, changed}
use Rattle.book.specs.Owed.{device, view, concern, is_same_press_of, is_same_release, none_twice, concerned_presses, concerned_captures, cancel_of, then_captures, without_concerned}
use Rattle.registry_book.specs.Agreement.{view_of, is_held_well, Follows}
use Rattle.registry_book.specs.Claims.{capture_of}
use Rattle.registry_book.specs.MapTests.{map_place}
use Rattle.registry_book.proofs.ClaimLaws as registry
use Rattle.history.proofs.TestLaws.{rising_is, of_device}
use Rattle.history.proofs.OnceLaws.{places, once_keep, releases_once, rising_once, captures_once, then_once}
use Rattle.history.proofs.ListedLaws.{keep_as, added, handle_swap}
use Rattle.history.proofs.JoinLaws.{is_hosted, Joined, accepted, live, still_hosted, shared_presses}
use Rattle.history.proofs.RouteLaws.{at, route_entry, RouteGoes, route_noted, suspend_last, device_last}
use Rattle.composition_state.specs.Registry.{outcome_of}
use Rattle.composition_state.proofs.SettleLaws.{value_given}
use Rattle.std.specs.Result.{result_unwrap_or, result_and}
use Rattle.records.specs.declared.view.ViewInputState.{ViewInputState}

-- ---- presses that are listed and dropped, with captures
module _ (r : CompositionRegistry) (t : PlatformInputRouter) (b : Book) (s : is_router_sound t ≡ true) (j : Joined None (at r t) b) (q : Binding → Bool) (p : Held → Bool) where
  cancels : none_twice is_same_release (map cancel_of (keep p b.captures)) ≡ true
  cancels = captures_once r (keep p b.captures) (all_keep (is_held_well r) p b.captures j.shared.agrees.held_well) (rising_keep map_place places p b.captures j.shared.captures_rise)

  pub presses_once : none_twice is_same_press_of (keep q b.presses) ≡ true
  presses_once = once_keep is_same_press_of q b.presses (rising_once b.presses (ap (rising key_of press_before) (sym j.own.presses) ∙ rising_is (presses_of t) ∙ (parts t s).presses_rise))

  pub releases_are : (l : List Binding) (cs : List Capture) → l ≡ keep q b.presses → cs ≡ map capture_of (keep p b.captures)
      → entries_of releases (packed releases (add_captures l cs)) ≡ then_captures (keep q b.presses) (keep p b.captures)
  releases_are l cs m k = entries_packed releases (add_captures l cs) ∙ (λ i. add_captures (m i) (k i)) ∙ added (keep q b.presses) (keep p b.captures) cancels

  pub all_once : none_twice is_same_release (then_captures (keep q b.presses) (keep p b.captures)) ≡ true
  all_once = then_once (keep q b.presses) (keep p b.captures) (releases_once (keep q b.presses) presses_once) cancels

  pub joined_without : (after : CompositionRegistry) (left : PlatformInputRouter) → Follows r after (without_captures p b) → presses_of left ≡ keep (λ x. not (q x)) b.presses
      → Joined None (at after left) (without_captures p (without_presses q b))
  unfolding without_captures without_presses
  joined_without after left f m = record {
    shared = shared_presses after (without_captures p b) (keep (λ x. not (q x)) b.presses)
        (record { agrees = f.agrees; captures_rise = rising_keep map_place places (λ x. not (p x)) b.captures j.shared.captures_rise });
    own = record {
      presses = m;
      hosted = still_hosted r after (keep (λ x. not (q x)) b.presses) f.keeps (all_keep (is_hosted None r) (λ x. not (q x)) b.presses j.own.hosted);
    };
  }

module _ (l : Lists) (r : CompositionRegistry) (t : PlatformInputRouter) (b : Book) (u : Undamaged r) (s : is_router_sound t ≡ true) (j : Joined None (at r t) b)
    (e : PlatformInputEvent) (quiet : (a : Told) → change (Router (Route e)) a ≡ leaves) where
  -- ---- a disconnect
  module _ (d : InputDeviceId) (valid : device_valid d ≡ true) (is : concern (Router (Route e)) ≡ device d) where
    captures_are : (listed : CaptureList) → (release_device_pointer_captures r d.value d.generation).outcome ≡ Ok listed
        → entries_of capture_list listed ≡ map capture_of (keep (is_held_by_device d) b.captures)
    unfolding release_device_pointer_captures
    captures_are listed q =
        ap (entries_of capture_list) (value_given _ listed _ q).1 ∙ entries_packed capture_list _ ∙ (registry.claims).device_list r b d.value d.generation u j.shared.agrees

    -- the router's presses of the device are the book's, and so are the others
    taken_presses : keep (is_of_router_device d) (presses_of t) ≡ keep (is_of_device d) b.presses
    taken_presses = λ i. keep (of_device d i) (j.own.presses i)

    other_presses : keep (λ x. not (is_of_router_device d x)) (presses_of t) ≡ keep (λ x. not (is_of_device d x)) b.presses
    other_presses = λ i. keep (λ x. not (of_device d i x)) (j.own.presses i)

    disconnect_after_lem : (o : Result CaptureList CompositionError) → (release_device_pointer_captures r d.value d.generation).outcome ≡ o
        → RouteGoes l b e (disconnect_after (release_device_pointer_captures r d.value d.generation) t d o)
    unfolding concerned_presses concerned_captures without_concerned changed
    disconnect_after_lem (Ok cs) q a =
        let x = release_device_pointer_captures r d.value d.generation in
        let listed = releases_are r t b s j (is_of_device d) (is_held_by_device d) (entries_of bindings (device_presses t d)) (entries_of capture_list cs)
        (entries_packed bindings (keep (is_of_router_device d) (presses_of t)) ∙ taken_presses) (captures_are cs q) in
        accepted (route_entry l e (disconnect_after x t d (Ok cs))) b (at x.registry (router_without t d)) refl (rw is listed)
        (ap (none_twice is_same_release) listed ∙ all_once r t b s j (is_of_device d) (is_held_by_device d)) (rw is (presses_once r t b s j (is_of_device d) (is_held_by_device d)))
        (subst (Joined None (at x.registry (router_without t d))) (sym (route_noted l e _ b (device d) leaves is (quiet _)))
        (joined_without r t b s j (is_of_device d) (is_held_by_device d) x.registry (router_without t d) ((registry.claims).device r b d.value d.generation u j.shared.agrees (ap (λ (o : Result CaptureList CompositionError). result_and o (Ok tt)) q))
        (entries_packed bindings (keep (λ y. not (is_of_router_device d y)) (presses_of t)) ∙ other_presses)))
    disconnect_after_lem (Err y) q a = absurd (a.not_21 (ap error_number (device_last r u.sound d valid y (ap (λ (o : Result CaptureList CompositionError). result_and o (Ok tt)) q))))

    pub disconnect_goes : RouteGoes l b e (routed_disconnect r t d)
    unfolding routed_disconnect
    disconnect_goes = disconnect_after_lem (release_device_pointer_captures r d.value d.generation).outcome refl

  -- ---- a view's loss
  module _ (v : GenerationalHandle) (there : view_status r.views v ≡ Live) (is : concern (Router (Route e)) ≡ view v) where
    -- the book knows the view of a press's panel, as that panel is live
    same_view : (x : Binding) → is_hosted None r x ≡ true → is_of_view r.surfaces v x ≡ is_in_view b.homes v x
    same_view x h = handle_swap (view_of r x.surface) v ∙ sym (ap (is_view v) (j.shared.agrees.homes_known x.surface (live r x h)))

    taken : keep (is_of_view r.surfaces v) (presses_of t) ≡ keep (is_in_view b.homes v) b.presses
    taken = ap (keep (is_of_view r.surfaces v)) j.own.presses ∙ keep_as (is_of_view r.surfaces v) (is_in_view b.homes v) (is_hosted None r) same_view b.presses j.own.hosted

    others : keep (λ x. not (is_of_view r.surfaces v x)) (presses_of t) ≡ keep (λ x. not (is_in_view b.homes v x)) b.presses
    others =
        ap (keep (λ x. not (is_of_view r.surfaces v x))) j.own.presses
        ∙ keep_as (λ x. not (is_of_view r.surfaces v x)) (λ x. not (is_in_view b.homes v x)) (is_hosted None r) (λ x h. ap not (same_view x h)) b.presses j.own.hosted

    -- no press is on a closed panel
    none_closed : first_closed r.surfaces (presses_of t) ≡ None
    none_closed = ap (first_closed r.surfaces) j.own.presses ∙ (first_none (is_closed r.surfaces) b.presses (all_as (is_hosted None r) (λ x. not (is_closed r.surfaces x)) unclosed b.presses j.own.hosted))
      where
        first_none : (p : Binding → Bool) (m : List Binding) → all (λ x. not (p x)) m ≡ true → first p m ≡ None
        first_none p [] h = refl
        first_none p (x ∷ m) h = rw (not-true (p x) (and_left (not (p x)) _ h)) (first_none p m (and_right (not (p x)) _ h))

        open_status : (k : SlotStatus) (f g : CompositionError) → is_live k ≡ true → not (not (is_ok (status_refusal k f g))) ≡ true
        open_status Live f g h = refl
        open_status Invalid f g h = h
        open_status Stale f g h = h

        unclosed : (x : Binding) → is_hosted None r x ≡ true → not (is_closed r.surfaces x) ≡ true
        unclosed x h = open_status (surface_status r.surfaces x.surface) _ _ (live r x h)

    view_passes : view_outcome (release_view t r.surfaces v) ≡ Ok tt
    unfolding release_view
    view_passes = rw none_closed

    loss_after_lem : (presses : Bindings) → (release_view t r.surfaces v).outcome ≡ Ok presses
        → (o : Result ViewInputState CompositionError) → (suspend_view_input r v r.revision).outcome ≡ o
        → RouteGoes l b e (loss_after (suspend_view_input r v r.revision) (release_view t r.surfaces v).router
        (packed releases (add_captures (entries_of bindings presses) (entries_of captures (view_at r.views v).pointer_captures))) o)
    unfolding concerned_presses concerned_captures without_concerned changed
    loss_after_lem presses m (Ok state) q a =
        let x = suspend_view_input r v r.revision in
        let k = release_view t r.surfaces v in
        let both = (router.claims).view_accepted t r.surfaces v view_passes in
        let listed = releases_are r t b s j (is_in_view b.homes v) (is_held_in_view v) (entries_of bindings presses) (entries_of captures (view_at r.views v).pointer_captures)
        (ap (entries_of bindings) (sym (ap (λ (o : Result Bindings CompositionError). result_unwrap_or o (packed bindings [])) m) ∙ both.0) ∙ entries_packed bindings (keep (is_of_view r.surfaces v) (presses_of t)) ∙ taken)
        ((registry.claims).view_list r b v u j.shared.agrees (ap is_live there)) in
        accepted (route_entry l e (loss_after x k.router _ (Ok state))) b (at x.registry k.router) refl (rw is listed)
        (ap (none_twice is_same_release) listed ∙ all_once r t b s j (is_in_view b.homes v) (is_held_in_view v)) (rw is (presses_once r t b s j (is_in_view b.homes v) (is_held_in_view v)))
        (subst (Joined None (at x.registry k.router)) (sym (route_noted l e _ b (view v) leaves is (quiet _)))
        (joined_without r t b s j (is_in_view b.homes v) (is_held_in_view v) x.registry k.router ((registry.claims).suspend r b v r.revision u j.shared.agrees (ap (λ (o : Result ViewInputState CompositionError). result_and o (Ok tt)) q))
        (ap presses_of both.1 ∙ entries_packed bindings (keep (λ y. not (is_of_view r.surfaces v y)) (presses_of t)) ∙ others)))
    loss_after_lem presses m (Err y) q a =
        absurd (a.not_21 (ap error_number (suspend_last r u.sound v there y (ap (λ (o : Result ViewInputState CompositionError). result_and o (Ok tt)) q))))

    loss_from_lem : (o : Result Bindings CompositionError) → (release_view t r.surfaces v).outcome ≡ o → ◌≡◌ {A = Outcome} (result_and o (Ok tt)) (Ok tt) → RouteGoes l b e (loss_from r v (release_view t r.surfaces v) o)
    unfolding suspended_loss
    loss_from_lem (Ok presses) m n = loss_after_lem presses m (suspend_view_input r v r.revision).outcome refl
    loss_from_lem (Err y) m n = refused≢accepted n

    pub loss_goes : RouteGoes l b e (routed_loss r t v)
    unfolding routed_loss
    loss_goes = loss_from_lem (release_view t r.surfaces v).outcome refl view_passes
