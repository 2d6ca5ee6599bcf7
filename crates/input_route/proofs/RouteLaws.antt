-- What an arbitrated event answers, by what is decided of it; and what `routed` answers, by the checks and the payload.
use Rattle.input_events.specs.RouterErrors.{RouterOutcome}
use Rattle.std.specs.Prelude.{Result, Ok, Err}
use Rattle.records.specs.Errors.{refusal_if, Outcome}
use Rattle.std.specs.Result.{result_and}
use mathlib.Core.Path.{◌≡◌, refl, sym, ap, ◌∙◌}
use mathlib.Core.Bool.{Bool, true, false, not, ◌&&◌}
use Rattle.records.specs.declared.error.CompositionError.{CompositionError}
use Rattle.composition_state.specs.declared.registry.CompositionRegistry.{CompositionRegistry}
use Rattle.records.specs.declared.trace.CompositionTrace.{CompositionTrace}
use Rattle.composition_state.specs.Damage.{is_sound, damage_refusal}
use Rattle.composition_arbitration.specs.Decisions.{decided, result_of, kept_in}
use Rattle.composition_arbitration.proofs.DecisionLaws as decisions
use Rattle.input_events.specs.declared.error.PlatformInputError.{PlatformInputError}
use Rattle.input_events.specs.declared.error.PlatformInputError.TheVariants as error
use Rattle.input_events.specs.declared.event.PlatformInputEvent.{PlatformInputEvent}
use Rattle.input_events.specs.ArbitrationEvents.{arbitration_event, is_loss, is_disconnect}
use Rattle.input_events.specs.Presses.{effect_of, receiver_of}
use Rattle.input_router.specs.declared.router.PlatformInputRouter.{PlatformInputRouter}
use Rattle.input_releases.specs.declared.answer.Routed.{Routed}
use Rattle.input_releases.specs.Answers.{refused_with}
use Rattle.input_releases.specs.Losses.{routed_disconnect, routed_loss}
use Rattle.input_route.specs.Checks.{route_refusal, refusal_with}
use Rattle.input_route.specs.Route.{held_for, hits_for, tracked, arbitrated_report, routed_arbitration, routed_payload, recorded_event, routed}

-- checks that pass have found the registry sound
sound_first : (sound other : Bool) (rest : RouterOutcome) → result_and (refusal_if (not (sound && other)) error.Damaged) rest ≡ Ok tt → sound ≡ true
sound_first true other rest h = refl
sound_first false other rest h = let z : true ≡ false = cc in sym z

module _ (r : CompositionRegistry) (t : PlatformInputRouter) (e : PlatformInputEvent) where
  -- ---- an event that is arbitrated
  -- the decision on it, in a sound registry
  abbrev pub decision : Result CompositionTrace CompositionError
  decision = decided (Ok tt) r e.header.view (arbitration_event e (held_for t e)) (hits_for r e)

  abbrev pub arbitrated_with : CompositionTrace → Routed
  arbitrated_with d = record {
    outcome = Ok (arbitrated_report (result_of d));
    registry = kept_in r d;
    router = tracked t (effect_of e) (receiver_of d.consumed_by d.deliveries);
  }

  module _ (whole : is_sound r ≡ true) where
    -- the decision with what the damage test says
    same_decision : decided (damage_refusal r) r e.header.view (arbitration_event e (held_for t e)) (hits_for r e) ≡ decision
    same_decision = rw whole

    pub dropped : (x : CompositionError) → decision ≡ Err x → routed_arbitration r t e ≡ refused_with (error.Composition x) r t
    unfolding routed_arbitration
    dropped x h = rw (decisions.refused r _ _ _ x (same_decision ∙ h))

    pub arbitrated : (d : CompositionTrace) → decision ≡ Ok d → routed_arbitration r t e ≡ arbitrated_with d
    unfolding routed_arbitration
    arbitrated d h = rw (decisions.accepted r _ _ _ d (same_decision ∙ h))

  -- ---- any event
  -- the checks, from what the damage test says
  abbrev pub checked : RouterOutcome
  checked = refusal_with (is_sound r) r.views t e

  same_checks : checked ≡ route_refusal r t e
  unfolding route_refusal
  same_checks = refl

  pub refused : (x : PlatformInputError) → checked ≡ Err x → routed r t e ≡ refused_with x r t
  unfolding routed
  refused x h = rw (sym same_checks, h)

  module _ (passed : checked ≡ Ok tt) where
    pub sound : is_sound r ≡ true
    sound = sound_first (is_sound r) _ _ passed

    work : routed r t e ≡ routed_payload r (recorded_event t e) e
    unfolding routed
    work = rw (sym same_checks, passed)

    pub disconnected : is_disconnect e.payload ≡ true → routed r t e ≡ routed_disconnect r (recorded_event t e) e.header.device
    unfolding routed_payload
    disconnected d = rw (work, d)

    module _ (kept : is_disconnect e.payload ≡ false) where
      pub lost : is_loss e.payload ≡ true → routed r t e ≡ routed_loss r (recorded_event t e) e.header.view
      unfolding routed_payload
      lost l = rw (work, kept, l)

      pub goes : is_loss e.payload ≡ false → routed r t e ≡ routed_arbitration r (recorded_event t e) e
      unfolding routed_payload
      goes l = rw (work, kept, l)
