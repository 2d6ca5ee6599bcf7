-- The claims: the tests before a shutdown make it ready, the folds over views and windows keep that, and their lists are those of the report.
use Rattle.std.specs.Prelude.{Ok, Err}
use Prim.Native.Nat.{◌+◌, ◌≤◌}
use mathlib.Core.Path.{◌≡◌, refl, sym, ap, ◌∙◌}
use mathlib.Core.Bool.{not, ◌&&◌}
use mathlib.Core.List.{List, ◌++◌}
use native.Mathlib.Omega.{arith}
use borrow.Author.Tests.{ltb-false, not-false}
use Rattle.lists.specs.Tables.{packed}
use Rattle.lists.specs.Numbers.{max_u64}
use Rattle.lists.proofs.ListLaws.{and_left, and_right}
use Rattle.handles.specs.Slots.{none_exhausted, handles_table, handles_below, live_handles}
use Rattle.handles.specs.declared.arena.Arena.{Arena}
use Rattle.handles.specs.declared.GenerationalHandle.{GenerationalHandle}
use Rattle.handles.proofs.ListedLaws.{places}
use Rattle.handles.proofs.SoundLaws.{sound}
use Rattle.records.specs.declared.error.CompositionError.TheVariants.{Damaged, RevisionExhausted, GenerationExhausted}
use Rattle.records.specs.Errors.{refusal_if, Outcome}
use Rattle.composition_state.specs.declared.registry.CompositionRegistry.{CompositionRegistry}
use Rattle.composition_state.specs.Damage.{is_sound, damage_refusal}
use Rattle.composition_state.proofs.SettleLaws.{then_last, if_accepted}
use Rattle.composition_close.specs.declared.shutdown.Closing.{Closing}
use Rattle.composition_close.specs.Reports.{close_reports}
use Rattle.composition_close.specs.Shutdown.{is_over, is_any_exhausted, shutdown_refusal, views_closed, windows_closed, shut_down, shutdown_after, shutdown_of}
use Rattle.composition_soundness.specs.Claims.{Whole, Undamaged}
use Rattle.composition_soundness.proofs.CaseLaws.{then_first}
use Rattle.composition_soundness.proofs.PartLaws.{parts}
use Rattle.shutdown_steps.specs.Steps.{begun, views_done, shutdown_steps, ended, steps_after, shutdown_by_steps}
use Rattle.shutdown_steps.specs.Claims.{ShutdownClaims}
use Rattle.shutdown_steps.proofs.SlotLaws.{fresh_when}
use Rattle.shutdown_steps.proofs.PanelLaws.{Going}
use Rattle.shutdown_steps.proofs.ViewLaws.{Passed, views_passed, views_gone}
use Rattle.shutdown_steps.proofs.WindowLaws.{Shut, windows_shut}

module _ (r : CompositionRegistry) (u : Undamaged r) (a : shutdown_refusal r ≡ Ok tt) where
  start : Going (begun r)
  start =
      let p = parts r u in
      let over = refusal_if (is_over r.revision r.surfaces.arena.live r.views.arena.live r.windows.live) RevisionExhausted in
      let a₁ = then_last (damage_refusal r) _ a in
      let within = if_accepted (is_over r.revision r.surfaces.arena.live r.views.arena.live r.windows.live) RevisionExhausted (then_first over _ a₁) in
      let all = not-false (none_exhausted r.windows && (none_exhausted r.views.arena && none_exhausted r.surfaces.arena))
      (if_accepted (is_any_exhausted r) GenerationExhausted (then_last over _ a₁)) in
      let two = and_right (none_exhausted r.windows) _ all in
      record {
        accepted = refl;
        ready = record {
          parts = p;
          windows = fresh_when r.windows _ p.windows (and_left (none_exhausted r.windows) _ all);
          views = fresh_when r.views.arena _ p.views (and_left (none_exhausted r.views.arena) _ two);
          surfaces = fresh_when r.surfaces.arena _ p.surfaces (and_right (none_exhausted r.views.arena) _ two);
          room = ltb-false max_u64 (r.revision + r.surfaces.arena.live + r.views.arena.live + r.windows.live) within;
        };
        few = omega (arith, (sound r.surfaces.arena _ p.surfaces.formed).within_limit.live.table);
      }

  views : Passed r start r.views.arena.used (views_done r) (views_closed r)
  views = views_passed r start

  windows : Shut (views_done r) views.going (views_gone r start) (views_done r).registry.windows.used (shutdown_steps r) (windows_closed (views_done r).registry)
  unfolding shutdown_steps
  windows = windows_shut (views_done r) views.going (views_gone r start)

  pub no_refusal : (shutdown_steps r).outcome ≡ Ok tt
  no_refusal = windows.going.accepted

  listed_all : (a : Arena) → a.used ≤ 64 → (l : List GenerationalHandle) → l ≡ handles_below a.slots a.used → l ≡ live_handles a
  listed_all a few l e = e ∙ ap (handles_below a.slots) (sym (places a few))

  pub all_views : (shutdown_steps r).views ≡ live_handles r.views.arena
  all_views = listed_all r.views.arena (sound r.views.arena _ (parts r u).views.formed).within_limit.used.table _ (windows.views_listed ∙ views.views_listed)

  pub all_windows : (shutdown_steps r).windows ≡ live_handles r.windows
  all_windows = listed_all r.windows (sound r.windows _ (parts r u).windows.formed).within_limit.used.table _
      (windows.windows_listed
      ∙ ap (λ (l : List GenerationalHandle). l ++ handles_below (views_done r).registry.windows.slots (views_done r).registry.windows.used) views.windows_listed
      ∙ ap (λ (a : Arena). handles_below a.slots a.used) views.windows)

  -- the registry and the reports are those of the definition in use
  registry_same : (shutdown_steps r).registry ≡ windows_closed (views_closed r).registry
  registry_same = windows.same ∙ ap (λ (c : Closing). windows_closed c.registry) views.same

  reports_same : packed close_reports (shutdown_steps r).reports ≡ (views_closed r).reports
  reports_same = ap (packed close_reports) windows.reports ∙ ap (λ (c : Closing). c.reports) views.same

  ended_same : ended (Ok tt) (shutdown_steps r) ≡ shut_down r
  unfolding shut_down
  ended_same = λ i. record {
    outcome = Ok (record {
      closed_surfaces = reports_same i;
      closed_views = packed handles_table (all_views i);
      closed_windows = packed handles_table (all_windows i);
      final_revision = (registry_same i).revision;
    });
    registry = registry_same i;
  }

  accepted_same : shut_down r ≡ ended (shutdown_steps r).outcome (shutdown_steps r)
  accepted_same = sym (ap (λ (o : Outcome). ended o (shutdown_steps r)) no_refusal ∙ ended_same)

-- ---- whatever the tests before it answer
after_same : (r : CompositionRegistry) (o : Outcome) → (o ≡ Ok tt → shut_down r ≡ ended (shutdown_steps r).outcome (shutdown_steps r)) → shutdown_after o r ≡ steps_after o r
after_same r (Ok _) f = f refl
after_same r (Err e) f = refl

pub by_steps : (r : CompositionRegistry) → Whole r → shutdown_of r ≡ shutdown_by_steps r
unfolding shutdown_of shutdown_by_steps
by_steps r w = after_same r (shutdown_refusal r) (λ a.
    accepted_same r (record { whole = w; sound = not-false (is_sound r) (if_accepted (not (is_sound r)) Damaged (then_first (damage_refusal r) _ a)) }) a)

pub claims : ShutdownClaims
claims = record { no_refusal = no_refusal; all_views = all_views; all_windows = all_windows; by_steps = by_steps }
