-- Every live window in slot order, once no view is live: as for the views, by induction on the slots.
use Rattle.std.specs.Prelude.{Ok}
use Rattle.records.specs.Errors.{Outcome}
use Prim.Native.Nat.{ℕ, zero, suc, ◌≤◌, ◌<◌}
use mathlib.Core.Path.{◌≡◌, refl, sym, ap, ◌∙◌, subst}
use mathlib.Core.Bool.{true, false}
use mathlib.Core.List.{List, [], ◌∷◌, ◌++◌, append-nil, append_assoc}
use native.Mathlib.Omega.{arith}
use Rattle.lists.specs.Below.{iter_below}
use Rattle.lists.proofs.ListLaws.{by_test}
use Rattle.handles.specs.Handles.{handle_of}
use Rattle.handles.specs.Slots.{slot_at, lookup_of, handles_at, handles_below, live_handles}
use Rattle.handles.specs.declared.arena.Arena.{Arena}
use Rattle.handles.specs.declared.arena.Slot.{Slot}
use Rattle.handles.specs.declared.arena.SlotStatus.TheVariants.{Live}
use Rattle.handles.specs.declared.GenerationalHandle.{GenerationalHandle}
use Rattle.handles.proofs.ListedLaws.{places}
use Rattle.handles.proofs.SoundLaws.{sound}
use Rattle.composition_state.specs.Registry.{Changed}
use Rattle.composition_state.specs.declared.registry.CompositionRegistry.{CompositionRegistry}
use Rattle.composition_panels.specs.Windows.{close_window}
use Rattle.composition_close.specs.Shutdown.{window_closed, window_closed_at, windows_closed}
use Rattle.composition_soundness.proofs.LiveLaws.{filled_live}
use Rattle.shutdown_steps.specs.Steps.{Way, unless_refused, window_taken, window_step, window_steps}
use Rattle.shutdown_steps.proofs.ReadyLaws.{window_next, window_release, window_closes, window_raised, window_ready}
use Rattle.shutdown_steps.proofs.PanelLaws.{Going}
use Rattle.shutdown_steps.proofs.ViewLaws.{more}

steps_append : (a b : List GenerationalHandle) (w : Way) → window_steps (a ++ b) w ≡ window_steps b (window_steps a w)
unfolding window_steps
steps_append [] b w = refl
steps_append (h ∷ a) b w = steps_append a b (window_step h w)

-- ---- one window
module _ (w : Way) (g : Going w) (none : (h : GenerationalHandle) → lookup_of w.registry.views.arena h ≡ Live → ⊥)
    (window : GenerationalHandle) (stands : lookup_of w.registry.windows window ≡ Live) where
  abbrev left : Way
  left = record {
    outcome = Ok tt;
    registry = window_next window w.registry;
    reports = w.reports;
    views = w.views;
    windows = w.windows ++ (window ∷ []);
  }

  window_on : window_step window w ≡ left
  unfolding window_step
  window_on =
      ap (λ (x : Outcome). unless_refused x w (window_taken window (close_window w.registry window) w)) g.accepted
      ∙ ap (λ (x : Changed). window_taken window x w) (window_closes w.registry g.ready none window stands)

  left_going : Going left
  left_going = record { accepted = refl; ready = window_ready w.registry g.ready none window stands; few = g.few }

-- ---- every window in slot order
module _ (w₀ : Way) (start : Going w₀) (none₀ : (h : GenerationalHandle) → lookup_of w₀.registry.views.arena h ≡ Live → ⊥) where
  abbrev first : Arena
  first = w₀.registry.windows

  -- after n slots
  pub record Shut (n : ℕ) (w : Way) (c : CompositionRegistry) : Type 0 where
    pub going : Going w
    pub same : w.registry ≡ c
    pub ahead : (j : ℕ) → n ≤ j → slot_at w.registry.windows j ≡ slot_at first j
    pub used : w.registry.windows.used ≡ first.used
    pub none : (h : GenerationalHandle) → lookup_of w.registry.views.arena h ≡ Live → ⊥
    pub reports : w.reports ≡ w₀.reports
    pub views_listed : w.views ≡ w₀.views
    pub windows_listed : w.windows ≡ w₀.windows ++ handles_below first.slots n

  module _ (n : ℕ) (w : Way) (c : CompositionRegistry) (within : n < first.used) (x : Shut n w c) where
    abbrev here : GenerationalHandle
    here = handle_of n (slot_at first n).generation

    slot : slot_at w.registry.windows n ≡ slot_at first n
    slot = x.ahead n (omega arith)

    past : (j : ℕ) → suc n ≤ j → j ≡ n → ⊥
    past j l e = omega arith

    filled_step : (slot_at first n).filled ≡ true → Shut (suc n) (window_steps (here ∷ []) w) (window_closed here w.registry)
    unfolding window_steps
    filled_step t =
        let stands : lookup_of w.registry.windows here ≡ Live = subst (λ (s : Slot). lookup_of w.registry.windows (handle_of n s.generation) ≡ Live) slot
        (filled_live w.registry.windows _ x.going.ready.parts.windows n (subst (λ (m : ℕ). n < m) (sym x.used) within) (ap (λ (s : Slot). s.filled) slot ∙ t)) in
        let z = window_release w.registry x.going.ready x.none here stands in
        subst (λ (y : Way). Shut (suc n) y (window_closed here w.registry)) (sym (window_on w x.going x.none here stands)) (record {
          going = left_going w x.going x.none here stands;
          same = sym (window_raised w.registry x.going.ready x.none here stands);
          ahead = λ j l. z.others j (past j l) ∙ x.ahead j (omega arith);
          used = z.used ∙ x.used;
          none = x.none;
          reports = x.reports;
          views_listed = x.views_listed;
          windows_listed = ap (λ (l : List GenerationalHandle). l ++ (here ∷ [])) x.windows_listed
              ∙ append_assoc w₀.windows (handles_below first.slots n) (here ∷ [])
              ∙ ap (λ (l : List GenerationalHandle). w₀.windows ++ l) (sym (more first n ∙ rw t));
        })

    empty_step : (slot_at first n).filled ≡ false → Shut (suc n) (window_steps [] w) w.registry
    unfolding window_steps
    empty_step t = record {
      going = x.going;
      same = refl;
      ahead = λ j l. x.ahead j (omega arith);
      used = x.used;
      none = x.none;
      reports = x.reports;
      views_listed = x.views_listed;
      windows_listed = x.windows_listed ∙ ap (λ (l : List GenerationalHandle). w₀.windows ++ l) (sym (more first n ∙ rw (t, append-nil (handles_below first.slots n))));
    }

    one_more : Shut (suc n) (window_steps (handles_at first.slots n) w) (window_closed_at n c)
    one_more = subst (λ (y : CompositionRegistry). Shut (suc n) (window_steps (handles_at first.slots n) w) (window_closed_at n y)) x.same
        (by_test (slot_at first n).filled
        (λ t. rw (slot, t) (filled_step t))
        (λ t. rw (slot, t) (empty_step t)))

  all_shut : (n : ℕ) → n ≤ first.used → Shut n (window_steps (handles_below first.slots n) w₀) (iter_below window_closed_at n w₀.registry)
  unfolding handles_below iter_below window_steps
  all_shut zero l = record {
    going = start;
    same = refl;
    ahead = λ j m. refl;
    used = refl;
    none = none₀;
    reports = refl;
    views_listed = refl;
    windows_listed = sym (append-nil w₀.windows);
  }
  all_shut (suc n) l = subst (λ (w : Way). Shut (suc n) w (iter_below window_closed_at (suc n) w₀.registry))
      (sym (steps_append (handles_below first.slots n) (handles_at first.slots n) w₀))
      (one_more n _ _ (omega arith) (all_shut n (omega arith)))

  pub windows_shut : Shut first.used (window_steps (live_handles first) w₀) (windows_closed w₀.registry)
  unfolding windows_closed
  windows_shut = subst (λ (n : ℕ). Shut first.used (window_steps (handles_below first.slots n) w₀) (iter_below window_closed_at n w₀.registry))
      (sym (places first (sound first _ start.ready.parts.windows.formed).within_limit.used.table))
      (all_shut first.used (omega arith))
