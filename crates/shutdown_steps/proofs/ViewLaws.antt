-- Every live view in slot order: a slot that was not reached is as it was, so its view is live at its turn, and after the last slot none is. By induction on the slots.
use Rattle.std.specs.Prelude.{Ok}
use Prim.Native.Nat.{ℕ, zero, suc, ◌≤◌, ◌<◌}
use mathlib.Core.Path.{◌≡◌, refl, sym, ap, ◌∙◌, subst}
use mathlib.Core.Bool.{true, false}
use mathlib.Core.List.{List, [], ◌∷◌, ◌++◌, reverse-reverse, append-nil}
use native.Mathlib.Omega.{arith}
use Rattle.lists.specs.Below.{iter_below}
use Rattle.lists.specs.Tables.{entries_of, packed}
use Rattle.lists.proofs.ListLaws.{by_test, clash}
use Rattle.handles.specs.Handles.{handle_of}
use Rattle.handles.specs.Slots.{slot_at, lookup_of, released, handles_at, handles_below}
use Rattle.handles.specs.declared.arena.Arena.{Arena}
use Rattle.handles.specs.declared.arena.Slot.{Slot}
use Rattle.handles.specs.declared.arena.SlotStatus.{SlotStatus}
use Rattle.handles.specs.declared.arena.SlotStatus.TheVariants.{Live}
use Rattle.handles.specs.declared.GenerationalHandle.{GenerationalHandle}
use Rattle.handles.proofs.ListedLaws.{places}
use Rattle.handles.proofs.LookupLaws.{live_facts}
use Rattle.handles.proofs.SoundLaws.{sound}
use Rattle.records.specs.declared.error.CompositionError.TheVariants.{InvalidView, StaleView}
use Rattle.records.specs.Errors.{status_refusal, Outcome}
use Rattle.records.specs.Layers.{layers}
use Rattle.records.specs.Views.{view_at, view_refusal}
use Rattle.composition_state.specs.Registry.{Changed}
use Rattle.composition_state.specs.declared.registry.CompositionRegistry.{CompositionRegistry}
use Rattle.composition_panels.specs.Windows.{close_view}
use Rattle.composition_close.specs.declared.shutdown.Closing.{Closing}
use Rattle.composition_close.specs.Reports.{close_reports}
use Rattle.composition_close.specs.Shutdown.{layers_closed, view_closed, whole_view_closed, view_closed_at, views_closed}
use Rattle.composition_soundness.proofs.LiveLaws.{one_live, was_live, filled_live}
use Rattle.composition_soundness.proofs.WindowLaws.{views_few, all_slots}
use Rattle.shutdown_steps.specs.Steps.{Way, unless_refused, panel_steps, view_found, view_taken, view_left, layers_down, view_step, view_steps, begun, views_done}
use Rattle.shutdown_steps.proofs.ReadyLaws.{view_next, view_release, view_closes, view_raised, view_ready}
use Rattle.shutdown_steps.proofs.PanelLaws.{closing, Going, Done, panels_done}

-- ---- one view with its panels
abbrev again : Way → Way
again w = record { outcome = Ok tt; registry = w.registry; reports = w.reports; views = w.views; windows = w.windows }

pub record ViewDone (view : GenerationalHandle) (w v : Way) (c : Closing) : Type 0 where
  pub going : Going v
  pub same : closing v ≡ c
  pub slots : v.registry.views.arena ≡ (released w.registry.views.arena view).arena
  pub windows : v.registry.windows ≡ w.registry.windows
  pub views_listed : v.views ≡ w.views ++ (view ∷ [])
  pub windows_listed : v.windows ≡ w.windows

module _ (w : Way) (g : Going w) (view : GenerationalHandle) (stands : lookup_of w.registry.views.arena view ≡ Live) where
  found_on : view_found view w ≡ again w
  unfolding view_found
  found_on =
      ap (λ (x : Outcome). unless_refused x w (record { outcome = view_refusal w.registry.views view; registry = w.registry; reports = w.reports; views = w.views; windows = w.windows })) g.accepted
      ∙ ap (λ (s : SlotStatus). record { outcome = status_refusal s InvalidView StaleView; registry = w.registry; reports = w.reports; views = w.views; windows = w.windows }) stands

  abbrev emptied : Way
  emptied = panel_steps (layers_down w.registry view) (again w)

  panels : Done view (again w) emptied (layers_closed (layers_down w.registry view) (closing w))
  panels = panels_done view (layers_down w.registry view) (again w) (record { accepted = refl; ready = g.ready; few = g.few }) stands
      (sym (reverse-reverse (entries_of layers (view_at w.registry.views view).surfaces)))

  still : lookup_of emptied.registry.views.arena view ≡ Live
  still = ap (λ (a : Arena). lookup_of a view) panels.slots ∙ stands

  abbrev left : Way
  left = record {
    outcome = Ok tt;
    registry = view_next view emptied.registry;
    reports = emptied.reports;
    views = emptied.views ++ (view ∷ []);
    windows = emptied.windows;
  }

  view_on : view_step view w ≡ left
  unfolding view_step view_left
  view_on =
      ap (λ (x : Way). view_left view (panel_steps (layers_down x.registry view) x)) found_on
      ∙ ap (λ (x : Outcome). unless_refused x emptied (view_taken view (close_view emptied.registry view) emptied)) panels.going.accepted
      ∙ ap (λ (x : Changed). view_taken view x emptied) (view_closes emptied.registry panels.going.ready view still panels.empty)

  view_same : closing left ≡ whole_view_closed view (closing w)
  unfolding whole_view_closed
  view_same =
      sym (ap (λ (c : Closing). record { registry = view_closed view c.registry; reports = c.reports }) (sym panels.same)
      ∙ ap (λ (x : CompositionRegistry). record { registry = x; reports = packed close_reports emptied.reports }) (view_raised emptied.registry panels.going.ready view still))

  pub view_done : ViewDone view w (view_step view w) (whole_view_closed view (closing w))
  view_done = subst (λ (x : Way). ViewDone view w x (whole_view_closed view (closing w))) (sym view_on) (record {
    going = record { accepted = refl; ready = view_ready emptied.registry panels.going.ready view still; few = panels.going.few };
    same = view_same;
    slots = ap (λ (a : Arena). (released a view).arena) panels.slots;
    windows = panels.windows;
    views_listed = ap (λ (l : List GenerationalHandle). l ++ (view ∷ [])) panels.views_listed;
    windows_listed = panels.windows_listed;
  })

-- ---- the handles of the filled slots, one slot more
pub more : (a : Arena) (n : ℕ) → handles_below a.slots (suc n) ≡ handles_below a.slots n ++ handles_at a.slots n
unfolding handles_below iter_below
more a n = refl

steps_append : (a b : List GenerationalHandle) (w : Way) → view_steps (a ++ b) w ≡ view_steps b (view_steps a w)
unfolding view_steps
steps_append [] b w = refl
steps_append (h ∷ a) b w = steps_append a b (view_step h w)

-- ---- every view in slot order
module _ (r : CompositionRegistry) (start : Going (begun r)) where
  -- after n slots
  pub record Passed (n : ℕ) (w : Way) (c : Closing) : Type 0 where
    pub going : Going w
    pub same : closing w ≡ c
    pub ahead : (j : ℕ) → n ≤ j → slot_at w.registry.views.arena j ≡ slot_at r.views.arena j
    pub used : w.registry.views.arena.used ≡ r.views.arena.used
    pub later : (g : GenerationalHandle) → lookup_of w.registry.views.arena g ≡ Live → n ≤ g.index
    pub windows : w.registry.windows ≡ r.windows
    pub views_listed : w.views ≡ handles_below r.views.arena.slots n
    pub windows_listed : w.windows ≡ []

  module _ (n : ℕ) (w : Way) (c : Closing) (within : n < r.views.arena.used) (x : Passed n w c) where
    abbrev slots : Arena
    slots = w.registry.views.arena

    abbrev here : GenerationalHandle
    here = handle_of n (slot_at r.views.arena n).generation

    slot : slot_at slots n ≡ slot_at r.views.arena n
    slot = x.ahead n (omega arith)

    passed : (g : GenerationalHandle) → n ≤ g.index → (g.index ≡ n → ⊥) → suc n ≤ g.index
    passed g l d = over l d
      where
        over : {m : ℕ} → n ≤ m → (m ≡ n → ⊥) → suc n ≤ m
        over {m} l d = omega arith

    past : (j : ℕ) → suc n ≤ j → j ≡ n → ⊥
    past j l e = omega arith

    filled_step : (slot_at r.views.arena n).filled ≡ true → Passed (suc n) (view_steps (here ∷ []) w) (whole_view_closed here (closing w))
    unfolding view_steps
    filled_step t =
        let stands : lookup_of slots here ≡ Live = subst (λ (s : Slot). lookup_of slots (handle_of n s.generation) ≡ Live) slot
        (filled_live slots _ x.going.ready.parts.views n (subst (λ (m : ℕ). n < m) (sym x.used) within) (ap (λ (s : Slot). s.filled) slot ∙ t)) in
        let d = view_done w x.going here stands in
        let z = view_release w.registry x.going.ready here stands in
        record {
          going = d.going;
          same = d.same;
          ahead = λ j l. ap (λ (a : Arena). slot_at a j) d.slots ∙ z.others j (past j l) ∙ x.ahead j (omega arith);
          used = ap (λ (a : Arena). a.used) d.slots ∙ z.used ∙ x.used;
          later = λ g e.
              let e' : lookup_of (released slots here).arena g ≡ Live = ap (λ (a : Arena). lookup_of a g) (sym d.slots) ∙ e in
              let was = was_live slots here g e' in
              passed g (x.later g was) (λ i. z.gone (ap (lookup_of (released slots here).arena) (sym (one_live slots g here was stands i)) ∙ e'));
          windows = d.windows ∙ x.windows;
          views_listed = d.views_listed ∙ ap (λ (l : List GenerationalHandle). l ++ (here ∷ [])) x.views_listed
              ∙ sym (more r.views.arena n ∙ rw t);
          windows_listed = d.windows_listed ∙ x.windows_listed;
        }

    empty_step : (slot_at r.views.arena n).filled ≡ false → Passed (suc n) (view_steps [] w) (closing w)
    unfolding view_steps
    empty_step t = record {
      going = x.going;
      same = refl;
      ahead = λ j l. x.ahead j (omega arith);
      used = x.used;
      later = λ g e. passed g (x.later g e) (λ i. clash (live_facts slots g e).filled (ap (λ (j : ℕ). (slot_at slots j).filled) i ∙ ap (λ (s : Slot). s.filled) slot ∙ t));
      windows = x.windows;
      views_listed = x.views_listed ∙ sym (more r.views.arena n ∙ rw (t, append-nil (handles_below r.views.arena.slots n)));
      windows_listed = x.windows_listed;
    }

    one_more : Passed (suc n) (view_steps (handles_at r.views.arena.slots n) w) (view_closed_at n c)
    one_more = subst (λ (y : Closing). Passed (suc n) (view_steps (handles_at r.views.arena.slots n) w) (view_closed_at n y)) x.same
        (by_test (slot_at r.views.arena n).filled
        (λ t. rw (slot, t) (filled_step t))
        (λ t. rw (slot, t) (empty_step t)))

  all_passed : (n : ℕ) → n ≤ r.views.arena.used → Passed n (view_steps (handles_below r.views.arena.slots n) (begun r)) (iter_below view_closed_at n (closing (begun r)))
  unfolding handles_below iter_below view_steps
  all_passed zero l = record {
    going = start;
    same = refl;
    ahead = λ j m. refl;
    used = refl;
    later = λ g e. omega arith;
    windows = refl;
    views_listed = refl;
    windows_listed = refl;
  }
  all_passed (suc n) l = subst (λ (w : Way). Passed (suc n) w (iter_below view_closed_at (suc n) (closing (begun r))))
      (sym (steps_append (handles_below r.views.arena.slots n) (handles_at r.views.arena.slots n) (begun r)))
      (one_more n _ _ (omega arith) (all_passed n (omega arith)))

  pub views_passed : Passed r.views.arena.used (views_done r) (views_closed r)
  unfolding views_done views_closed
  views_passed =
      let p = start.ready.parts in
      subst (λ (n : ℕ). Passed r.views.arena.used (view_steps (handles_below r.views.arena.slots n) (begun r)) (views_closed r))
      (sym (places r.views.arena (sound r.views.arena _ p.views.formed).within_limit.used.table))
      (subst (λ (n : ℕ). Passed r.views.arena.used (view_steps (handles_below r.views.arena.slots r.views.arena.used) (begun r)) (iter_below view_closed_at n (closing (begun r))))
      (sym (all_slots r.views (views_few r p)))
      (all_passed r.views.arena.used (omega arith)))

  -- no view is live after them
  pub views_gone : (g : GenerationalHandle) → lookup_of (views_done r).registry.views.arena g ≡ Live → ⊥
  views_gone g e = apart (views_passed.later g e) (live_facts (views_done r).registry.views.arena g e).used views_passed.used
    where
      apart : {j k m : ℕ} → j ≤ m → m < k → k ≡ j → ⊥
      apart {j} {k} {m} a b c = omega arith
