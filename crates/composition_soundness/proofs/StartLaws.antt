-- A registry just started passes the damage test: its limits are those that the start accepts, and it has no slot, registration, trace or view.
use Rattle.std.specs.Prelude.{is_ok, Ok}
use Prim.Native.Nat.{ℕ, ◌≤◌, ◌<◌}
use mathlib.Core.Path.{◌≡◌, refl, sym, ap, ◌∙◌, subst}
use mathlib.Core.Bool.{Bool, true, false, not, ◌||◌}
use mathlib.Core.List.{[]}
use native.Mathlib.Omega.{arith}
use borrow.Author.Tests.{le-leb}
use lib.Dec.{leb}
use Rattle.lists.specs.Lists.{all}
use Rattle.lists.specs.Tables.{packed}
use Rattle.lists.proofs.ListLaws.{by_test, clash, and_both}
use Rattle.lists.proofs.TableLaws.{entries_packed, len_packed}
use Rattle.handles.specs.Slots.{empty_arena, lookup_of}
use Rattle.handles.specs.declared.arena.SlotStatus.TheVariants.{Live}
use Rattle.handles.specs.declared.GenerationalHandle.{GenerationalHandle}
use Rattle.handles.proofs.ClaimLaws.{claims}
use Rattle.handles.proofs.LookupLaws.{live_facts}
use Rattle.records.specs.declared.error.CompositionError.TheVariants.{InvalidConfig, InvalidOwner, PortLimit}
use Rattle.composition_state.specs.declared.registry.CompositionLimits.{CompositionLimits}
use Rattle.composition_state.specs.Damage.{limits_sound, trace_sound, traces_sound}
use Rattle.records.specs.Errors.{refusal_if}
use Rattle.records.specs.Shortcuts.{shortcuts}
use Rattle.composition_state.specs.Start.{any_zero, any_over_u32, any_over_port, is_unowned, is_misconfigured, start_refusal, fresh_registry, started}
use Rattle.records.specs.Traces.{traces}
use Rattle.composition_state.proofs.SettleLaws.{accepted_eq, then_last, if_accepted}
use Rattle.composition_state.proofs.DamageLaws.{or_left, or_right}
use Rattle.composition_soundness.proofs.CaseLaws.{then_first}
use Rattle.composition_soundness.proofs.PartLaws.{Parts}

pub none_live : (h : GenerationalHandle) → lookup_of empty_arena h ≡ Live → ⊥
unfolding empty_arena
none_live h e = below (live_facts empty_arena h e).used
  where
    below : {n : ℕ} → n < 0 → ⊥
    below {n} l = omega arith

no_traces : (limit : ℕ) → traces_sound limit (packed traces []) ≡ true
unfolding traces_sound
no_traces limit =
    and_both (ap (λ (n : ℕ). leb n limit) (len_packed traces []) ∙ le-leb 0 limit (omega arith)) (ap (all trace_sound) (entries_packed traces []))

three_false : {a b c : Bool} → a ≡ false → b ≡ false → c ≡ false → not (a || (b || c)) ≡ true
three_false p q s = rw (p, q, s)

module _ (session : GenerationalHandle) (epoch : ℕ) (limits : CompositionLimits) (revision generation : ℕ) where
  fits : start_refusal session epoch limits generation ≡ Ok tt → limits_sound limits generation ≡ true
  fits a =
      let a₁ = then_last (refusal_if (is_unowned session epoch) InvalidOwner) _ a in
      let config = if_accepted (is_misconfigured limits generation) InvalidConfig (then_first (refusal_if (is_misconfigured limits generation) InvalidConfig) _ a₁) in
      let port = if_accepted (any_over_port limits) PortLimit (then_last (refusal_if (is_misconfigured limits generation) InvalidConfig) _ a₁) in
      three_false (or_left (any_zero limits) _ config) port (or_right (any_over_u32 limits) _ (or_right (any_zero limits) _ config))

  fresh : start_refusal session epoch limits generation ≡ Ok tt → Parts (fresh_registry session epoch limits revision generation)
  unfolding fresh_registry
  fresh a = record {
    limits = fits a;
    windows = claims.new_proper limits.max_windows;
    views = claims.new_proper limits.max_views;
    surfaces = claims.new_proper limits.max_surfaces;
    shortcuts = subst (λ (n : ℕ). n ≤ 256) (sym (len_packed shortcuts [])) (omega arith);
    traces = no_traces limits.max_trace_entries;
    view_records = refl;
    surface_records = refl;
    each = λ h e. absurd (none_live h e);
  }

  pub start : (started session epoch limits revision generation).outcome ≡ Ok tt → Parts (started session epoch limits revision generation).registry
  start q = by_test (is_ok (start_refusal session epoch limits generation))
      (λ t. rw t (fresh (accepted_eq (start_refusal session epoch limits generation) t)))
      (λ t. clash (ap is_ok (rw t at q)) t)
