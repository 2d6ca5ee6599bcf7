-- What an accepted hit test and a refused one answer, by the refusal's two cases.
use Rattle.records.specs.Errors.{Outcome}
use Rattle.std.specs.Prelude.{Result, Ok, Err}
use Rattle.std.specs.Result.{result_and}
use Prim.Native.Nat.{ℕ, ◌≤◌}
use mathlib.Core.Path.{◌≡◌, refl}
use borrow.Author.Tests.{ltb-false}
use lib.Dec.{ltb}
use Rattle.handles.specs.declared.GenerationalHandle.{GenerationalHandle}
use Rattle.records.specs.declared.error.CompositionError.{CompositionError}
use Rattle.records.specs.declared.error.CompositionError.TheVariants.{PortLimit}
use Rattle.composition_state.specs.declared.registry.CompositionRegistry.{CompositionRegistry}
use Rattle.composition_state.specs.Damage.{damage_refusal}
use Rattle.records.specs.Views.{view_refusal}
use Rattle.composition_state.proofs.SettleLaws.{then_last, if_accepted}
use Rattle.composition_hits.specs.HitTest.{hit_test_refusal}

-- a buffer that is accepted has room for 16 handles
pub accepted_long : (r : CompositionRegistry) (view : GenerationalHandle) (size : ℕ) → hit_test_refusal r view size ≡ Ok tt → 32 ≤ size
accepted_long r view size whole =
    let short = then_last (view_refusal r.views view) _ (then_last (damage_refusal r) _ whole) in
    ltb-false size 32 (if_accepted (ltb size 32) PortLimit short)

-- an answer with a value is that of an accepted refusal, and one without a value is the refusal
pub accepted_is : (o : Outcome) (m n : ℕ) → ◌≡◌ {A = Result ℕ CompositionError} (Ok n) (result_and o (Ok m)) → (o ≡ Ok tt) × (n ≡ m)
accepted_is (Ok _) m n q = (refl, cc)
accepted_is (Err e) m n q = cc

pub refused_is : (o : Outcome) (m : ℕ) (e : CompositionError) → ◌≡◌ {A = Result ℕ CompositionError} (Err e) (result_and o (Ok m)) → o ≡ Err e
refused_is (Ok _) m e q = cc
refused_is (Err f) m e q = cc
