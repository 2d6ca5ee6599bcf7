-- What each passed check says, by the cases of its answer.
use Rattle.std.specs.Result.{result_and}
use Rattle.std.specs.Prelude.{is_ok, Ok, Err}
use mathlib.Core.Path.{◌≡◌, refl, ap, ◌∙◌}
use mathlib.Core.Bool.{Bool, true, false, cond}
use Rattle.lists.proofs.ListLaws.{by_test, clash}
use Rattle.handles.specs.Handles.{same_handle}
use Rattle.handles.specs.declared.arena.SlotStatus.{SlotStatus}
use Rattle.handles.specs.declared.arena.SlotStatus.TheVariants.{Live, Invalid, Stale}
use Rattle.handles.specs.declared.GenerationalHandle.{GenerationalHandle}
use Rattle.handles.proofs.HandleLaws.{handles}
use Rattle.records.specs.declared.error.CompositionError.{CompositionError}
use Rattle.records.specs.Errors.{status_refusal, Outcome}
use Rattle.records.specs.Layers.{is_live}

-- what holds of both answers holds of the one that a test picks
pub either : {X : Type 0} (P : X → Type 0) (b : Bool) (x y : X) → P x → P y → P (cond b x y)
either P true x y p q = p
either P false x y p q = q

pub refused≢accepted {ℓ} : {P : Type ℓ} {e : CompositionError} → ◌≡◌ {A = Outcome} (Err e) (Ok tt) → P
refused≢accepted q = clash (ap (λ (o : Outcome). is_ok o) q) refl

pub then_first : (a b : Outcome) → result_and a b ≡ Ok tt → a ≡ Ok tt
then_first (Ok _) b h = refl
then_first (Err e) b h = h

pub status_live : (s : SlotStatus) (e f : CompositionError) → status_refusal s e f ≡ Ok tt → s ≡ Live
status_live Live e f h = refl
status_live Invalid e f h = refused≢accepted h
status_live Stale e f h = refused≢accepted h

pub live_is : (s : SlotStatus) → is_live s ≡ true → s ≡ Live
live_is Live t = refl
live_is Invalid t = clash t refl
live_is Stale t = clash t refl

-- by whether two handles are the same
pub by_handle {ℓ} : {P : Type ℓ} (g h : GenerationalHandle) → (g ≡ h → P) → ((g ≡ h → ⊥) → P) → P
by_handle g h f k = by_test (same_handle g h)
    (λ t. f (handles.same_eq g h t))
    (λ t. k (λ q. clash (ap (λ (x : GenerationalHandle). same_handle x h) q ∙ handles.same_refl h) t))
