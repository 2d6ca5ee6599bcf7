-- One place of an array is written: what the write keeps there stays at every place, by cases of the place. So a panel's record with the same view and z_order leaves every panel in its place.
use Prim.Native.Nat.{ℕ}
use mathlib.Core.Path.{◌≡◌, refl, sym, ap, ◌∙◌, subst}
use mathlib.Core.List.{List}
use borrow.Author.Tests.{ltb-true, ltb-false}
use lib.Dec.{ltb}
use lib.ListN.{length, get_or, set}
use lib.Seq.{get_or-set_same, get_or-set_other, set_out}
use Rattle.lists.proofs.ListLaws.{by_test}
use Rattle.handles.proofs.SlotLaws.{by_same}
use Rattle.handles.specs.declared.GenerationalHandle.{GenerationalHandle}
use Rattle.records.specs.declared.surface.SurfaceRecord.{SurfaceRecord}
use Rattle.records.specs.Surfaces.{SurfaceTable, no_surface, descriptor_of, with_surface}
use Rattle.records.specs.Claims.{SamePlaces, RecordClaims}
use Rattle.records.proofs.OutcomeLaws.{not_zero}

module _ {E : Type 0} where
  -- what holds at a place still holds after a write that keeps it at its own place
  pub set_keeps : (P : E → Type 0) (l : List E) (i j : ℕ) (e d : E) → (j ≡ i → P (get_or l i d) → P e) → P (get_or l j d) → P (get_or (set l i e) j d)
  set_keeps P l i j e d f x = by_same j i
      (λ q. by_test (ltb i (length l))
      (λ t. subst P (sym (ap (λ (k : ℕ). get_or (set l i e) k d) q ∙ get_or-set_same l i e d (ltb-true i (length l) t))) (f q (subst P (ap (λ (k : ℕ). get_or l k d) q) x)))
      (λ t. subst P (sym (ap (λ (m : List E). get_or m j d) (set_out l i e (ltb-false i (length l) t)))) x))
      (λ n. subst P (sym (get_or-set_other l i j e d n)) x)

  -- a write that keeps a field of its place keeps it at every place
  pub field_kept : {X : Type 0} (f : E → X) (l : List E) (i j : ℕ) (e d : E) → f e ≡ f (get_or l i d) → f (get_or (set l i e) j d) ≡ f (get_or l j d)
  field_kept f l i j e d same = set_keeps (λ (x : E). f x ≡ f (get_or l j d)) l i j e d (λ k q. same ∙ q) refl

places_stay : (t : SurfaceTable) (h : GenerationalHandle) (s : SurfaceRecord) → s.descriptor.view ≡ (descriptor_of t h).view
    → s.descriptor.z_order ≡ (descriptor_of t h).z_order → SamePlaces t (with_surface h s t)
places_stay t h s view place = record {
  status = λ g. refl;
  view = λ g. field_kept (λ (x : SurfaceRecord). x.descriptor.view) t.records h.index g.index s no_surface view;
  z_order = λ g. field_kept (λ (x : SurfaceRecord). x.descriptor.z_order) t.records h.index g.index s no_surface place;
}

pub claims : RecordClaims
claims = record { not_zero = not_zero; places_stay = places_stay }
