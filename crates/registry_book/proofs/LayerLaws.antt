-- A panel among layers: among those of them that a test keeps, and among those with one more, below or above which every other lies.
use mathlib.Core.Path.{◌≡◌, refl, ap, ◌∙◌}
use mathlib.Core.Bool.{Bool, true, false, ◌||◌}
use mathlib.Core.List.{List, [], ◌∷◌, ◌++◌}
use Rattle.lists.specs.Lists.{keep}
use Rattle.lists.specs.Maps.{insert}
use Rattle.lists.proofs.ListLaws.{by_test, clash}
use Rattle.handles.specs.Handles.{same_handle}
use Rattle.handles.specs.declared.GenerationalHandle.{GenerationalHandle}
use Rattle.handles.proofs.HandleLaws.{handles}
use Rattle.records.specs.declared.surface.SurfaceRecord.{SurfaceRecord}
use Rattle.records.specs.Layers.{itself, layer_lt}
use Rattle.records.proofs.LayerLaws.{same_layer, ordered}
use Rattle.composition_arbitration.specs.Targets.{is_among}

or_right : (a : Bool) {b : Bool} → b ≡ true → (a || b) ≡ true
or_right true p = refl
or_right false p = p

module _ (h : GenerationalHandle) where
  among_right : (a b : List GenerationalHandle) → is_among h b ≡ true → is_among h (a ++ b) ≡ true
  among_right [] b t = t
  among_right (g ∷ a) b t = or_right (same_handle g h) (among_right a b t)

  among_left : (a b : List GenerationalHandle) → is_among h a ≡ true → is_among h (a ++ b) ≡ true
  among_left [] b t = clash t refl
  among_left (g ∷ a) b t = by_test (same_handle g h) (λ s. rw s) (λ s. or_right (same_handle g h) (among_left a b (rw s at t)))

  pub among_keep : (q : GenerationalHandle → Bool) (l : List GenerationalHandle) → q h ≡ true → is_among h l ≡ true → is_among h (keep q l) ≡ true
  among_keep q [] y t = t
  among_keep q (g ∷ l) y t = by_test (same_handle g h)
      (λ s. let z : q g ≡ true = ap q (handles.same_eq g h s) ∙ y in rw (z, s))
      (λ s. let rest = among_keep q l y (rw s at t) in by_test (q g) (λ z. rw (z, s) rest) (λ z. rw z rest))

  pub among_itself : (records : List SurfaceRecord) (l : List GenerationalHandle) → is_among h (insert itself (layer_lt records) h l) ≡ true
  among_itself records l = among_right (keep (λ f. layer_lt records f h) l) (h ∷ keep (λ f. layer_lt records h f) l) (ap (λ (s : Bool). s || is_among h (keep (λ f. layer_lt records h f) l)) (handles.same_refl h))

  -- every other layer lies below the new one or above it
  pub among_inserted : (records : List SurfaceRecord) (n : GenerationalHandle) (l : List GenerationalHandle) → (h ≡ n → ⊥) → is_among h l ≡ true → is_among h (insert itself (layer_lt records) n l) ≡ true
  among_inserted records n l d t =
      let low = keep (λ f. layer_lt records f n) l in
      let high = keep (λ f. layer_lt records n f) l in
      by_test (layer_lt records h n)
      (λ s. among_left low (n ∷ high) (among_keep (λ f. layer_lt records f n) l s t))
      (λ s. among_right low (n ∷ high) (or_right (same_handle n h) (among_keep (λ f. layer_lt records n f) l (by_test (same_layer records h n)
      (λ z. absurd (d ((ordered records).same_eq h n z))) (λ z. (ordered records).connex h n z s)) t)))
