-- A layer is a live panel of its view, read off the test; layers with a panel more and with one fewer pass again.
use Prim.Native.Nat.{ℕ, ◌≤◌, ◌<◌}
use mathlib.Core.Path.{◌≡◌, refl, sym, ap, ◌∙◌, subst}
use mathlib.Core.Bool.{Bool, true, false, cond}
use mathlib.Core.List.{◌∷◌}
use native.Mathlib.Omega.{arith}
use borrow.Author.Tests.{eqb-false}
use lib.Dec.{eqb, ltb}
use lib.ListN.{length}
use Rattle.lists.specs.Lists.{keep, all}
use Rattle.lists.specs.Maps.{insert, rising}
use Rattle.lists.specs.Tables.{entries_of, packed}
use Rattle.lists.proofs.ListLaws.{by_test, clash, and_both, all_append}
use Rattle.lists.proofs.TableLaws.{entries_packed, len_packed}
use Rattle.handles.specs.Handles.{same_handle}
use Rattle.handles.specs.Slots.{lookup_of}
use Rattle.handles.specs.declared.arena.SlotStatus.{SlotStatus}
use Rattle.handles.specs.declared.arena.SlotStatus.TheVariants.{Live}
use Rattle.handles.specs.declared.GenerationalHandle.{GenerationalHandle}
use Rattle.handles.proofs.HandleLaws.{handles}
use Rattle.records.specs.Layers.{Layers, layers, itself, layer_lt, layers_with, is_live, is_layer_of}
use Rattle.records.specs.Surfaces.{SurfaceTable, descriptor_of}
use Rattle.records.proofs.LayerLaws as layer
use Rattle.composition_soundness.proofs.CaseLaws.{live_is}
use Rattle.composition_soundness.proofs.ListLaws.{all_keep, entries_few, kept_few}
use Rattle.composition_soundness.proofs.ChangeLaws.{LayerParts}

both_first : (a b : Bool) → cond a b false ≡ true → a ≡ true
both_first true b h = refl
both_first false b h = h

both_second : (a b : Bool) → cond a b false ≡ true → b ≡ true
both_second true b h = h
both_second false b h = clash h refl

module _ (t : SurfaceTable) (view at : GenerationalHandle) where
  pub layer_live : is_layer_of t view at ≡ true → lookup_of t.arena at ≡ Live
  layer_live h = live_is (lookup_of t.arena at) (both_first (is_live (lookup_of t.arena at)) (same_handle (descriptor_of t at).view view) h)

  pub layer_view : is_layer_of t view at ≡ true → (descriptor_of t at).view ≡ view
  layer_view h = handles.same_eq (descriptor_of t at).view view (both_second (is_live (lookup_of t.arena at)) (same_handle (descriptor_of t at).view view) h)

  pub layer_when : lookup_of t.arena at ≡ Live → (descriptor_of t at).view ≡ view → is_layer_of t view at ≡ true
  layer_when e q =
      ap (λ (s : SlotStatus). cond (is_live s) (same_handle (descriptor_of t at).view view) false) e
      ∙ (ap (λ (v : GenerationalHandle). same_handle v view) q ∙ handles.same_refl view)

module _ (surfaces : SurfaceTable) (limit : ℕ) (view : GenerationalHandle) (t : Layers) (x : LayerParts surfaces limit view t) where
  -- those that a test keeps
  pub layers_kept : (q : GenerationalHandle → Bool) → LayerParts surfaces limit view (packed layers (keep q (entries_of layers t)))
  layers_kept q = record {
    count = kept_few layers q t limit x.count;
    own = ap (all (is_layer_of surfaces view)) (entries_packed layers (keep q (entries_of layers t))) ∙ all_keep (is_layer_of surfaces view) q (entries_of layers t) x.own;
    rise = ap (rising itself (layer_lt surfaces.records)) (entries_packed layers (keep q (entries_of layers t)))
        ∙ (layer.claims surfaces.records).keep_rises q (entries_of layers t) x.rise;
  }

  -- one more, where the limit has room
  module _ (h : GenerationalHandle) (own : is_layer_of surfaces view h ≡ true) (room : eqb (length (entries_of layers t)) limit ≡ false) where
    inserted : LayerParts surfaces limit view (packed layers (insert itself (layer_lt surfaces.records) h (entries_of layers t)))
    inserted =
        let l = entries_of layers t in
        let low = keep (λ (f : GenerationalHandle). layer_lt surfaces.records f h) l in
        let high = keep (λ (f : GenerationalHandle). layer_lt surfaces.records h f) l in
        let below : length l < limit = less (eqb-false (length l) limit room) (entries_few layers t) x.count in
        record {
          count = subst (λ (n : ℕ). n ≤ limit) (sym (len_packed layers (insert itself (layer_lt surfaces.records) h l))) (omega (arith, layer.insert_fits surfaces.records h l, below));
          own = ap (all (is_layer_of surfaces view)) (entries_packed layers (insert itself (layer_lt surfaces.records) h l)) ∙ all_append (is_layer_of surfaces view) low (h ∷ high)
              ∙ and_both (all_keep (is_layer_of surfaces view) _ l x.own) (and_both own (all_keep (is_layer_of surfaces view) _ l x.own));
          rise = ap (rising itself (layer_lt surfaces.records)) (entries_packed layers (insert itself (layer_lt surfaces.records) h l))
              ∙ (layer.claims surfaces.records).insert_rises h l x.rise;
        }
      where
        less : {k m n : ℕ} → (k ≡ n → ⊥) → k ≤ m → m ≤ n → k < n
        less {k} {m} {n} d p q = omega arith

    pub layer_added_lem : LayerParts surfaces limit view (layers_with surfaces.records h t)
    layer_added_lem = by_test (ltb (length (entries_of layers t)) 16) (λ b. rw b inserted) (λ b. rw b x)
