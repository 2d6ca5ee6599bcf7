-- The claims about the walk, by induction on the panels from the top.
use Rattle.std.specs.Prelude.{Some}
use Prim.Native.Nat.{ℕ}
use mathlib.Core.Path.{◌≡◌, refl, sym, ap, ◌∙◌}
use mathlib.Core.Bool.{Bool, true, false, ◌&&◌}
use mathlib.Core.Logic.{⊎_elim}
use mathlib.Core.List.Memᴰ
use mathlib.Core.List.{List, [], ◌∷◌, ◌++◌, map, reverse, reverse-append, reverse-cons, reverse-reverse, append_assoc, Memᴰ}
use native.Mathlib.Omega.{arith}
use Rattle.lists.specs.Lists.{keep}
use Rattle.lists.specs.Maps.{rising_from, rising}
use Rattle.lists.proofs.ListLaws.{by_test, and_right, keep_reverse, map_append}
use Rattle.lists.proofs.MapLaws as map
use Rattle.handles.specs.declared.GenerationalHandle.{GenerationalHandle}
use Rattle.records.specs.declared.surface.SurfaceInputPolicy.TheVariants.{Observe, Exclusive}
use Rattle.records.specs.declared.surface.SurfaceRecord.{SurfaceRecord}
use Rattle.records.specs.Layers.{itself, layer_lt}
use Rattle.records.proofs.LayerLaws as layer
use Rattle.view_panels.specs.Panels.{Panel, handles_of}
use Rattle.view_panels.proofs.PanelLaws.{handles_reverse}
use Rattle.composition_arbitration.specs.declared.targets.Choice.{Choice}
use Rattle.composition_arbitration.specs.declared.targets.Choice.TheVariants.{Captured, Hit, HitStack, Focused, FocusedText, Given}
use Rattle.composition_arbitration.specs.declared.walk.Verdict.{Verdict}
use Rattle.composition_arbitration.specs.declared.walk.Verdict.TheVariants.{Observing, NotTargeted, PassedThrough, Took, Blocks}
use Rattle.composition_arbitration.specs.Layers.{verdict, delivers, consumes, observes, verdict_of, until_consumed, walked, deliveries_of, consumer_of, walk_of}
use Rattle.composition_arbitration.specs.Targets.{is_among, is_targeted, chosen}
use Rattle.composition_arbitration.specs.Claims.{EndsWith, FromTheTop, surfaces_of, WalkClaims}
use Rattle.composition_arbitration.proofs.WalkLaws.{until_stop, until_go, consumer_one, consumer_go, nothing_left, deliveries_append}

-- a verdict that consumes delivers, unobserved
consumes_delivers : (v : Verdict) → consumes v ≡ true → delivers v ≡ true
consumes_delivers Observing t = refl
consumes_delivers NotTargeted t = t
consumes_delivers PassedThrough t = refl
consumes_delivers Took t = refl
consumes_delivers Blocks t = refl

consumes_unobserved : (v : Verdict) → consumes v ≡ true → observes v ≡ false
consumes_unobserved Observing t = sym t
consumes_unobserved NotTargeted t = refl
consumes_unobserved PassedThrough t = refl
consumes_unobserved Took t = refl
consumes_unobserved Blocks t = refl

-- what is left of a rising list after its front
rising_tail : (lt : GenerationalHandle → GenerationalHandle → Bool) (h : GenerationalHandle) (l : List GenerationalHandle) → rising itself lt (h ∷ l) ≡ true → rising itself lt l ≡ true
rising_tail lt h [] t = refl
rising_tail lt h (g ∷ l) t = and_right (lt h g) _ t

rising_back : (lt : GenerationalHandle → GenerationalHandle → Bool) (a b : List GenerationalHandle) → rising itself lt (a ++ b) ≡ true → rising itself lt b ≡ true
rising_back lt [] b t = t
rising_back lt (h ∷ a) b t = rising_back lt a b (rising_tail lt h (a ++ b) t)

module _ (at : Panel → Verdict) where
  -- ---- the consumer is the last delivery
  one : (g : Panel) (h : GenerationalHandle) → consumes (at g) ≡ true → Some g.surface ≡ Some h → deliveries_of at (g ∷ []) ≡ record { surface = h; observed = false } ∷ []
  one g h t s =
      let same : g.surface ≡ h = cc in
      rw (consumes_delivers (at g) t) (λ j. record { surface = same j; observed = consumes_unobserved (at g) t j } ∷ [])

  ends : (l : List Panel) (h : GenerationalHandle) → consumer_of at (until_consumed at l) ≡ Some h → EndsWith (record { surface = h; observed = false }) (deliveries_of at (until_consumed at l))
  ends [] h s = let z : ◌≡◌ {A = ℕ} 0 1 = cc (nothing_left at) in absurd (omega arith)
  ends (g ∷ l) h s =
      by_test (consumes (at g))
      (λ t. let u = until_stop at g l t in
      record { front = []; is = ap (deliveries_of at) u ∙ one g h t (sym (consumer_one at g t) ∙ sym (ap (consumer_of at) u) ∙ s) })
      (λ t. let u = until_go at g l t in
      let r = ends l h (sym (consumer_go at g _ t) ∙ sym (ap (consumer_of at) u) ∙ s) in
      record {
        front = deliveries_of at (g ∷ []) ++ r.front;
        is = ap (deliveries_of at) u ∙ deliveries_append at (g ∷ []) (until_consumed at l) ∙ rw (r.is, append_assoc);
      })

  -- ---- who is walked: from the top on, up to some layer
  pub record Front (l : List Panel) : Type 0 where
    pub rest : List Panel
    pub is : l ≡ until_consumed at l ++ rest

  front : (l : List Panel) → Front l
  unfolding until_consumed
  front [] = record { rest = []; is = refl }
  front (h ∷ l) =
      by_test (consumes (at h))
      (λ t. record { rest = l; is = rw t })
      (λ t. let r = front l in record { rest = r.rest; is = rw t (ap (λ (x : List Panel). h ∷ x) r.is) })

  surfaces_are : (w : List Panel) → surfaces_of (deliveries_of at w) ≡ handles_of (keep (λ h. delivers (at h)) w)
  surfaces_are [] = refl
  surfaces_are (h ∷ w) = by_test (delivers (at h)) (λ t. rw t (ap (λ (x : List GenerationalHandle). h.surface ∷ x) (surfaces_are w))) (λ t. rw t (surfaces_are w))

  from_the_top : (l : List Panel) → FromTheTop at l
  from_the_top l =
      let f = front (reverse l) in
      let above = reverse (walked at l) in
      let back : walked at l ≡ reverse above = sym (reverse-reverse (walked at l)) in
      record {
        below = reverse f.rest;
        above = above;
        split = sym (reverse-reverse l) ∙ ap reverse f.is ∙ reverse-append (walked at l) f.rest;
        all_walked = back;
        delivered_to = surfaces_are (walked at l) ∙ ap (λ (w : List Panel). handles_of (keep (λ h. delivers (at h)) w)) back ∙ ap handles_of (keep_reverse (λ h. delivers (at h)) above) ∙ handles_reverse (keep (λ h. delivers (at h)) above);
      }

  none_consumes : (a b : List Panel) → keep (λ h. consumes (at h)) a ≡ [] → until_consumed at (a ++ b) ≡ a ++ until_consumed at b
  none_consumes [] b h = refl
  none_consumes (g ∷ a) b h =
      by_test (consumes (at g))
      (λ t. let k : g ∷ keep (λ h. consumes (at h)) a ≡ [] = rw t at h in let z : ◌≡◌ {A = ℕ} 0 1 = cc in absurd (omega arith))
      (λ t. until_go at g (a ++ b) t ∙ ap (λ (r : List Panel). g ∷ r) (none_consumes a b (rw t at h)))

  ends_at : (a b : List Panel) (h : Panel) → consumes (at h) ≡ true → until_consumed at (a ++ (h ∷ b)) ≡ until_consumed at (a ++ (h ∷ []))
  ends_at [] b h t = until_stop at h b t ∙ sym (until_stop at h [] t)
  ends_at (g ∷ a) b h t =
      by_test (consumes (at g))
      (λ u. until_stop at g _ u ∙ sym (until_stop at g _ u))
      (λ u. until_go at g _ u ∙ ap (λ (r : List Panel). g ∷ r) (ends_at a b h t) ∙ sym (until_go at g _ u))

  from_top_is : (below above : List Panel) (h : Panel) → reverse (below ++ (h ∷ above)) ≡ reverse above ++ (h ∷ reverse below)
  from_top_is below above h = reverse-append below (h ∷ above) ∙ rw (reverse-cons, append_assoc)

  all_above_is : (below above : List Panel) (c : Panel)
      → consumes (at c) ≡ true → keep (λ h. consumes (at h)) above ≡ [] → walked at (below ++ (c ∷ above)) ≡ reverse (c ∷ above)
  all_above_is below above c t h =
      ap (until_consumed at) (from_top_is below above c)
      ∙ none_consumes (reverse above) _ (keep_reverse (λ h. consumes (at h)) above ∙ ap reverse h)
      ∙ rw (until_stop at c (reverse below) t, reverse-cons)

  ends_there : (below above : List Panel) (h : Panel) → consumes (at h) ≡ true → walked at (below ++ (h ∷ above)) ≡ walked at (h ∷ above)
  ends_there below above h t = ap (until_consumed at) (from_top_is below above h) ∙ ends_at (reverse above) (reverse below) h t ∙ ap (until_consumed at) (sym (reverse-cons h above))

  -- ---- those who observe
  hears : (w : List Panel) (h : Panel) → Memᴰ h w → at h ≡ Observing → Memᴰ (record { surface = h.surface; observed = true }) (deliveries_of at w)
  hears [] h m v = absurd (Memᴰ.not-nil m)
  hears (g ∷ w) h m v =
      ⊎_elim
      (λ (s : h ≡ g). rw (sym s, v) (Memᴰ.head (λ j. record { surface = h.surface; observed = sym (ap observes v) j })))
      (λ (m' : Memᴰ h w). by_test (delivers (at g)) (λ t. rw t (Memᴰ.tail (hears w h m' v))) (λ t. rw t (hears w h m' v)))
      (Memᴰ.cases_cons m)

-- the key that rises may be read before or after a map
rising_map : {A B K : Type 0} (f : A → B) (key : B → K) (lt : K → K → Bool) (l : List A) → rising key lt (map f l) ≡ rising (λ a. key (f a)) lt l
rising_map f key lt [] = refl
rising_map f key lt (a ∷ l) = from a l
  where
    from : (a : _) (l : List _) → rising_from key lt (f a) (map f l) ≡ rising_from (λ a. key (f a)) lt a l
    from a [] = refl
    from a (b ∷ l) = ap (λ (x : Bool). lt (key (f a)) (key (f b)) && x) (from b l)

once : (at : Panel → Verdict) (records : List SurfaceRecord) (l : List Panel)
    → rising itself (layer_lt records) (handles_of l) ≡ true → rising itself (layer_lt records) (reverse (surfaces_of (deliveries_of at (walked at l)))) ≡ true
once at records l t =
    let f = from_the_top at l in
    let lt = layer_lt records in
    let surface : Panel → GenerationalHandle = λ p. p.surface in
    let up = rising_back lt (handles_of f.below) (handles_of f.above) (sym (ap (rising itself lt) (ap handles_of f.split ∙ map_append surface f.below f.above)) ∙ t) in
    rw (f.delivered_to, reverse-reverse, rising_map surface itself lt (keep (λ p. delivers (at p)) f.above))
    ((map.claims surface (layer.ordered records)).keep_rises (λ p. delivers (at p)) f.above (sym (rising_map surface itself lt f.above) ∙ up))

observes_here : (c : Choice) (hits : List GenerationalHandle) (p : Panel) → p.descriptor.input ≡ Observe → verdict_of c hits p ≡ Observing
unfolding verdict_of
observes_here c hits p e = rw e

blocks_here : (c : Choice) (hits : List GenerationalHandle) (p : Panel) → p.descriptor.input ≡ Exclusive → consumes (verdict_of c hits p) ≡ true
unfolding verdict_of
blocks_here c hits p e = rw e

-- ---- the hits matter only by who is among them
same_targets : (c : Choice) (hits more : List GenerationalHandle) (h : GenerationalHandle) (text : Bool) → is_among h hits ≡ is_among h more → is_targeted c hits h text ≡ is_targeted c more h text
unfolding is_targeted
same_targets (Captured g) hits more h text e = refl
same_targets (Hit m) hits more h text e = refl
same_targets HitStack hits more h text e = e
same_targets (Focused m) hits more h text e = refl
same_targets (FocusedText m) hits more h text e = refl
same_targets (Given m) hits more h text e = refl

same_walk : (c : Choice) (hits more : List GenerationalHandle) (l : List Panel) → ((h : GenerationalHandle) → is_among h hits ≡ is_among h more)
    → walk_of (verdict_of c hits) l ≡ walk_of (verdict_of c more) l
unfolding verdict_of
same_walk c hits more l e =
    ap (λ (at : Panel → Verdict). walk_of at l)
    (λ j p. verdict p.descriptor.input (same_targets c hits more p.surface p.descriptor.accepts_text (e p.surface) j))

pub claims : WalkClaims
unfolding chosen verdict_of is_targeted
claims = record {
  consumer_last = λ at l h s. ends at (reverse l) h s;
  topmost_first = λ at l. from_the_top at l;
  each_once = once;
  all_above = all_above_is;
  observers_hear = λ c hits l p m e. hears (verdict_of c hits) _ p m (observes_here c hits p e);
  exclusive_ends = λ c hits below above p e. ends_there (verdict_of c hits) below above p (blocks_here c hits p e);
  capture_decides = λ v owner m n hits more l e. (rw e, rw e);
  hit_order = same_walk;
  named_capture_decides = λ v p owner m n hits more l e. (rw e, rw e);
}
