-- The walk, a panel at a time from the top: what is left answers as the whole, after what is delivered already.
use Rattle.std.specs.Prelude.{None, Some}
use Prim.Native.Nat.{ℕ, zero, suc, ◌+◌, ◌-◌, ◌≤◌, ◌<◌}
use mathlib.Core.Path.{◌≡◌, refl, sym, ap, ◌∙◌}
use mathlib.Core.Bool.{true, false}
use mathlib.Core.List.{List, [], ◌∷◌, ◌++◌, map, reverse, append_assoc, append-nil}
use native.Mathlib.Omega.{arith}
use lib.ListN.{length, take, get_or, length-append}
use lib.Seq.{take-length}
use Rattle.std.specs.List.{fold}
use Rattle.lists.specs.Lists.{keep}
use Rattle.lists.specs.Tables.{entries_of, packed, pushed_within}
use Rattle.lists.proofs.ListLaws.{keep_append, map_append, last_first, by_test}
use Rattle.lists.proofs.TableLaws.{entries_packed, all_within}
use Rattle.records.specs.declared.trace.InputDelivery.{InputDelivery}
use Rattle.records.specs.Traces.{Deliveries, deliveries}
use Rattle.view_panels.specs.Panels.{Panel}
use Rattle.composition_arbitration.specs.declared.walk.Verdict.{Verdict}
use Rattle.composition_arbitration.specs.declared.walk.Walked.{Walked}
use Rattle.composition_arbitration.specs.Layers.{delivers, consumes, delivery_from, delivered, until_consumed, walked, deliveries_of, consumer_of, walk_of}

module _ (at : Panel → Verdict) where
  pub deliveries_append : (a b : List Panel) → deliveries_of at (a ++ b) ≡ deliveries_of at a ++ deliveries_of at b
  deliveries_append a b =
      ap (map (λ h. delivery_from (at h) h.surface)) (keep_append (λ h. delivers (at h)) a b)
      ∙ map_append (λ h. delivery_from (at h) h.surface) (keep (λ h. delivers (at h)) a) (keep (λ h. delivers (at h)) b)

  -- the delivery of one panel
  pub deliveries_one : (h : Panel) → deliveries_of at (h ∷ []) ≡ delivered (at h) h.surface
  deliveries_one h = by_test (delivers (at h)) (λ t. rw t) (λ t. rw t)

  length_one : (h : Panel) → length (delivered (at h) h.surface) ≤ 1
  length_one h = by_test (delivers (at h)) (λ t. simp t (omega arith)) (λ t. simp t (omega arith))

  pub until_stop : (h : Panel) (l : List Panel) → consumes (at h) ≡ true → until_consumed at (h ∷ l) ≡ h ∷ []
  unfolding until_consumed
  until_stop h l t = rw t

  pub until_go : (h : Panel) (l : List Panel) → consumes (at h) ≡ false → until_consumed at (h ∷ l) ≡ h ∷ until_consumed at l
  unfolding until_consumed
  until_go h l t = rw t

  pub consumer_one : (h : Panel) → consumes (at h) ≡ true → consumer_of at (h ∷ []) ≡ Some h.surface
  unfolding consumer_of
  consumer_one h t = rw t

  pub consumer_go : (h : Panel) (l : List Panel) → consumes (at h) ≡ false → consumer_of at (h ∷ l) ≡ consumer_of at l
  unfolding consumer_of
  consumer_go h [] t = rw t
  consumer_go h (g ∷ l) t = refl

  pub nothing_left : consumer_of at (until_consumed at []) ≡ None
  unfolding consumer_of until_consumed
  nothing_left = refl

  none_delivered : deliveries_of at (until_consumed at []) ≡ []
  unfolding until_consumed
  none_delivered = refl

  -- ---- the loop
  pub record Walking (l : List Panel) (out : Deliveries) (left : ℕ) : Type 0 where
    pub within : left ≤ length l
    pub small : length l ≤ 16
    pub room : length (entries_of deliveries out) + left ≤ length l
    pub whole : out ≡ packed deliveries (entries_of deliveries out)
    pub told : deliveries_of at (walked at l) ≡ entries_of deliveries out ++ deliveries_of at (until_consumed at (reverse (take left l)))
    pub consumer : consumer_of at (walked at l) ≡ consumer_of at (until_consumed at (reverse (take left l)))

  pub start : (l : List Panel) (out : Deliveries) → length l ≤ 16 → out ≡ packed deliveries [] → Walking l out (length l)
  start l out h e =
      let none : entries_of deliveries out ≡ [] = ap (entries_of deliveries) e ∙ entries_packed deliveries [] in
      record {
        within = omega arith;
        small = h;
        room = simp none (omega arith);
        whole = e ∙ ap (packed deliveries) (sym none);
        told = rw (none, take-length);
        consumer = rw take-length;
      }

  module _ (l : List Panel) (out : Deliveries) (left : ℕ) (w : Walking l out left) (z : 0 < left) (d : Panel) where
    module _ (next : Deliveries)
        (given : next ≡ fold (pushed_within deliveries) out (delivered (at (get_or l (left - 1) d)) (get_or l (left - 1) d).surface)) where
      put : next ≡ packed deliveries (entries_of deliveries out ++ delivered (at (get_or l (left - 1) d)) (get_or l (left - 1) d).surface)
      put =
          let h = get_or l (left - 1) d in
          given
          ∙ ap (λ (o : Deliveries). fold (pushed_within deliveries) o (delivered (at h) h.surface)) w.whole
          ∙ all_within deliveries (entries_of deliveries out) (delivered (at h) h.surface) (omega (arith, length_one h, w.room, w.small))

      one_more : entries_of deliveries next ≡ entries_of deliveries out ++ delivered (at (get_or l (left - 1) d)) (get_or l (left - 1) d).surface
      one_more = ap (entries_of deliveries) put ∙ entries_packed deliveries _

      pub turn : consumes (at (get_or l (left - 1) d)) ≡ false → Walking l next (left - 1)
      turn t =
          let h = get_or l (left - 1) d in
          let rest = until_consumed at (reverse (take (left - 1) l)) in
          let top : until_consumed at (reverse (take left l)) ≡ h ∷ rest =
          ap (until_consumed at) (last_first l left d z w.within) ∙ until_go h (reverse (take (left - 1) l)) t in
          record {
            within = omega (arith, w.within);
            small = w.small;
            room = rw one_more (simp length-append (omega (arith, length_one h, w.room)));
            whole = put ∙ ap (packed deliveries) (sym one_more);
            told = w.told ∙ rw (top, one_more, append_assoc)
                (ap (λ (r : List InputDelivery). entries_of deliveries out ++ r) (deliveries_append (h ∷ []) rest ∙ ap (λ (r : List InputDelivery). r ++ deliveries_of at rest) (deliveries_one h)));
            consumer = w.consumer ∙ rw top (consumer_go h rest t);
          }

      pub stop : consumes (at (get_or l (left - 1) d)) ≡ true
          → ◌≡◌ {A = Walked} (record { deliveries = next; consumed_by = Some (get_or l (left - 1) d).surface }) (walk_of at l)
      unfolding walk_of
      stop t =
          let h = get_or l (left - 1) d in
          let top : until_consumed at (reverse (take left l)) ≡ h ∷ [] =
          ap (until_consumed at) (last_first l left d z w.within) ∙ until_stop h (reverse (take (left - 1) l)) t in
          rw (w.told, w.consumer, top, put, deliveries_one h, consumer_one h t)

  pub done : (l : List Panel) (out : Deliveries) (left : ℕ) → Walking l out left → left ≤ 0
      → ◌≡◌ {A = Walked} (record { deliveries = out; consumed_by = None }) (walk_of at l)
  unfolding walk_of
  done l out zero w z =
      rw (w.told, w.consumer, nothing_left, none_delivered, append-nil) (ap (λ (o : Deliveries). record { deliveries = o; consumed_by = None }) w.whole)
  done l out (suc k) w z = absurd (omega arith)
