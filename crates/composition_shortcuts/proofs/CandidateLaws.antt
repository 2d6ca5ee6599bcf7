-- The order of candidates is a strict order, and how the greatest that counts changes with one registration more.
use Rattle.std.specs.Prelude.{None, Some}
use mathlib.Core.Path.{◌≡◌, refl, sym, ap, ◌∙◌}
use mathlib.Core.Bool.{Bool, true, false}
use mathlib.Core.List.{List, [], ◌∷◌, ◌++◌, append-nil}
use Prim.Native.Nat.{ℕ, ◌+◌, ◌<◌}
use native.Mathlib.Numerals.{add-one}
use lib.Dec.{eqb}
use lib.IntN.{ℤ}
use lib.ListN.{length, take, get_or}
use lib.Seq.{take-suc}
use Rattle.lists.specs.Lists.{keep}
use Rattle.lists.specs.Orders.{Ordered, both_same, same_z}
use Rattle.lists.proofs.ListLaws.{keep_append, map_snoc}
use Rattle.lists.proofs.OrderLaws.{number, through}
use Rattle.lists.proofs.IntegerOrder.{integers, pairs_both}
use Rattle.handles.specs.Handles.{same_handle}
use Rattle.handles.specs.declared.GenerationalHandle.{GenerationalHandle}
use Rattle.handles.proofs.HandleLaws.{handles}
use Rattle.records.specs.declared.shortcut.SlotShortcut.{SlotShortcut}
use Rattle.records.specs.Surfaces.{SurfaceTable}
use Rattle.records.specs.Views.{ViewTable}
use Rattle.composition_shortcuts.specs.declared.candidate.Candidate.{Candidate}
use Rattle.composition_shortcuts.specs.Scope.{shares_bit, counts}
use Rattle.composition_shortcuts.specs.Candidates.{candidate_of, view_rank, rank_of, is_less, best_of}
use Rattle.composition_shortcuts.specs.Resolve.{candidates, best_among}
use Rattle.composition_shortcuts.proofs.GreatestLaws.{greatest_none, greatest_one, greatest_new, greatest_old}

-- ---- the order
view_back : (same : Bool) → eqb (view_rank same) 1 ≡ same
view_back true = refl
view_back false = refl

-- a candidate by the parts of its rank
ranked : ℤ × (ℕ × (ℕ × (ℤ × GenerationalHandle))) → Candidate
ranked k = record { priority = k.0; scope_rank = k.1.0; same_view = eqb k.1.1.0 1; z_order = k.1.1.1.0; surface = k.1.1.1.1 }

by_rank : (a : Candidate) → ranked (rank_of a) ≡ a
unfolding ranked
by_rank a = λ j. record { priority = a.priority; scope_rank = a.scope_rank; same_view = view_back a.same_view j; z_order = a.z_order; surface = a.surface }

one_rank : (a b : Candidate) → rank_of a ≡ rank_of b → a ≡ b
one_rank a b e = sym (by_rank a) ∙ ap ranked e ∙ by_rank b

abbrev pub same_candidate : Candidate → Candidate → Bool
same_candidate a b = both_same same_z (both_same eqb (both_same eqb (both_same same_z same_handle))) (rank_of a) (rank_of b)

pub order : Ordered is_less same_candidate
unfolding is_less
order = through rank_of one_rank (pairs_both integers (pairs_both number (pairs_both number (pairs_both integers handles))))

-- ---- one candidate more
module _ (l : List Candidate) (c : Candidate) where
  pub none_more : None ≡ best_of l → Some c ≡ best_of (l ++ (c ∷ []))
  none_more h = rw (greatest_none order l (sym h), greatest_one order c)

  pub new_more : (b : Candidate) → Some b ≡ best_of l → is_less b c ≡ true → Some c ≡ best_of (l ++ (c ∷ []))
  new_more b h t = rw (greatest_new order l b c (sym h) t)

  pub old_more : (b : Candidate) → Some b ≡ best_of l → is_less b c ≡ false → Some b ≡ best_of (l ++ (c ∷ []))
  old_more b h t = rw (greatest_old order l b c (sym h) t)

-- ---- one registration more
module _ (views : ViewTable) (surfaces : SurfaceTable) (view : GenerationalHandle) (mask : ℕ) where
  -- without a common class bit nothing counts
  unshared : (s : SlotShortcut) → shares_bit s.registration.class_mask mask ≡ false → counts views surfaces view mask s ≡ false
  unfolding counts
  unshared s h = rw h

  module _ (l : List SlotShortcut) (s : SlotShortcut) where
    pub candidates_yes : counts views surfaces view mask s ≡ true → candidates views surfaces view mask (l ++ (s ∷ [])) ≡ candidates views surfaces view mask l ++ (candidate_of surfaces view s ∷ [])
    candidates_yes t = rw (keep_append, t) (map_snoc (candidate_of surfaces view) (keep (counts views surfaces view mask) l) s)

    pub candidates_no : counts views surfaces view mask s ≡ false → candidates views surfaces view mask (l ++ (s ∷ [])) ≡ candidates views surfaces view mask l
    candidates_no t = rw (keep_append, t, append-nil)

  -- ---- one turn of the loop over the registrations
  module _ (l : List SlotShortcut) (i : ℕ) (d : SlotShortcut) (within : i < length l) where
    pub turn_considered : best_among views surfaces view mask (take i l ++ (get_or l i d ∷ [])) ≡ best_among views surfaces view mask (take (i + 1) l)
    turn_considered = rw (add-one, take-suc l i d within)

    pub turn_skipped : shares_bit (get_or l i d).registration.class_mask mask ≡ false → best_among views surfaces view mask (take i l) ≡ best_among views surfaces view mask (take (i + 1) l)
    turn_skipped h = sym (ap best_of (candidates_no (take i l) (get_or l i d) (unshared (get_or l i d) h))) ∙ turn_considered
