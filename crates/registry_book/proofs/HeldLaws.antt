-- The captures of a table of views, by its live handles: what a change does to each live view's captures it does to all, since a slot has one live handle at most and handles rise with the slot.
use Prim.Native.Nat.{ℕ, ◌≤◌, ◌<◌}
use mathlib.Core.Path.{◌≡◌, refl, sym, ap, ◌∙◌}
use mathlib.Core.Bool.{Bool, true, false, cond, not}
use mathlib.Core.List.{List, [], map}
use native.Mathlib.Omega.{arith}
use borrow.Author.Tests.{lt-ltb, le-ltb, ne_eqb}
use lib.Seq.{get_or-set_other}
use Rattle.lists.specs.Lists.{keep, all}
use Rattle.lists.specs.Maps.{insert}
use Rattle.lists.specs.Tables.{entries_of}
use Rattle.lists.proofs.ListLaws.{by_test, clash}
use Rattle.handles.specs.Claims.{Proper}
use Rattle.handles.specs.Handles.{handle_of, same_handle}
use Rattle.handles.specs.Slots.{slot_at, lookup_of}
use Rattle.handles.specs.declared.arena.Arena.{Arena}
use Rattle.handles.specs.declared.arena.SlotStatus.TheVariants.{Live}
use Rattle.handles.specs.declared.GenerationalHandle.{GenerationalHandle}
use Rattle.handles.proofs.HandleLaws.{handles}
use Rattle.handles.proofs.LookupLaws.{live_facts}
use Rattle.maps.specs.Captures.{captures}
use Rattle.maps.specs.declared.captures.Capture.{Capture}
use Rattle.records.specs.declared.view.ViewRecord.{ViewRecord}
use Rattle.records.specs.Views.{ViewTable, no_view, view_at, view_status, with_view}
use Rattle.composition_state.specs.Damage.{view_handle}
use Rattle.records.specs.Layers.{is_live}
use Rattle.composition_soundness.proofs.CaseLaws.{either, live_is}
use Rattle.composition_soundness.proofs.LiveLaws.{one_live, used_few, filled_live}
use Rattle.composition_soundness.proofs.WindowLaws.{all_slots}
use Rattle.book.specs.Book.{Held, is_held_in_view}
use Rattle.registry_book.specs.MapTests.{map_place, place_lt}
use Rattle.registry_book.specs.Agreement.{in_view, held_at, held_in}
use Rattle.registry_book.proofs.ListLaws.{all_every, keep_every, keep_nothing, low, high, all_map}
use Rattle.registry_book.proofs.GatherLaws.{gathered, gather_same, gather_keep, gather_at, gather_past, gather_one, gather_insert}

-- the slots of the views are well-formed, and at most 16
pub record Neat (a : Arena) : Type 0 where
  pub limit : ℕ
  pub proper : Proper a limit
  pub few : limit ≤ 16

-- by whether a handle is live
by_live {ℓ} : {P : Type ℓ} (a : Arena) (h : GenerationalHandle) → (lookup_of a h ≡ Live → P) → ((lookup_of a h ≡ Live → ⊥) → P) → P
by_live a h f g = by_test (is_live (lookup_of a h)) (λ t. f (live_is (lookup_of a h) t)) (λ t. g (λ e. clash (ap is_live e) t))

-- handles that differ are told apart
pub apart : (g h : GenerationalHandle) → (g ≡ h → ⊥) → same_handle h g ≡ false
apart g h n = by_test (same_handle h g) (λ t. absurd (n (sym (handles.same_eq h g t)))) (λ t. t)

neat_few : (a : Arena) → Neat a → a.used ≤ 16
neat_few a n = omega (arith, used_few a n.limit n.proper, n.few)

pub live_few : (a : Arena) → Neat a → (h : GenerationalHandle) → lookup_of a h ≡ Live → h.index < 16
live_few a n h e = omega (arith, neat_few a n, (live_facts a h e).used)

module _ (t : ViewTable) where
  -- the captures of a view
  abbrev pub held_of : GenerationalHandle → List Held
  held_of h = map (in_view h) (entries_of captures (view_at t h).pointer_captures)

  -- the captures of a slot, if its handle is live
  abbrev held_slot : ℕ → List Held
  held_slot i = cond (is_live (view_status t (view_handle t i))) (held_of (view_handle t i)) []

  -- a test of every capture of a slot
  pub all_held : (p : Held → Bool) (h : GenerationalHandle) → ((c : Capture) → p (in_view h c) ≡ true) → all p (held_of h) ≡ true
  all_held p h f =
      let l = entries_of captures (view_at t h).pointer_captures in
      all_map (in_view h) p l ∙ all_every (λ c. p (in_view h c)) f l

  slot_all : (p : Held → Bool) (i : ℕ) → ((c : Capture) → p (in_view (view_handle t i) c) ≡ true) → all p (held_slot i) ≡ true
  slot_all p i f = either (λ (l : List Held). all p l ≡ true) (is_live (view_status t (view_handle t i))) _ _ (all_held p (view_handle t i) f) refl

  slot_every : (p : Held → Bool) (i : ℕ) → ((c : Capture) → p (in_view (view_handle t i) c) ≡ true) → keep p (held_slot i) ≡ held_slot i
  slot_every p i f = keep_every p (held_slot i) (slot_all p i f)

  slot_nothing : (p : Held → Bool) (i : ℕ) → ((c : Capture) → p (in_view (view_handle t i) c) ≡ false) → keep p (held_slot i) ≡ []
  slot_nothing p i f = keep_nothing p (held_slot i) (slot_all (λ x. not (p x)) i (λ c. ap not (f c)))

  -- the handle of a slot that has a live one
  named : (h : GenerationalHandle) → lookup_of t.arena h ≡ Live → view_handle t h.index ≡ h
  named h e = λ k. handle_of h.index ((live_facts t.arena h e).same k)

  slot_live : (h : GenerationalHandle) → lookup_of t.arena h ≡ Live → held_slot h.index ≡ held_of h
  slot_live h e = ap (λ (g : GenerationalHandle). cond (is_live (view_status t g)) (held_of g) []) (named h e) ∙ rw e

  abbrev NoneAt : ℕ → Type 0
  NoneAt i = (h : GenerationalHandle) → lookup_of t.arena h ≡ Live → h.index ≡ i → ⊥

  slot_none : (i : ℕ) → NoneAt i → held_slot i ≡ []
  slot_none i n = by_live t.arena (view_handle t i) (λ e. absurd (n (view_handle t i) e refl)) (λ d. by_test (is_live (view_status t (view_handle t i)))
      (λ b. absurd (d (live_is (view_status t (view_handle t i)) b))) (λ b. rw b))

  by_slot : {P : Type 0} (i : ℕ) → ((h : GenerationalHandle) → lookup_of t.arena h ≡ Live → h.index ≡ i → P) → (NoneAt i → P) → P
  by_slot i f g = by_live t.arena (view_handle t i)
      (λ e. f (view_handle t i) e refl)
      (λ d. g (λ h e q. d (ap (lookup_of t.arena) (ap (view_handle t) (sym q) ∙ named h e) ∙ e)))

  module _ (n : Neat t.arena) where
    -- a used slot is filled exactly if its handle is live
    filled_is : (i : ℕ) → i < t.arena.used → (slot_at t.arena i).filled ≡ is_live (view_status t (view_handle t i))
    filled_is i l = by_test (slot_at t.arena i).filled
        (λ b. b ∙ sym (ap is_live (filled_live t.arena n.limit n.proper i l b)))
        (λ b. by_test (is_live (view_status t (view_handle t i)))
        (λ c. clash (live_facts t.arena (view_handle t i) (live_is (view_status t (view_handle t i)) c)).filled b)
        (λ c. b ∙ sym c))

    held_slots : held_in t ≡ gathered held_slot 16
    unfolding held_in
    held_slots =
        ap (gathered (held_at t)) (all_slots t (neat_few t.arena n))
        ∙ gather_same (held_at t) held_slot t.arena.used (λ i l. ap (λ (b : Bool). cond b (held_of (view_handle t i)) []) (filled_is i l))
        ∙ sym (gather_past held_slot t.arena.used 16 (neat_few t.arena n) (λ i l. slot_none i (λ h e q. unused l (live_facts t.arena h e).used q)))
      where
        unused : {i j u : ℕ} → u ≤ i → j < u → j ≡ i → ⊥
        unused {i} {j} {u} a b c = omega arith

    -- what passes of all passes of each view's
    pub held_at_lem : (q : Held → Bool) → all q (held_in t) ≡ true → (h : GenerationalHandle) → lookup_of t.arena h ≡ Live → all q (held_of h) ≡ true
    held_at_lem q y h e = ap (all q) (sym (slot_live h e)) ∙ gather_at q held_slot 16 h.index (ap (all q) (sym held_slots) ∙ y) (live_few t.arena n h e)

    -- the captures of one view, of all
    pub held_view : (v : GenerationalHandle) → lookup_of t.arena v ≡ Live → keep (is_held_in_view v) (held_in t) ≡ held_of v
    held_view v e =
        ap (keep (is_held_in_view v)) held_slots ∙ gather_keep (is_held_in_view v) held_slot 16
        ∙ gather_one (λ i. keep (is_held_in_view v) (held_slot i)) 16 v.index (live_few t.arena n v e) other
        ∙ ap (keep (is_held_in_view v)) (slot_live v e) ∙ keep_every (is_held_in_view v) (held_of v) (all_held (is_held_in_view v) v (λ c. handles.same_refl v))
      where
        other : (i : ℕ) → (i ≡ v.index → ⊥) → keep (is_held_in_view v) (held_slot i) ≡ []
        other i d = slot_nothing (is_held_in_view v) i (λ c. simp (ne_eqb v.index i (λ q. d (sym q))))

-- ---- what a change leaves
pub record Drops (t after : ViewTable) (p : Held → Bool) : Type 0 where
  -- of a view that stays, those that pass
  pub kept : (h : GenerationalHandle) → lookup_of t.arena h ≡ Live → lookup_of after.arena h ≡ Live → held_of after h ≡ keep p (held_of t h)
  -- a new view has none
  pub fresh : (h : GenerationalHandle) → (lookup_of t.arena h ≡ Live → ⊥) → lookup_of after.arena h ≡ Live → held_of after h ≡ []
  -- of a view that goes none passes
  pub gone : (h : GenerationalHandle) → lookup_of t.arena h ≡ Live → (lookup_of after.arena h ≡ Live → ⊥) → keep p (held_of t h) ≡ []

module _ (t after : ViewTable) (p : Held → Bool) (d : Drops t after p) where
  -- a slot whose old handle goes
  slot_gone : (i : ℕ) → ((h : GenerationalHandle) → lookup_of t.arena h ≡ Live → h.index ≡ i → lookup_of after.arena h ≡ Live → ⊥) → keep p (held_slot t i) ≡ []
  slot_gone i n = by_slot t i
      (λ h e q. ap (keep p) (ap (held_slot t) (sym q) ∙ slot_live t h e) ∙ d.gone h e (n h e q))
      (λ m. ap (keep p) (slot_none t i m))

  slot_kept : (i : ℕ) → held_slot after i ≡ keep p (held_slot t i)
  slot_kept i = by_slot after i
      (λ h e q. ap (held_slot after) (sym q) ∙ slot_live after h e ∙ by_live t.arena h
      (λ l. d.kept h l e ∙ ap (keep p) (sym (slot_live t h l) ∙ ap (held_slot t) q))
      (λ m. d.fresh h m e ∙ sym (slot_gone i (λ g l s k. m (ap (lookup_of t.arena) (one_live after.arena h g e k (q ∙ sym s)) ∙ l)))))
      (λ m. slot_none after i m ∙ sym (slot_gone i (λ g l s k. m g k s)))

  pub held_kept : Neat t.arena → Neat after.arena → held_in after ≡ keep p (held_in t)
  held_kept n m =
      held_slots after m ∙ gather_same (held_slot after) (λ i. keep p (held_slot t i)) 16 (λ i l. slot_kept i)
      ∙ sym (gather_keep p (held_slot t) 16) ∙ ap (keep p) (sym (held_slots t n))

-- ---- a capture more in one view
module _ (x y : Held) (l : x.view.index < y.view.index) where
  held_less : place_lt (map_place x) (map_place y) ≡ true
  held_less = simp (ne_eqb x.view.index y.view.index (λ q. less l q), lt-ltb x.view.index y.view.index l)
    where
      less : {m n : ℕ} → m < n → m ≡ n → ⊥
      less {m} {n} l q = omega arith

  held_more : place_lt (map_place y) (map_place x) ≡ false
  held_more = simp (ne_eqb y.view.index x.view.index (λ q. more l q), le-ltb y.view.index x.view.index (omega arith))
    where
      more : {m n : ℕ} → m < n → n ≡ m → ⊥
      more {m} {n} l q = omega arith

module _ (t : ViewTable) (n : Neat t.arena) (v : GenerationalHandle) (e : lookup_of t.arena v ≡ Live) (w : ViewRecord) (c : Capture) where
  abbrev after : ViewTable
  after = with_view v w t

  same_slot : (i : ℕ) → (i ≡ v.index → ⊥) → held_slot after i ≡ held_slot t i
  same_slot i d = ap (λ (x : ViewRecord). cond (is_live (view_status t (view_handle t i))) (map (in_view (view_handle t i)) (entries_of captures x.pointer_captures)) [])
      (get_or-set_other t.records v.index i w no_view d)

  -- the captures below and above the new one
  abbrev new : Held
  new = in_view v c

  abbrev is_low : Held → Bool
  is_low x = place_lt (map_place x) (map_place new)

  abbrev is_high : Held → Bool
  is_high x = place_lt (map_place new) (map_place x)

  before : (i : ℕ) → i < v.index → (low map_place place_lt new (held_slot t i) ≡ held_slot t i) × (high map_place place_lt new (held_slot t i) ≡ [])
  before i l =
      (slot_every t is_low i (λ x. held_less (in_view (view_handle t i) x) new l), slot_nothing t is_high i (λ x. held_more (in_view (view_handle t i) x) new l))

  behind : (i : ℕ) → v.index < i → (low map_place place_lt new (held_slot t i) ≡ []) × (high map_place place_lt new (held_slot t i) ≡ held_slot t i)
  behind i l =
      (slot_nothing t is_low i (λ x. held_more new (in_view (view_handle t i) x) l), slot_every t is_high i (λ x. held_less new (in_view (view_handle t i) x) l))

  pub held_inserted : held_of after v ≡ insert map_place place_lt (in_view v c) (held_of t v) → held_in after ≡ insert map_place place_lt (in_view v c) (held_in t)
  held_inserted h =
      held_slots after n
      ∙ gather_insert map_place place_lt new (held_slot t) (held_slot after) 16 v.index (live_few t.arena n v e)
      (slot_live after v e ∙ h ∙ ap (insert map_place place_lt new) (sym (slot_live t v e))) same_slot before behind
      ∙ ap (insert map_place place_lt new) (sym (held_slots t n))
