-- What holds of every map with strictly rising keys: stated once, over any kind of entry, key and order.
use Rattle.std.specs.Prelude.{ℕ, ◌+◌, ◌<◌, ◌≡◌, Bool, true, false, not, List, length, get_or}
use Rattle.std.specs.Prelude.{None, Some}
use Rattle.lists.specs.Lists.{keep, passed, all}
use Rattle.lists.specs.Maps.{insert, rising, lookup, remove}

pub record MapClaims {E K : Type 0} (key : E → K) (lt same : K → K → Bool) : Type 0 where
  -- find after insert: the same key, another key
  pub find_inserted : (e : E) (l : List E) → lookup key same (key e) (insert key lt e l) ≡ Some e
  pub find_insert_other : (k : K) (e : E) (l : List E) → same k (key e) ≡ false → lookup key same k (insert key lt e l)
      ≡ lookup key same k l
  -- find after remove: the same key, another key
  pub find_removed : (k : K) (l : List E) → lookup key same k (remove key same k l) ≡ None
  pub find_remove_other : (j k : K) (l : List E) → same j k ≡ false → lookup key same j (remove key same k l)
      ≡ lookup key same j l
  -- rising is kept, by an insertion and by any removal
  pub insert_rises : (e : E) (l : List E) → rising key lt l ≡ true → rising key lt (insert key lt e l) ≡ true
  pub keep_rises : (p : E → Bool) (l : List E) → rising key lt l ≡ true → rising key lt (keep p l) ≡ true
  -- two changes at different keys commute
  pub inserts_commute : (e f : E) (l : List E) → same (key e) (key f) ≡ false → rising key lt l ≡ true
      → insert key lt e (insert key lt f l) ≡ insert key lt f (insert key lt e l)
  pub removals_commute : (j k : K) (l : List E) → remove key same j (remove key same k l)
      ≡ remove key same k (remove key same j l)
  pub remove_insert : (k : K) (e : E) (l : List E) → same k (key e) ≡ false → rising key lt l ≡ true
      → remove key same k (insert key lt e l) ≡ insert key lt e (remove key same k l)
  -- rising maps with equal lookups are equal
  pub equal_finds : (l m : List E) → rising key lt l ≡ true → rising key lt m ≡ true
      → ((k : K) → lookup key same k l ≡ lookup key same k m) → l ≡ m
  -- the list is in key order
  pub in_order : (l : List E) (d : E) (i j : ℕ) → rising key lt l ≡ true → i < j → j < length l
      → lt (key (get_or l i d)) (key (get_or l j d)) ≡ true
  -- removal of all that fail a test leaves just those that pass, and each entry is either left or taken
  pub find_kept : (p : E → Bool) (k : K) (l : List E) → rising key lt l ≡ true → lookup key same k (keep p l)
      ≡ passed p (lookup key same k l)
  pub kept_pass : (p : E → Bool) (l : List E) → all p (keep p l) ≡ true
  pub left_or_taken : (p : E → Bool) (l : List E) → length (keep p l) + length (keep (λ e. not (p e)) l) ≡ length l
  -- an insertion adds one entry exactly if the key is new
  pub insert_new : (e : E) (l : List E) → lookup key same (key e) l ≡ None → length (insert key lt e l) ≡ length l + 1
  pub insert_replaces : (e f : E) (l : List E) → rising key lt l ≡ true → lookup key same (key e) l ≡ Some f
      → length (insert key lt e l) ≡ length l
