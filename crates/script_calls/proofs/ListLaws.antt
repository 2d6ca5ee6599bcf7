-- The entries of a list read one by one: one more stands behind those so far, and one that is none leaves none.
use Rattle.std.proofs.Common.{◌≡◌, ℕ, zero, suc, ◌+◌, ◌*◌, ◌-◌, ◌≤◌, ◌<◌, List, [], ◌∷◌, ◌++◌, length, take, get_or, set, refl, sym, ap, ◌∙◌, nat_lt, nat_le, Bool, true, false, cond, not, arith, add-one, length-append}
use Rattle.std.specs.Option.{option_map, option_and_then, unwrap_or}
use Rattle.std.specs.Prelude.{Option, None, Some, ◌&&◌, ℤ, pos, is_some, map}
use mathlib.Core.List.{append-nil}
use borrow.Author.Tests.{ltb-true, ltb-false, leb-true}
use lib.Seq.{take_all, take-append-le, length-take-le, set_out, get_or-append_seam}
use lib.ListN.{get_or-append}
use Rattle.handles.specs.Handles.{handle_of}
use Rattle.handles.specs.declared.GenerationalHandle.{GenerationalHandle}
use Rattle.lists.specs.Below.{all_below}
use Rattle.lists.specs.Lists.{pad}
use Rattle.lists.specs.Tables.{packed}
use Rattle.lists.specs.declared.table.Table.{Table}
use Rattle.lists.proofs.ListLaws.{map_snoc, length_pad, push_pad}
use Rattle.records.specs.declared.shortcut.SurfaceShortcutRegistration.{SurfaceShortcutRegistration}
use Rattle.records.specs.Traces.{Hits}
use Rattle.composition_shortcuts.specs.Registrations.{Registrations}
use Rattle.script.specs.Ranges.{unsigned_of}
use Rattle.script.specs.Lines.{Fields}
use Rattle.script.specs.declared.number.Number.{Number}
use Rattle.script_calls.specs.Calls.{register_call, arbitrate_as, arbitrate_call}
use Rattle.script_calls.specs.Groups.{number_at, u32_at, u64_at, handle_at}
use Rattle.script_calls.specs.ListClaims.{ListClaims}
use Rattle.script_calls.specs.ListFields.{i16_at, placed, with_entry, all_read, listed, handles_from, hits_of, hits_from, hits_at, no_registration, registration_of, registration_at, list_from, registrations_of, registrations_from, registrations_at}
use Rattle.script_calls.specs.ListValues.{below, handle_value, registration_value, handle_values, registration_values}

-- ---- what is read
module _ {E : Type 0} (f : ℕ → Option E) where
  read_more : (k : ℕ) → all_read f (k + 1) ≡ with_entry (all_read f k) (f k)
  unfolding all_read
  read_more k = ap (all_read f) (add-one k)

  no_entry : (o : Option (List E)) → with_entry o None ≡ None
  no_entry None = refl
  no_entry (Some l) = refl

  pub read_none : (n k : ℕ) → f k ≡ None → k < n → all_read f n ≡ None
  unfolding all_read
  read_none zero k e h = absurd (omega arith)
  read_none (suc n) k e h = step (read_none n k e) (nat_lt k n) refl
    where
      step : (k < n → all_read f n ≡ None) → (t : Bool) → nat_lt k n ≡ t → with_entry (all_read f n) (f n) ≡ None
      step ih true t = ap (λ o. with_entry o (f n)) (ih (ltb-true k n t))
      step ih false t = let last : k ≡ n = omega (arith, ltb-false k n t) in ap (with_entry (all_read f n)) (ap f (sym last) ∙ e) ∙ no_entry (all_read f n)

  pub length_read : (n : ℕ) (l : List E) → all_read f n ≡ Some l → length l ≡ n
  unfolding all_read
  length_read zero l e = let same : [] ≡ l = cc in ap length (sym same)
  length_read (suc n) l e = step (length_read n) (all_read f n) (f n) refl e
    where
      step : ((m : List E) → all_read f n ≡ Some m → length m ≡ n) → (o : Option (List E)) (p : Option E) → all_read f n ≡ o → with_entry o p ≡ Some l → length l ≡ suc n
      step ih None p q e = absurd (let no : None ≡ Some l = e in cc)
      step ih (Some m) None q e = absurd (let no : None ≡ Some l = e in cc)
      step ih (Some m) (Some x) q e = let same : m ++ (x ∷ []) ≡ l = cc in ap length (sym same) ∙ length-append m (x ∷ []) ∙ ap (λ k. k + 1) (ih m q) ∙ add-one n

  pub at_read : (n k : ℕ) (l : List E) (d : E) → all_read f n ≡ Some l → k < n → f k ≡ Some (get_or l k d)
  unfolding all_read
  at_read zero k l d e h = absurd (omega arith)
  at_read (suc n) k l d e h = step (λ m. at_read n k m d) (all_read f n) (f n) refl refl e
    where
      step : ((m : List E) → all_read f n ≡ Some m → k < n → f k ≡ Some (get_or m k d)) → (o : Option (List E)) (p : Option E) → all_read f n ≡ o → f n ≡ p → with_entry o p ≡ Some l → f k ≡ Some (get_or l k d)
      step ih None p q r e = absurd (let no : None ≡ Some l = e in cc)
      step ih (Some m) None q r e = absurd (let no : None ≡ Some l = e in cc)
      step ih (Some m) (Some x) q r e = last (nat_lt k n) refl
        where
          same : m ++ (x ∷ []) ≡ l
          same = cc

          last : (t : Bool) → nat_lt k n ≡ t → f k ≡ Some (get_or l k d)
          last true t =
              let below : k < n = ltb-true k n t in
              ih m q below ∙ ap Some (sym (get_or-append m (x ∷ []) d k (omega (arith, length_read n m q))) ∙ ap (λ j. get_or j k d) same)
          last false t =
              let top : k ≡ n = omega (arith, ltb-false k n t) in
              let here : k ≡ length m = top ∙ sym (length_read n m q) in
              ap f top ∙ r ∙ ap Some (sym (get_or-append_seam m x [] d) ∙ ap (λ j. get_or (m ++ (x ∷ [])) j d) (sym here) ∙ ap (λ j. get_or j k d) same)

-- ---- what stands in a table
module _ {E : Type 0} (n : ℕ) (z : E) where
  push_placed : (l : List E) (e : E) → set (placed n z l) (length l) e ≡ placed n z (l ++ (e ∷ []))
  unfolding placed
  push_placed l e = step (nat_lt (length l) n) refl
    where
      step : (t : Bool) → nat_lt (length l) n ≡ t → set (pad n z (take n l)) (length l) e ≡ pad n z (take n (l ++ (e ∷ [])))
      step true t =
          let h : length l < n = ltb-true _ _ t in
          let more : length (l ++ (e ∷ [])) ≤ n = simp length-append (omega arith) in
          rw (take_all n l (omega arith), take_all n (l ++ (e ∷ [])) more) (push_pad n z l e h)
      step false t =
          let h : n ≤ length l = ltb-false _ _ t in
          let cut : length (take n l) ≡ n = length-take-le n l h in
          rw (take-append-le n l (e ∷ []) h) (set_out (pad n z (take n l)) (length l) e (omega (arith, length_pad n z (take n l) (omega arith))))

  pub held : (l : List E) → length l ≤ n → placed n z l ≡ pad n z l
  unfolding placed
  held l h = ap (pad n z) (take_all n l h)

  cut_off : (l : List E) → n ≤ length l → placed n z l ≡ take n l
  unfolding placed
  cut_off l h = let none : n - length (take n l) ≡ 0 = omega (arith, length-take-le n l h) in rw (none, append-nil)

-- ---- a table of what is read, with its count
module _ {E : Type 0} (f : ℕ → Option E) (n : ℕ) (z : E) where
  pub listed_none : (k m : ℕ) → f k ≡ None → k < m → listed n z f m ≡ None
  listed_none k m e h = ap (option_map (λ l. record { items = placed n z l; len = m })) (read_none f m k e h)

  pub listed_more : (k : ℕ) (t : Table E n) (e : E) → listed n z f k ≡ Some t → t.len ≡ k → f k ≡ Some e → listed n z f (k + 1) ≡ Some (record { items = set t.items k e; len = k + 1 })
  listed_more k t e h c r = step (all_read f k) refl h
    where
      step : (o : Option (List E)) → all_read f k ≡ o → option_map (λ l. record { items = placed n z l; len = k }) o ≡ Some t → listed n z f (k + 1) ≡ Some (record { items = set t.items k e; len = k + 1 })
      step None q h = absurd (let no : None ≡ Some t = h in cc)
      step (Some l) q h =
          let made : ◌≡◌ {A = Table E n} (record { items = placed n z l; len = k }) t = cc in
          let long : length l ≡ k = length_read f k l q in
          ap (option_map (λ l. record { items = placed n z l; len = k + 1 })) (read_more f k ∙ ap (λ o. with_entry o (f k)) q ∙ ap (with_entry (Some l)) r)
          ∙ ap (λ x. Some (record { items = x; len = k + 1 })) (sym (push_placed n z l e) ∙ ap (λ j. set (placed n z l) j e) long ∙ ap (λ (x : Table E n). set x.items k e) made)

-- ---- the values at the places below n
module _ {E : Type 0} (g : ℕ → E) where
  length_each : (n : ℕ) → length (map g (below n)) ≡ n
  unfolding below
  length_each zero = refl
  length_each (suc n) = ap length (map_snoc g (below n) n) ∙ length-append (map g (below n)) (g n ∷ []) ∙ ap (λ k. k + 1) (length_each n) ∙ add-one n

  each_at : (n k : ℕ) (d : E) → k < n → get_or (map g (below n)) k d ≡ g k
  unfolding below
  each_at zero k d h = absurd (omega arith)
  each_at (suc n) k d h = ap (λ l. get_or l k d) (map_snoc g (below n) n) ∙ step (each_at n k d) (nat_lt k n) refl
    where
      step : (k < n → get_or (map g (below n)) k d ≡ g k) → (t : Bool) → nat_lt k n ≡ t → get_or (map g (below n) ++ (g n ∷ [])) k d ≡ g k
      step ih true t =
          let l : k < n = ltb-true k n t in
          get_or-append (map g (below n)) (g n ∷ []) d k (omega (arith, length_each n)) ∙ ih l
      step ih false t =
          let top : k ≡ n = omega (arith, ltb-false k n t) in
          ap (λ j. get_or (map g (below n) ++ (g n ∷ [])) j d) (top ∙ sym (length_each n)) ∙ get_or-append_seam (map g (below n)) (g n) [] d ∙ ap g (sym top)

  first_each : (m n : ℕ) → m ≤ n → take m (map g (below n)) ≡ map g (below m)
  unfolding below
  first_each m zero h = let e : m ≡ 0 = omega arith in ap (λ k. take k []) e ∙ ap (λ k. map g (below k)) (sym e)
  first_each m (suc n) h = step (first_each m n) (nat_lt m (suc n)) refl
    where
      step : (m ≤ n → take m (map g (below n)) ≡ map g (below m)) → (t : Bool) → nat_lt m (suc n) ≡ t → take m (map g (below (suc n))) ≡ map g (below m)
      step ih true t =
          let l : m ≤ n = omega (arith, ltb-true m (suc n) t) in
          ap (take m) (map_snoc g (below n) n) ∙ take-append-le m (map g (below n)) (g n ∷ []) (omega (arith, length_each n)) ∙ ih l
      step ih false t =
          let e : m ≡ suc n = omega (arith, ltb-false m (suc n) t) in
          ap (λ k. take k (map g (below (suc n)))) e ∙ take_all (suc n) (map g (below (suc n))) (omega (arith, length_each (suc n))) ∙ ap (λ k. map g (below k)) (sym e)

  module _ (m n : ℕ) (z : E) where
    each_held : n ≤ m → placed m z (map g (below n)) ≡ pad m z (map g (below n))
    unfolding placed
    each_held h = ap (pad m z) (take_all m (map g (below n)) (omega (arith, length_each n)))

    each_cut : m ≤ n → placed m z (map g (below n)) ≡ map g (below m)
    unfolding placed
    each_cut h = let none : m - length (map g (below m)) ≡ 0 = omega (arith, length_each m) in ap (pad m z) (first_each m n h) ∙ rw (none, append-nil)

  read_every : (f : ℕ → Option E) → ((k : ℕ) (e : E) → f k ≡ Some e → g k ≡ e) → (n : ℕ) → all_read f n ≡ cond (all_below (λ k. is_some (f k)) n) (Some (map g (below n))) None
  unfolding all_read below all_below
  read_every f same zero = refl
  read_every f same (suc n) = ap (λ o. with_entry o (f n)) (read_every f same n) ∙ step (all_below (λ k. is_some (f k)) n) (f n) refl
    where
      step : (b : Bool) (o : Option E) → f n ≡ o → with_entry (cond b (Some (map g (below n))) None) o ≡ cond (b && is_some o) (Some (map g (below n ++ (n ∷ [])))) None
      step true None q = refl
      step true (Some e) q = ap Some (ap (λ x. map g (below n) ++ (x ∷ [])) (sym (same n e q)) ∙ sym (map_snoc g (below n) n))
      step false None q = refl
      step false (Some e) q = refl

-- a group whose fields are in their ranges is what they say
handle_same : (o p : Option ℕ) (e : GenerationalHandle) → option_and_then (λ n. option_map (handle_of n) p) o ≡ Some e → handle_of (unwrap_or o 0) (unwrap_or p 0) ≡ e
handle_same None p e h = absurd (let no : None ≡ Some e = h in cc)
handle_same (Some n) None e h = absurd (let no : None ≡ Some e = h in cc)
handle_same (Some n) (Some m) e h = cc

registration_same : (o p : Option ℕ) (q : Option ℤ) (e : SurfaceShortcutRegistration) → option_and_then (λ mask. option_and_then (λ scope. option_map (registration_of mask scope) q) p) o ≡ Some e
    → registration_of (unwrap_or o 0) (unwrap_or p 0) (unwrap_or q (pos 0)) ≡ e
registration_same None p q e h = absurd (let no : None ≡ Some e = h in cc)
registration_same (Some n) None q e h = absurd (let no : None ≡ Some e = h in cc)
registration_same (Some n) (Some m) None e h = absurd (let no : None ≡ Some e = h in cc)
registration_same (Some n) (Some m) (Some z) e h = cc

-- a line with a list that is none makes no call
no_arbitrate : (fs : Fields) → hits_at fs 10 ≡ None → arbitrate_call fs ≡ None
unfolding arbitrate_call
no_arbitrate fs h = ap (λ o. option_and_then (λ kind. option_and_then (arbitrate_as fs kind) o) (unsigned_of 10 (number_at fs 2))) h ∙ step (unsigned_of 10 (number_at fs 2))
  where
    step : (o : Option ℕ) → option_and_then (λ kind. option_and_then (arbitrate_as fs kind) None) o ≡ None
    step None = refl
    step (Some kind) = refl

no_register : (fs : Fields) → registrations_at fs 3 ≡ None → register_call fs ≡ None
unfolding register_call
no_register fs h = let no : None ≡ registrations_at fs 3 = sym h in rw (sym no) refl

module _ (fs : Fields) where
  hits_out : (i n k : ℕ) → k < n → handle_at fs (i + 2 * k) ≡ None → hits_from fs i n ≡ None
  unfolding hits_from
  hits_out i n k h e = listed_none (λ k. handle_at fs (i + 2 * k)) 16 (handle_of 0 0) k n e h

  registrations_out : (i n k : ℕ) → k < n → registration_at fs (i + 3 * k) ≡ None → registrations_from fs i n ≡ None
  unfolding registrations_from
  registrations_out i n k h e = listed_none (λ k. registration_at fs (i + 3 * k)) 64 no_registration k n e h

  hits_at_out : (n k : ℕ) → unsigned_of 20 (number_at fs 10) ≡ Some n → k < n → handle_at fs (11 + 2 * k) ≡ None → hits_at fs 10 ≡ None
  unfolding hits_at
  hits_at_out n k c h e = ap (option_and_then (hits_from fs 11)) c ∙ hits_out 11 n k h e

  registrations_at_out : (n k : ℕ) → unsigned_of 70 (number_at fs 3) ≡ Some n → k < n → registration_at fs (4 + 3 * k) ≡ None → registrations_at fs 3 ≡ None
  unfolding registrations_at
  registrations_at_out n k c h e = ap (option_and_then (registrations_from fs 4)) c ∙ registrations_out 4 n k h e

  all_hits : (i n : ℕ) → hits_from fs i n ≡ cond (all_below (λ k. is_some (handle_at fs (i + 2 * k))) n) (Some (hits_of n (handle_values fs i n))) None
  unfolding hits_from
  all_hits i n =
      ap (option_map (hits_of n)) (read_every (λ k. handle_value fs (i + 2 * k)) (λ k. handle_at fs (i + 2 * k)) (λ k e h. handle_same (u32_at fs (i + 2 * k)) (u32_at fs (i + 2 * k + 1)) e h) n)
      ∙ step (all_below (λ k. is_some (handle_at fs (i + 2 * k))) n)
    where
      step : (b : Bool) → option_map (hits_of n) (cond b (Some (handle_values fs i n)) None) ≡ cond b (Some (hits_of n (handle_values fs i n))) None
      step true = refl
      step false = refl

  all_registrations : (i n : ℕ) → registrations_from fs i n ≡ cond (all_below (λ k. is_some (registration_at fs (i + 3 * k))) n) (Some (registrations_of n (registration_values fs i n))) None
  unfolding registrations_from registration_at
  all_registrations i n =
      ap (option_map (registrations_of n)) (read_every (λ k. registration_value fs (i + 3 * k)) (λ k. registration_at fs (i + 3 * k)) (λ k e h. registration_same (u64_at fs (i + 3 * k)) (unsigned_of 2 (number_at fs (i + 3 * k + 1))) (i16_at fs (i + 3 * k + 2)) e h) n)
      ∙ step (all_below (λ k. is_some (registration_at fs (i + 3 * k))) n)
    where
      step : (b : Bool) → option_map (registrations_of n) (cond b (Some (registration_values fs i n)) None) ≡ cond b (Some (registrations_of n (registration_values fs i n))) None
      step true = refl
      step false = refl

pub claims : ListClaims
unfolding hits_from registrations_from packed
claims = record {
  hit_at = λ fs i n k l e h. at_read (λ k. handle_at fs (i + 2 * k)) n k l (handle_of 0 0) e h;
  registration_at_lem = λ fs i n k l e h. at_read (λ k. registration_at fs (i + 3 * k)) n k l no_registration e h;
  hits_packed = λ fs i n l e h. let long = length_read (λ k. handle_at fs (i + 2 * k)) n l e in ap (option_map (hits_of n)) e ∙ (λ j. Some (record { items = held 16 (handle_of 0 0) l (omega arith) j; len = sym long j }));
  registrations_held = λ fs i n l e h. let long = length_read (λ k. registration_at fs (i + 3 * k)) n l e in ap (option_map (registrations_of n)) e ∙ (λ j. Some (record { items = held 64 no_registration l (omega arith) j; len = n }));
  hits_cut = λ fs i n l e h. let long = length_read (λ k. handle_at fs (i + 2 * k)) n l e in ap (option_map (hits_of n)) e ∙ (λ j. Some (record { items = cut_off 16 (handle_of 0 0) l (omega arith) j; len = n }));
  registrations_cut = λ fs i n l e h. let long = length_read (λ k. registration_at fs (i + 3 * k)) n l e in ap (option_map (registrations_of n)) e ∙ (λ j. Some (record { items = cut_off 64 no_registration l (omega arith) j; len = n }));
  every_hits = all_hits;
  every_registrations = all_registrations;
  hit_value_at = λ fs i n k h. each_at (λ k. handle_value fs (i + 2 * k)) n k (handle_of 0 0) h;
  registration_value_at = λ fs i n k h. each_at (λ k. registration_value fs (i + 3 * k)) n k no_registration h;
  values_packed = λ fs i n h. let g : ℕ → GenerationalHandle = λ k. handle_value fs (i + 2 * k) in λ j. record { items = each_held g 16 n (handle_of 0 0) h j; len = sym (length_each g n) j };
  values_held = λ fs i n h. each_held (λ k. registration_value fs (i + 3 * k)) 64 n no_registration h;
  hit_values_cut = λ fs i n h. each_cut (λ k. handle_value fs (i + 2 * k)) 16 n (handle_of 0 0) h;
  registration_values_cut = λ fs i n h. each_cut (λ k. registration_value fs (i + 3 * k)) 64 n no_registration h;
  hits_none = hits_out;
  registrations_none = registrations_out;
  arbitrate_none = λ fs n k c h e. no_arbitrate fs (hits_at_out fs n k c h e);
  register_none = λ fs n k c h e. no_register fs (registrations_at_out fs n k c h e);
}

-- ---- a list's count is in its range
within_most : (most : ℕ) (n : Number) (m : ℕ) → unsigned_of most n ≡ Some m → m ≤ most
within_most most n m e = step n.negative (nat_le n.magnitude most) refl e
  where
    step : (s t : Bool) → nat_le n.magnitude most ≡ t → cond (not s && t) (Some n.magnitude) None ≡ Some m → m ≤ most
    step true t q e = absurd (let no : None ≡ Some m = e in cc)
    step false true q e = let same : n.magnitude ≡ m = cc in omega (arith, leb-true n.magnitude most q)
    step false false q e = absurd (let no : None ≡ Some m = e in cc)

counted : {E T : Type 0} (len : T → ℕ) (make : ℕ → List E → T) (most : ℕ) (n : Number) (l : ℕ → Option (List E)) (t : T) → ((m : ℕ) (x : List E) → len (make m x) ≡ m)
    → option_and_then (λ m. option_map (make m) (l m)) (unsigned_of most n) ≡ Some t → len t ≤ most
counted {E} len make most n l t same e = step (unsigned_of most n) refl e
  where
    step : (o : Option ℕ) → unsigned_of most n ≡ o → option_and_then (λ m. option_map (make m) (l m)) o ≡ Some t → len t ≤ most
    step None q e = absurd (let no : None ≡ Some t = e in cc)
    step (Some m) q e = more (l m) e
      where
        more : (o : Option (List E)) → option_map (make m) o ≡ Some t → len t ≤ most
        more None e = absurd (let no : None ≡ Some t = e in cc)
        more (Some x) e = let is : make m x ≡ t = cc in omega (arith, ap len (sym is), same m x, within_most most n m q)

pub few_hits : (fs : Fields) (i : ℕ) (h : Hits) → hits_at fs i ≡ Some h → h.len ≤ 20
unfolding hits_at hits_from
few_hits fs i h e = counted (λ (h : Hits). h.len) hits_of 20 (number_at fs i) (handles_from fs (i + 1)) h (λ m x. refl) e

pub few_registrations : (fs : Fields) (i : ℕ) (t : Registrations) → registrations_at fs i ≡ Some t → t.len ≤ 70
unfolding registrations_at registrations_from
few_registrations fs i t e = counted (λ (t : Registrations). t.len) registrations_of 70 (number_at fs i) (list_from fs (i + 1)) t (λ m x. refl) e
