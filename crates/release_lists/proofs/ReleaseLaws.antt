-- Lists of releases: presses go panel by panel as the least panel's come first; captures are added one by one.
use Prim.Native.Nat.{ℕ, ◌+◌, ◌≤◌, ◌<◌}
use mathlib.Core.Path.{◌≡◌, refl, sym, ap, ◌∙◌}
use mathlib.Core.Bool.{Bool, true, false, cond, not}
use mathlib.Core.List.{List, [], ◌∷◌, ◌++◌, append_assoc, append-nil}
use native.Mathlib.Numerals.{add-one}
use native.Mathlib.Omega.{arith}
use lib.ListN.{length, take, get_or, length-append, length-take}
use lib.Seq.{take-suc}
use Rattle.lists.specs.Lists.{keep, all}
use Rattle.lists.specs.Tables.{Shape, entries_of, packed}
use Rattle.lists.proofs.ListLaws.{by_test, clash, and_left, and_right, and_both, keep_append, keep_split}
use Rattle.lists.proofs.TableLaws as table
use Rattle.handles.specs.Handles.{same_handle, handle_lt}
use Rattle.handles.specs.declared.GenerationalHandle.{GenerationalHandle}
use Rattle.handles.proofs.HandleLaws.{handles}
use Rattle.maps.specs.Keys.{pointer_key}
use Rattle.maps.specs.Bindings.{bindings, Bindings}
use Rattle.maps.specs.declared.bindings.Binding.{Binding}
use Rattle.maps.specs.declared.captures.Capture.{Capture}
use Rattle.maps.proofs.MapTableLaws.{keys}
use Rattle.release_lists.specs.Releases.{Releases, releases, is_on, is_not_below, IsLeast, placed, by_panel, in_panel_order, is_pair, is_listed, capture_release, add_capture, add_captures}
use Rattle.lists.proofs.KeepLaws.{keep_in, keep_apart, all_kept, all_implied, keep_all, all_keep, all_both}

-- a table that is packed is packed by its own entries
module _ {E T : Type 0} (s : Shape E T) (t : T) (l : List E) (e : t ≡ packed s l) where
  pub entries_are : entries_of s t ≡ l
  entries_are = ap (entries_of s) e ∙ table.entries_packed s l

  pub packed_self : t ≡ packed s (entries_of s t)
  packed_self = e ∙ ap (packed s) (sym entries_are)

-- ---- the order of panels
on_is : (h : GenerationalHandle) (e : Binding) → is_on h e ≡ true → h ≡ e.surface
on_is h e t = handles.same_eq h e.surface t

not_true : (b : Bool) → not b ≡ true → b ≡ false
not_true true h = sym h
not_true false h = refl

-- what is not below h is not below what h is not below
not_below_less : (h g : GenerationalHandle) → not (handle_lt h g) ≡ true → (e : Binding) → is_not_below h e ≡ true → is_not_below g e ≡ true
not_below_less h g n e m = by_test (handle_lt e.surface g)
    (λ t. by_test (same_handle g h)
    (λ s. clash (rw (sym (handles.same_eq g h s)) t) (not_true (handle_lt e.surface h) m))
    (λ s. by_test (handle_lt g h)
    (λ u. clash (handles.trans e.surface g h t u) (not_true (handle_lt e.surface h) m))
    (λ u. clash (handles.connex g h s u) (not_true (handle_lt h g) n))))
    (λ t. ap not t)

-- ---- a press put in its place
-- before those of no lesser panel, and after those of lesser panels
pub placed_first : (e : Binding) (l : List Binding) → all (is_not_below e.surface) l ≡ true → placed e l ≡ e ∷ l
placed_first e l h =
    let none : keep (λ f. handle_lt f.surface e.surface) l ≡ [] =
    ap (keep (λ f. handle_lt f.surface e.surface)) (sym (keep_all (is_not_below e.surface) l h))
    ∙ keep_apart (λ f. handle_lt f.surface e.surface) (is_not_below e.surface) (λ f t. ap not t) l in
    rw (none, keep_all (is_not_below e.surface) l h)

pub placed_next : (e f : Binding) (l : List Binding) → handle_lt f.surface e.surface ≡ true → placed e (f ∷ l) ≡ f ∷ placed e l
placed_next e f l t = rw t

placed_after : (e : Binding) (a b : List Binding) → all (λ f. handle_lt f.surface e.surface) a ≡ true → placed e (a ++ b) ≡ a ++ placed e b
placed_after e [] b h = refl
placed_after e (f ∷ a) b h =
    placed_next e f (a ++ b) (and_left _ (all (λ f. handle_lt f.surface e.surface) a) h)
    ∙ ap (λ (r : List Binding). f ∷ r) (placed_after e a b (and_right (handle_lt f.surface e.surface) _ h))

all_placed : (p : Binding → Bool) (e : Binding) (l : List Binding) → p e ≡ true → all p l ≡ true → all p (placed e l) ≡ true
all_placed p e l t h = all_both p (keep _ l) (e ∷ keep _ l) (all_keep p _ l h) (and_both t (all_keep p _ l h))

length_placed : (e : Binding) (l : List Binding) → length (placed e l) ≡ length l + 1
length_placed e l = simp length-append (omega (arith, keep_split (λ f. handle_lt f.surface e.surface) l))

-- the presses of one panel keep their order
keep_placed : (h : GenerationalHandle) (e : Binding) (l : List Binding) → keep (is_on h) (placed e l) ≡ keep (is_on h) (e ∷ l)
keep_placed h e l =
    let low : Binding → Bool = λ f. handle_lt f.surface e.surface in
    let high : Binding → Bool = is_not_below e.surface in
    keep_append (is_on h) (keep low l) (e ∷ keep high l)
    ∙ by_test (is_on h e)
    (λ t.
    let is : (f : Binding) → is_on h f ≡ true → low f ≡ false = λ f u. rw (sym (on_is h f u), on_is h e t) (handles.irrefl e.surface) in
    rw (t, keep_apart (is_on h) low is l, keep_in (is_on h) high (λ f u. ap not (is f u)) l))
    (λ t. by_test (handle_lt h e.surface)
    (λ b.
    let is : (f : Binding) → is_on h f ≡ true → low f ≡ true = λ f u. rw (sym (on_is h f u)) b in
    rw (t, keep_in (is_on h) low is l, keep_apart (is_on h) high (λ f u. ap not (is f u)) l, append-nil))
    (λ b.
    let is : (f : Binding) → is_on h f ≡ true → low f ≡ false = λ f u. rw (sym (on_is h f u)) b in
    rw (t, keep_apart (is_on h) low is l, keep_in (is_on h) high (λ f u. ap not (is f u)) l)))

ordered_placed : (e : Binding) (l : List Binding) → in_panel_order l ≡ true → in_panel_order (placed e l) ≡ true
unfolding in_panel_order
ordered_placed e [] h = refl
ordered_placed e (f ∷ l) h =
    let over = and_left (all (is_not_below f.surface) l) (in_panel_order l) h in
    let rest = and_right (all (is_not_below f.surface) l) (in_panel_order l) h in
    by_test (handle_lt f.surface e.surface)
    (λ t.
    let apart : is_not_below f.surface e ≡ true = by_test (handle_lt e.surface f.surface)
    (λ u. clash (handles.trans f.surface e.surface f.surface t u) (handles.irrefl f.surface)) (λ u. ap not u) in
    ap in_panel_order (placed_next e f l t) ∙ and_both (all_placed (is_not_below f.surface) e l apart over) (ordered_placed e l rest))
    (λ t.
    let above : all (is_not_below e.surface) (f ∷ l) ≡ true =
    and_both (ap not t) (all_implied (is_not_below f.surface) (is_not_below e.surface) (not_below_less f.surface e.surface (ap not t)) l over) in
    ap in_panel_order (placed_first e (f ∷ l) above) ∙ and_both above h)

-- ---- panel by panel
all_by_panel : (p : Binding → Bool) (l : List Binding) → all p l ≡ true → all p (by_panel l) ≡ true
unfolding by_panel
all_by_panel p [] h = refl
all_by_panel p (e ∷ l) h = all_placed p e (by_panel l) (and_left (p e) (all p l) h) (all_by_panel p l (and_right (p e) (all p l) h))

pub by_panel_length : (l : List Binding) → length (by_panel l) ≡ length l
unfolding by_panel
by_panel_length [] = refl
by_panel_length (e ∷ l) = length_placed e (by_panel l) ∙ ap (λ n. n + 1) (by_panel_length l) ∙ add-one (length l)

pub by_panel_keeps : (h : GenerationalHandle) (l : List Binding) → keep (is_on h) (by_panel l) ≡ keep (is_on h) l
unfolding by_panel
by_panel_keeps h [] = refl
by_panel_keeps h (e ∷ l) = keep_placed h e (by_panel l) ∙ rw (by_panel_keeps h l)

pub by_panel_ordered : (l : List Binding) → in_panel_order (by_panel l) ≡ true
unfolding by_panel in_panel_order
by_panel_ordered [] = refl
by_panel_ordered (e ∷ l) = ordered_placed e (by_panel l) (by_panel_ordered l)

-- the presses of a panel below which there is none come first, and then the others
pub by_panel_least : (h : GenerationalHandle) (l : List Binding) → all (is_not_below h) l ≡ true → by_panel l ≡ keep (is_on h) l ++ by_panel (keep (λ e. not (is_on h e)) l)
unfolding by_panel
by_panel_least h [] a = refl
by_panel_least h (e ∷ l) a =
    let here = and_left (is_not_below h e) (all (is_not_below h) l) a in
    let rest = and_right (is_not_below h e) (all (is_not_below h) l) a in
    let ih = by_panel_least h l rest in
    by_test (is_on h e)
    (λ t.
    let above : all (is_not_below e.surface) (by_panel l) ≡ true = all_by_panel (is_not_below e.surface) l (rw (sym (on_is h e t)) rest) in
    rw t (placed_first e (by_panel l) above ∙ ap (λ (r : List Binding). e ∷ r) ih))
    (λ t.
    let less : handle_lt h e.surface ≡ true = by_test (handle_lt h e.surface) (λ u. u)
    (λ u. clash (handles.connex h e.surface t u) (not_true (handle_lt e.surface h) here)) in
    rw t (ap (placed e) ih ∙ placed_after e (keep (is_on h) l) _ (all_kept (is_on h) (λ f. handle_lt f.surface e.surface) (λ f u. rw (sym (on_is h f u)) less) l)))

-- a list, and what is left to be listed after it: how many they are, and when nothing is left
module _ (whole list left : List Binding) (e : by_panel whole ≡ list ++ by_panel left) where
  pub panel_room : length list + length left ≡ length whole
  panel_room = sym (ap (λ n. length list + n) (by_panel_length left)) ∙ sym (length-append list (by_panel left)) ∙ sym (ap length e) ∙ by_panel_length whole

  pub panel_turn : (h : GenerationalHandle) → all (is_not_below h) left ≡ true → by_panel whole ≡ (list ++ keep (is_on h) left) ++ by_panel (keep (λ e. not (is_on h e)) left)
  panel_turn h a = e ∙ ap (λ (r : List Binding). list ++ r) (by_panel_least h left a) ∙ sym (append_assoc list (keep (is_on h) left) (by_panel (keep (λ e. not (is_on h e)) left)))

pub panel_done : (whole list left : List Binding) → by_panel whole ≡ list ++ by_panel left → length left ≡ 0 → list ≡ by_panel whole
unfolding by_panel
panel_done whole list [] e z = sym (e ∙ append-nil list)
panel_done whole list (f ∷ l) e z = absurd (omega arith)

-- ---- the least panel
least_one : (e : Binding) → IsLeast e.surface (e ∷ [])
least_one e = let s = handles.same_refl e.surface in
    let n = handles.irrefl e.surface in
    (and_both (ap not n) refl, rw s (omega arith))

least_more : (h : GenerationalHandle) (l : List Binding) (e : Binding) → IsLeast h l → IsLeast (cond (handle_lt e.surface h) e.surface h) (l ++ (e ∷ []))
least_more h l e i = by_test (handle_lt e.surface h)
    (λ t.
    let n : not (handle_lt h e.surface) ≡ true = by_test (handle_lt h e.surface)
    (λ u. clash (handles.trans h e.surface h u t) (handles.irrefl h)) (λ u. ap not u) in
    rw t (
      all_both (is_not_below e.surface) l (e ∷ []) (all_implied (is_not_below h) (is_not_below e.surface) (not_below_less h e.surface n) l i.0) (least_one e).0,
      rw (keep_append (is_on e.surface) l (e ∷ []), length-append) (omega (arith, (least_one e).1)),
    ))
    (λ t. rw t (
      all_both (is_not_below h) l (e ∷ []) i.0 (and_both (ap not t) refl),
      rw (keep_append (is_on h) l (e ∷ []), length-append) (omega (arith, i.1)),
    ))

take_more : {E : Type 0} (l : List E) (i : ℕ) (d : E) → i < length l → take (i + 1) l ≡ take i l ++ (get_or l i d ∷ [])
take_more l i d h = rw (add-one, take-suc l i d h)

-- the first press, and one turn of a loop over the presses after it
pub least_start : (e : Binding) (rest : List Binding) → IsLeast e.surface (e ∷ take 0 rest)
least_start e [] = least_one e
least_start e (f ∷ rest) = least_one e

pub least_turn : (e : Binding) (rest : List Binding) (i : ℕ) (d : Binding) → i < length rest → (h : GenerationalHandle) → IsLeast h (e ∷ take i rest)
    → IsLeast (cond (handle_lt (get_or rest i d).surface h) (get_or rest i d).surface h) (e ∷ take (i + 1) rest)
least_turn e rest i d within h l = rw (take_more rest i d within) (least_more h (e ∷ take i rest) (get_or rest i d) l)

-- ---- captures after presses
pub add_none : (l : List Binding) → add_captures l [] ≡ l
unfolding add_captures
add_none l = refl

add_append : (l : List Binding) (a b : List Capture) → add_captures l (a ++ b) ≡ add_captures (add_captures l a) b
unfolding add_captures
add_append l [] b = refl
add_append l (c ∷ a) b = add_append (add_capture l c) a b

length_add : (l : List Binding) (c : Capture) → length (add_capture l c) ≤ length l + 1
length_add l c = by_test (is_listed c l) (λ t. rw t (omega arith)) (λ t. rw (t, length-append) (omega arith))

pub length_adds : (l : List Binding) (cs : List Capture) → length (add_captures l cs) ≤ length l + length cs
unfolding add_captures
length_adds l [] = omega arith
length_adds l (c ∷ cs) = omega (arith, length_adds (add_capture l c) cs, length_add l c)

-- the presses stay in front, so what is listed stays listed
pub presses_first : (l : List Binding) (cs : List Capture) → (more : List Binding) × (add_captures l cs ≡ l ++ more)
unfolding add_captures
presses_first l [] = ([], sym (append-nil l))
presses_first l (c ∷ cs) = by_test (is_listed c l)
    (λ t. rw t (presses_first l cs))
    (λ t. let rest = presses_first (l ++ (capture_release c ∷ [])) cs in
    rw t (capture_release c ∷ rest.0, rest.1 ∙ append_assoc l (capture_release c ∷ []) rest.0))

still_listed : (c : Capture) (l more : List Binding) → is_listed c l ≡ true → is_listed c (l ++ more) ≡ true
still_listed c [] more h = clash refl (sym h)
still_listed c (e ∷ l) more h = by_test (is_pair c e) (λ t. rw t) (λ t. rw t (still_listed c l more (rw t at h)))

listed_last : (c : Capture) (l : List Binding) → is_listed c (l ++ (capture_release c ∷ [])) ≡ true
listed_last c [] = rw (and_both (keys.same_refl (pointer_key c.pointer)) (handles.same_refl c.surface))
listed_last c (e ∷ l) = by_test (is_pair c e) (λ t. rw t) (λ t. rw t (listed_last c l))

listed_added : (c : Capture) (l : List Binding) → is_listed c (add_capture l c) ≡ true
listed_added c l = by_test (is_listed c l) (λ t. rw (t, t)) (λ t. rw t (listed_last c l))

pub captures_listed_lem : (l : List Binding) (cs : List Capture) → all (λ c. is_listed c (add_captures l cs)) cs ≡ true
unfolding add_captures
captures_listed_lem l [] = refl
captures_listed_lem l (c ∷ cs) =
    let rest = presses_first (add_capture l c) cs in
    and_both (ap (is_listed c) rest.1 ∙ still_listed c (add_capture l c) rest.0 (listed_added c l)) (captures_listed_lem (add_capture l c) cs)

-- one turn of a loop that adds captures
module _ (cs : List Capture) (i : ℕ) (d : Capture) (within : i < length cs) (l : List Binding) where
  pub add_turn : add_capture (add_captures l (take i cs)) (get_or cs i d) ≡ add_captures l (take (i + 1) cs)
  unfolding add_captures
  add_turn = rw (take_more cs i d within, add_append l (take i cs) (get_or cs i d ∷ []))

  pub add_room : length l ≤ 128 → length cs ≤ 512 → length (add_captures l (take i cs)) < 640
  add_room h k = omega (arith, length_adds l (take i cs), length-take i cs)
