-- The router lists what the book owes: captures against all that is listed so far, since no pair of theirs stands twice; and all presses panel by panel, the least panel first.
use mathlib.Core.Path.{◌≡◌, refl, sym, ap, ◌∙◌}
use mathlib.Core.Bool.{Bool, true, false, not, ◌&&◌}
use mathlib.Core.List.{List, [], ◌∷◌, ◌++◌, append_assoc, append-nil, map}
use Rattle.lists.specs.Lists.{keep, first, all}
use Rattle.lists.specs.MapClaims.{MapClaims}
use Rattle.lists.specs.Maps.{rising, lookup}
use Rattle.lists.proofs.ListLaws.{by_test, clash, and_left, and_right, and_both, all_append}
use Rattle.lists.proofs.MapLaws as maps
use Rattle.lists.proofs.RisingLaws.{Over, Sorted, rising_sorted}
use Rattle.handles.specs.Handles.{same_handle, handle_lt}
use Rattle.handles.specs.declared.GenerationalHandle.{GenerationalHandle}
use Rattle.handles.proofs.HandleLaws.{handles}
use Rattle.maps.specs.MapTables.{is_some}
use Rattle.maps.specs.declared.bindings.Binding.{Binding}
use Rattle.maps.specs.declared.captures.Capture.{Capture}
use Rattle.composition_soundness.proofs.ListLaws.{all_as, all_both, all_keep}
use Rattle.release_lists.specs.Releases.{is_on, is_not_below, by_panel, is_listed, capture_release, add_capture, add_captures}
use Rattle.lists.proofs.KeepLaws.{keep_in}
use Rattle.release_lists.proofs.ReleaseLaws.{by_panel_least}
use Rattle.book.specs.Ids.{press_before}
use Rattle.book.specs.Book.{Held, key_of, is_on_panel}
use Rattle.book.specs.Owed.{is_same_press_of, is_same_release, none_twice, cancel_of, then_captures, panel_put, panels_of, panel_by_panel}
use Rattle.registry_book.specs.Claims.{capture_of}
use Rattle.history.proofs.TestLaws.{pair_is}
use Rattle.history.proofs.OnceLaws.{press_swap, is_other, other_sym, apart, once_append, once_keep, rising_once}

-- tests that agree where a third one passes
pub keep_as : {E : Type 0} (p q s : E → Bool) → ((e : E) → s e ≡ true → p e ≡ q e) → (l : List E) → all s l ≡ true → keep p l ≡ keep q l
keep_as p q s f [] h = refl
keep_as p q s f (e ∷ l) h = rw (f e (and_left (s e) (all s l) h), keep_as p q s f l (and_right (s e) (all s l) h))

-- ---- captures after presses
-- a pair is listed, or differs from all that are
listed_is : {E : Type 0} (p : E → Bool) (l : List E) → is_some (first p l) ≡ not (all (λ e. not (p e)) l)
listed_is p [] = refl
listed_is p (e ∷ l) = by_test (p e) (λ t. rw t) (λ t. rw t (listed_is p l))

-- a further release that differs from all changes nothing for them
others_more : (l : List Binding) (x : Binding) (m : List Binding) → all (is_other x) m ≡ true → keep (λ y. all (is_other y) (l ++ (x ∷ []))) m ≡ keep (λ y. all (is_other y) l) m
others_more l x m h = keep_as (λ y. all (is_other y) (l ++ (x ∷ []))) (λ y. all (is_other y) l) (is_other x)
    (λ y t. all_append (is_other y) l (x ∷ []) ∙ rw (other_sym x y t) (and_nothing (all (is_other y) l))) m h
  where
    and_nothing : (b : Bool) → (b && true) ≡ b
    and_nothing true = refl
    and_nothing false = refl

-- a capture's pair is listed by the router's test exactly if it is by the book's
is_listed_lem : (x : Held) (l : List Binding) → is_listed x.capture l ≡ not (all (is_other (cancel_of x)) l)
is_listed_lem x l = (λ i. is_some (first (λ y. pair_is x y i) l)) ∙ listed_is (is_same_release (cancel_of x)) l

add_new : (l : List Binding) (c : Capture) → is_listed c l ≡ false → add_capture l c ≡ l ++ (capture_release c ∷ [])
add_new l c t = rw t

add_old : (l : List Binding) (c : Capture) → is_listed c l ≡ true → add_capture l c ≡ l
add_old l c t = rw t

pub added : (l : List Binding) (cs : List Held) → none_twice is_same_release (map cancel_of cs) ≡ true → add_captures l (map capture_of cs) ≡ then_captures l cs
unfolding add_captures then_captures none_twice
added l [] h = sym (append-nil l)
added l (x ∷ cs) h =
    let own = and_left (all (is_other (cancel_of x)) (map cancel_of cs)) (none_twice is_same_release (map cancel_of cs)) h in
    let rest = and_right (all (is_other (cancel_of x)) (map cancel_of cs)) (none_twice is_same_release (map cancel_of cs)) h in
    by_test (all (is_other (cancel_of x)) l)
    (λ t.
    let kept : keep (λ y. all (is_other y) l) (map cancel_of (x ∷ cs)) ≡ cancel_of x ∷ keep (λ y. all (is_other y) l) (map cancel_of cs) = rw t in
    ap (λ (m : List Binding). add_captures m (map capture_of cs)) (add_new l x.capture (is_listed_lem x l ∙ ap not t))
    ∙ added (l ++ (cancel_of x ∷ [])) cs rest
    ∙ append_assoc l (cancel_of x ∷ []) (keep (λ y. all (is_other y) (l ++ (cancel_of x ∷ []))) (map cancel_of cs))
    ∙ ap (λ (m : List Binding). l ++ (cancel_of x ∷ m)) (others_more l (cancel_of x) (map cancel_of cs) own)
    ∙ ap (λ (m : List Binding). l ++ m) (sym kept))
    (λ t.
    let kept : keep (λ y. all (is_other y) l) (map cancel_of (x ∷ cs)) ≡ keep (λ y. all (is_other y) l) (map cancel_of cs) = rw t in
    ap (λ (m : List Binding). add_captures m (map capture_of cs)) (add_old l x.capture (is_listed_lem x l ∙ ap not t))
    ∙ added l cs rest ∙ ap (λ (m : List Binding). l ++ m) (sym kept))

-- ---- panel by panel
abbrev itself : GenerationalHandle → GenerationalHandle
itself h = h

-- the panels in order
panels : MapClaims itself handle_lt same_handle
panels = maps.claims itself handles

panels_rise : (l : List Binding) → rising itself handle_lt (panels_of l) ≡ true
unfolding panels_of panel_put
panels_rise [] = refl
panels_rise (e ∷ l) = panels.insert_rises e.surface (panels_of l) (panels_rise l)

-- every press is of one of them
abbrev pub is_in : List GenerationalHandle → GenerationalHandle → Bool
is_in hs h = is_some (lookup itself same_handle h hs)

in_put : (g h : GenerationalHandle) (hs : List GenerationalHandle) → is_in hs h ≡ true → is_in (panel_put g hs) h ≡ true
unfolding panel_put
in_put g h hs t = by_test (same_handle h g)
    (λ s. rw (handles.same_eq h g s, panels.find_inserted g hs))
    (λ s. rw (panels.find_insert_other h g hs s) t)

put_in : (h : GenerationalHandle) (hs : List GenerationalHandle) → is_in (panel_put h hs) h ≡ true
unfolding panel_put
put_in h hs = rw (panels.find_inserted h hs)

pub all_in : (l : List Binding) → all (λ e. is_in (panels_of l) e.surface) l ≡ true
unfolding panels_of
all_in [] = refl
all_in (e ∷ l) = and_both (put_in e.surface (panels_of l))
    (all_as (λ f. is_in (panels_of l) f.surface) (λ f. is_in (panel_put e.surface (panels_of l)) f.surface) (λ f t. in_put e.surface f.surface (panels_of l) t) l (all_in l))

-- of panels that are greater than h none is h, and none below it
over_in : (h g : GenerationalHandle) (hs : List GenerationalHandle) → Over itself handle_lt h hs → is_in hs g ≡ true → handle_lt h g ≡ true
over_in h g [] o t = clash refl (sym t)
over_in h g (k ∷ hs) o t = by_test (same_handle g k)
    (λ s. rw (handles.same_eq g k s) o.0)
    (λ s. over_in h g hs o.1 (rw s at t))

pub handle_swap : (g h : GenerationalHandle) → same_handle g h ≡ same_handle h g
handle_swap g h = by_test (same_handle g h)
    (λ t. t ∙ sym (ap (λ (k : GenerationalHandle). same_handle h k) (handles.same_eq g h t) ∙ handles.same_refl h))
    (λ t. by_test (same_handle h g)
    (λ s. clash (ap (λ (k : GenerationalHandle). same_handle g k) (handles.same_eq h g s) ∙ handles.same_refl g) t)
    (λ s. t ∙ sym s))

less_apart : (h g : GenerationalHandle) → handle_lt h g ≡ true → same_handle h g ≡ false
less_apart h g t = by_test (same_handle h g) (λ s. clash t (ap (λ (k : GenerationalHandle). handle_lt k g) (handles.same_eq h g s) ∙ handles.irrefl g)) (λ s. s)

-- the least panel is below none of the presses, and the others are of the other panels
not_below : (h : GenerationalHandle) (hs : List GenerationalHandle) → Over itself handle_lt h hs → (e : Binding) → is_in (h ∷ hs) e.surface ≡ true → is_not_below h e ≡ true
not_below h hs o e t = by_test (handle_lt e.surface h)
    (λ b. by_test (same_handle e.surface h)
    (λ s. clash b (ap (λ (k : GenerationalHandle). handle_lt k h) (handles.same_eq e.surface h s) ∙ handles.irrefl h))
    (λ s. clash (handles.trans h e.surface h (over_in h e.surface hs o (rw s at t)) b) (handles.irrefl h)))
    (λ b. ap not b)

in_rest : (h : GenerationalHandle) (hs : List GenerationalHandle) (l : List Binding) → all (λ e. is_in (h ∷ hs) e.surface) l ≡ true → all (λ e. is_in hs e.surface) (keep (λ e. not (is_on h e)) l) ≡ true
in_rest h hs [] m = refl
in_rest h hs (e ∷ l) m =
    let rest = in_rest h hs l (and_right (is_in (h ∷ hs) e.surface) _ m) in
    by_test (is_on h e)
    (λ t. rw t rest)
    (λ t.
    let here = and_left (is_in (h ∷ hs) e.surface) _ m in
    let own : is_in hs e.surface ≡ true = rw (handle_swap e.surface h ∙ t) at here in
    rw t (and_both own rest))

-- without the presses of a lesser panel
others_kept : (h : GenerationalHandle) (hs : List GenerationalHandle) (l : List Binding) → Over itself handle_lt h hs → panel_by_panel hs (keep (λ e. not (is_on h e)) l) ≡ panel_by_panel hs l
unfolding panel_by_panel
others_kept h [] l o = refl
others_kept h (g ∷ hs) l o =
    let own : keep (is_on_panel g) (keep (λ e. not (is_on h e)) l) ≡ keep (is_on_panel g) l =
    keep_in (is_on_panel g) (λ e. not (is_on h e)) (λ e t. ap not (less_apart h e.surface (rw (sym (handles.same_eq g e.surface t)) o.0))) l in
    λ i. own i ++ others_kept h hs l o.1 i

by_panels : (hs : List GenerationalHandle) (l : List Binding) → Sorted itself handle_lt hs → all (λ e. is_in hs e.surface) l ≡ true → by_panel l ≡ panel_by_panel hs l
unfolding by_panel panel_by_panel
by_panels [] [] s m = refl
by_panels [] (e ∷ l) s m = clash refl (sym m)
by_panels (h ∷ hs) l s m =
    by_panel_least h l (all_as (λ e. is_in (h ∷ hs) e.surface) (is_not_below h) (not_below h hs s.0) l m)
    ∙ ap (λ (x : List Binding). keep (is_on h) l ++ x) (by_panels hs (keep (λ e. not (is_on h e)) l) s.1 (in_rest h hs l m) ∙ others_kept h hs l s.0)

pub all_by_panel : (l : List Binding) → by_panel l ≡ panel_by_panel (panels_of l) l
all_by_panel l = by_panels (panels_of l) l (rising_sorted itself handles (panels_of l) (panels_rise l)) (all_in l)

-- ---- no press stands twice there
-- of a list in which none does, what passes a test is apart from what fails it
split_apart : (p : Binding → Bool) (l : List Binding) → none_twice is_same_press_of l ≡ true → apart is_same_press_of (keep p l) (keep (λ e. not (p e)) l) ≡ true
unfolding none_twice
split_apart p [] n = refl
split_apart p (x ∷ l) n =
    let own = and_left (all (λ y. not (is_same_press_of x y)) l) (none_twice is_same_press_of l) n in
    let rest = split_apart p l (and_right (all (λ y. not (is_same_press_of x y)) l) (none_twice is_same_press_of l) n) in
    by_test (p x)
    (λ t. rw t (and_both (all_keep (λ y. not (is_same_press_of x y)) (λ e. not (p e)) l own) rest))
    (λ t. rw t (all_both (λ y. not (is_same_press_of y x)) (λ y. all (λ z. not (is_same_press_of y z)) (keep (λ e. not (p e)) l)) (keep p l)
    (all_keep (λ y. not (is_same_press_of y x)) p l (all_as (λ y. not (is_same_press_of x y)) (λ y. not (is_same_press_of y x)) (press_swap x) l own)) rest))

-- what holds of all holds of those of some panels
all_panels : (p : Binding → Bool) (hs : List GenerationalHandle) (l : List Binding) → all p l ≡ true → all p (panel_by_panel hs l) ≡ true
unfolding panel_by_panel
all_panels p [] l h = refl
all_panels p (g ∷ hs) l h = all_append p (keep (is_on_panel g) l) (panel_by_panel hs l) ∙ and_both (all_keep p (is_on_panel g) l h) (all_panels p hs l h)

panels_once : (hs : List GenerationalHandle) (l : List Binding) → Sorted itself handle_lt hs → none_twice is_same_press_of l ≡ true → none_twice is_same_press_of (panel_by_panel hs l) ≡ true
unfolding panel_by_panel none_twice
panels_once [] l s n = refl
panels_once (h ∷ hs) l s n =
    once_append is_same_press_of (keep (is_on_panel h) l) (panel_by_panel hs l) (once_keep is_same_press_of (is_on_panel h) l n) (panels_once hs l s.1 n)
    (all_as (λ x. all (λ y. not (is_same_press_of x y)) (keep (λ e. not (is_on_panel h e)) l)) (λ x. all (λ y. not (is_same_press_of x y)) (panel_by_panel hs l))
    (λ x t. ap (all (λ y. not (is_same_press_of x y))) (sym (others_kept h hs l s.0)) ∙ all_panels (λ y. not (is_same_press_of x y)) hs (keep (λ e. not (is_on_panel h e)) l) t)
    (keep (is_on_panel h) l) (split_apart (is_on_panel h) l n))

pub all_once : (l : List Binding) → rising key_of press_before l ≡ true → none_twice is_same_press_of (panel_by_panel (panels_of l) l) ≡ true
all_once l h = panels_once (panels_of l) l (rising_sorted itself handles (panels_of l) (panels_rise l)) (rising_once l h)
