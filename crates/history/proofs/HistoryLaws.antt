-- The theorems, by induction over the list of calls: each call is right where the last one left the counter and the book, and a closed
-- panel is released before any other call that is no read.
use Rattle.std.specs.Prelude.{Option, None, Some, is_ok}
use Prim.Native.Nat.{ℕ}
use mathlib.Core.Path.{◌≡◌, refl, sym, ap, ◌∙◌, subst}
use mathlib.Core.Logic.{◌⊎◌, ⊎_elim}
use mathlib.Core.Bool.{Bool, true, false}
use mathlib.Core.List.{List, [], ◌∷◌, ◌++◌, append_assoc}
use native.Mathlib.Omega.{arith}
use lib.Dec.{eqb}
use Rattle.lists.proofs.ListLaws.{by_test, clash}
use Rattle.lists.proofs.TableLaws.{entries_packed}
use Rattle.handles.specs.declared.GenerationalHandle.{GenerationalHandle}
use Rattle.maps.specs.Bindings.{bindings}
use Rattle.maps.specs.declared.bindings.Binding.{Binding}
use Rattle.composition_soundness.proofs.ClaimLaws as soundness
use Rattle.input_router.specs.Router.{presses_of}
use Rattle.input_router.proofs.ClaimLaws as router
use Rattle.release_lists.specs.Releases.{releases}
use Rattle.calls.specs.declared.call.Call.{Call}
use Rattle.calls.specs.declared.call.Call.TheVariants.{Panel, Input, ReleaseDevice, Shortcut, Arbitrate, Close, Router, Read}
use Rattle.calls.specs.declared.call.CloseCall.TheVariants.{CloseSurface, Shutdown}
use Rattle.calls.specs.declared.call.Lists.{Lists}
use Rattle.calls.specs.declared.call.RouterCall.TheVariants.{Route, ReleaseSurface, ReleaseAll}
use Rattle.book.specs.Book.{Asked, Book, empty_book}
use Rattle.book.specs.Notes.{change, changed, changes, registered, noted, note}
use Rattle.book.specs.Owed.{concern, is_same_press_of, is_same_release, is_among, none_twice, concerned_presses, concerned_captures, then_captures, owed_presses, owed_captures, owed, without_concerned}
use Rattle.registry_book.proofs.ClaimLaws as registry
use Rattle.counter.specs.declared.step.Counter.{Counter}
use Rattle.counter.specs.Step.{stepped}
use Rattle.history.specs.Histories.{Start, fresh, call, told_of, releases_in, Entry, entry_of, after, history, book_after}
use Rattle.history.specs.Demand.{Accepts, closed_in, is_read, ReleasedNext, Premises, Demand3, NeverDamaged}
use Rattle.history.proofs.SafeLaws.{Safe, step_safe}
use Rattle.history.proofs.JoinLaws.{Joined, Right}
use Rattle.history.proofs.StayLaws.{note_keeps}
use Rattle.history.proofs.RegistryLaws.{entry, Goes, panel_goes, input_goes, device_goes, shortcut_goes, arbitrate_goes, close_goes, read_goes}
use Rattle.history.proofs.ReleaseLaws.{surface_goes, all_goes}
use Rattle.history.proofs.EventLaws.{route_goes}

-- ---- one call
-- with no closed panel to be released
call_goes : (c : Counter) (b : Book) → Safe c → Joined None c b → (k : Call) (l : Lists) → (k ≡ Close Shutdown → ⊥) → Goes c b k l
call_goes c b v j (Panel k) l n = panel_goes c b v.registry j l k
call_goes c b v j (Input k) l n = input_goes c b v.registry j l k
call_goes c b v j (ReleaseDevice x) l n = device_goes c b v.registry j l x
call_goes c b v j (Shortcut k) l n = shortcut_goes c b v.registry j l k
call_goes c b v j (Arbitrate x) l n = arbitrate_goes c b v.registry j l x
call_goes c b v j (Close (CloseSurface h)) l n = close_goes c b v.registry j l h
call_goes c b v j (Close Shutdown) l n = absurd (n refl)
call_goes c b v j (Router (Route e)) l n = route_goes c b v j l e
call_goes c b v j (Router (ReleaseSurface h)) l n = λ a. surface_goes None c b v.router j l h (λ g q. clash refl (sym q))
call_goes c b v j (Router ReleaseAll) l n = λ a. all_goes None c b v.router j l
call_goes c b v j (Read k) l n = read_goes c b v.registry j l k

-- the one or the other release of the panel that was just closed
released_goes : (h : GenerationalHandle) (c : Counter) (b : Book) → Safe c → Joined (Some h) c b → (k : Call) (l : Lists)
    → (k ≡ Router (ReleaseSurface h)) ⊎ (k ≡ Router ReleaseAll) → Right (entry c k l) b (stepped c k l).counter
released_goes h c b v j k l one = ⊎_elim
    (λ q. subst (λ (k : Call). Right (entry c k l) b (stepped c k l).counter) (sym q) (surface_goes (Some h) c b v.router j l h (λ g t. t)))
    (λ q. subst (λ (k : Call). Right (entry c k l) b (stepped c k l).counter) (sym q) (all_goes (Some h) c b v.router j l))
    one

-- ---- a read, also while a closed panel is still to be released: it lists nothing and is owed nothing, and counter and book stay
record Idle (c : Counter) (k : Call) (l : Lists) : Type 0 where
  counter : (stepped c k l).counter ≡ c
  unlisted : (entry c k l).listed ≡ []
  unowed : (b : Book) → owed (entry c k l).asked (entry c k l).told b ≡ []
  unowed_presses : (b : Book) → owed_presses (entry c k l).asked (entry c k l).told b ≡ []
  unnoted : (b : Book) → note (entry c k l).asked (entry c k l).told b ≡ b

read_idle : (c : Counter) (k : Call) (l : Lists) → is_read k ≡ true → Idle c k l
unfolding stepped owed owed_presses owed_captures then_captures concerned_presses concerned_captures concern note noted change changed registered without_concerned
read_idle c (Read k) l t = record {
  counter = refl;
  unlisted = entries_packed releases [];
  unowed = λ b. by_test (eqb (entry c (Read k) l).told.number 0) (λ q. rw q) (λ q. rw q);
  unowed_presses = λ b. by_test (eqb (entry c (Read k) l).told.number 0) (λ q. rw q) (λ q. rw q);
  unnoted = λ b. by_test (eqb (entry c (Read k) l).told.number 0) (λ q. rw q) (λ q. rw q);
}
read_idle c (Panel k) l t = clash t refl
read_idle c (Input k) l t = clash t refl
read_idle c (ReleaseDevice x) l t = clash t refl
read_idle c (Shortcut k) l t = clash t refl
read_idle c (Arbitrate x) l t = clash t refl
read_idle c (Close k) l t = clash t refl
read_idle c (Router k) l t = clash t refl

none_twice_lem : (same : Binding → Binding → Bool) {m : List Binding} → m ≡ [] → none_twice same m ≡ true
unfolding none_twice
none_twice_lem same q = ap (none_twice same) q

-- ---- all calls
-- what is claimed of the calls from a counter and a book on
record Traced (b : Book) (l : List Asked) (c : Counter) : Type 0 where
  listed : (before : List Entry) (e : Entry) (later : List Entry) → history l c ≡ before ++ (e ∷ later) → e.listed ≡ owed e.asked e.told (book_after before b)
  once : (before : List Entry) (e : Entry) (later : List Entry) → history l c ≡ before ++ (e ∷ later) → none_twice is_same_release e.listed ≡ true
  one_panel : (before : List Entry) (e : Entry) (later : List Entry) → history l c ≡ before ++ (e ∷ later)
      → none_twice is_same_press_of (owed_presses e.asked e.told (book_after before b)) ≡ true
  held : (before later : List Asked) → l ≡ before ++ later → presses_of (after before c).router ≡ (book_after (history before c) b).presses

-- an empty list has no place
nowhere {ℓ} : {A : Type 0} {P : Type ℓ} (before : List A) (e : A) (later : List A) → [] ≡ before ++ (e ∷ later) → P
nowhere [] e later q = let z : ◌≡◌ {A = ℕ} 0 1 = cc in absurd (omega arith)
nowhere (f ∷ before) e later q = let z : ◌≡◌ {A = ℕ} 0 1 = cc in absurd (omega arith)

-- the end of the list
no_calls : (c : Counter) (b : Book) (p : Option GenerationalHandle) → Joined p c b → Traced b [] c
unfolding history after book_after
no_calls c b p j = record {
  listed = λ before e later q. nowhere before e later q;
  once = λ before e later q. nowhere before e later q;
  one_panel = λ before e later q. nowhere before e later q;
  held = held;
}
  where
    held : (before later : List Asked) → [] ≡ before ++ later → presses_of (after before c).router ≡ (book_after (history before c) b).presses
    held [] later q = j.own.presses
    held (x ∷ before) later q = nowhere [] x (before ++ later) q

-- what one call shows, for the calls after it
record First (e : Entry) (b : Book) : Type 0 where
  listed : e.listed ≡ owed e.asked e.told b
  once : none_twice is_same_release e.listed ≡ true
  one_panel : none_twice is_same_press_of (owed_presses e.asked e.told b) ≡ true

-- one call more at the front
more : (x : Asked) (l : List Asked) (c : Counter) (b : Book) → presses_of c.router ≡ b.presses → First (entry_of x (call c x).answer) b
    → Traced (note x (told_of (call c x).answer) b) l (call c x).counter → Traced b (x ∷ l) c
unfolding history after book_after
more x l c b now own rest = record { listed = listed; once = once; one_panel = one_panel; held = held }
  where
    first : Entry
    first = entry_of x (call c x).answer

    next : Counter
    next = (call c x).counter

    listed : (before : List Entry) (e : Entry) (later : List Entry) → first ∷ history l next ≡ before ++ (e ∷ later) → e.listed ≡ owed e.asked e.told (book_after before b)
    listed [] e later q = let is : first ≡ e = cc in rw (sym is) own.listed
    listed (f ∷ before) e later q =
        let is : first ≡ f = cc in
        let then : history l next ≡ before ++ (e ∷ later) = cc in
        rw (sym is) (rest.listed before e later then)

    once : (before : List Entry) (e : Entry) (later : List Entry) → first ∷ history l next ≡ before ++ (e ∷ later) → none_twice is_same_release e.listed ≡ true
    once [] e later q = let is : first ≡ e = cc in rw (sym is) own.once
    once (f ∷ before) e later q = let then : history l next ≡ before ++ (e ∷ later) = cc in rest.once before e later then

    one_panel : (before : List Entry) (e : Entry) (later : List Entry) → first ∷ history l next ≡ before ++ (e ∷ later)
        → none_twice is_same_press_of (owed_presses e.asked e.told (book_after before b)) ≡ true
    one_panel [] e later q = let is : first ≡ e = cc in rw (sym is) own.one_panel
    one_panel (f ∷ before) e later q =
        let is : first ≡ f = cc in
        let then : history l next ≡ before ++ (e ∷ later) = cc in
        rw (sym is) (rest.one_panel before e later then)

    held : (before later : List Asked) → x ∷ l ≡ before ++ later → presses_of (after before c).router ≡ (book_after (history before c) b).presses
    held [] later q = now
    held (y ∷ before) later q =
        let is : x ≡ y = cc in
        let then : l ≡ before ++ later = cc in
        rw (sym is) (rest.held before later then)

traced : (l : List Asked) (c : Counter) (b : Book) (p : Option GenerationalHandle) → Safe c → Joined p c b → ReleasedNext p (history l c) → Premises (history l c) → Traced b l c
unfolding history
traced [] c b p v j must k = no_calls c b p j
traced (x ∷ l) c b None v j must k =
    let f = k.0 in
    let own = call_goes c b v j x.call x.lists f.no_shutdown_lem (record { not_21 = f.not_21; not_22 = f.not_22 }) in
    more x l c b j.own.presses (record { listed = own.listed; once = own.once; one_panel = own.one_panel })
    (traced l (call c x).counter _ (closed_in (entry_of x (call c x).answer)) (step_safe c v x.call x.lists).safe own.next f.released_next k.1)
traced (x ∷ l) c b (Some h) v j must k = ⊎_elim
    (λ r.
    let idle = read_idle c x.call x.lists r.0 in
    more x l c b j.own.presses
    (record { listed = idle.unlisted ∙ sym (idle.unowed b); once = none_twice_lem is_same_release idle.unlisted; one_panel = none_twice_lem is_same_press_of (idle.unowed_presses b) })
    (traced l (call c x).counter _ (Some h) (step_safe c v x.call x.lists).safe
    (subst (λ (d : Book). Joined (Some h) (call c x).counter d) (sym (idle.unnoted b)) (subst (λ (d : Counter). Joined (Some h) d b) (sym idle.counter) j))
    r.1 k.1))
    (λ q.
    let own = released_goes h c b v j x.call x.lists q in
    more x l c b j.own.presses (record { listed = own.listed; once = own.once; one_panel = own.one_panel })
    (traced l (call c x).counter _ (closed_in (entry_of x (call c x).answer)) (step_safe c v x.call x.lists).safe own.next k.0.released_next k.1))
    must

-- ---- no other press changes
-- one call more at the end
after_more : (before : List Asked) (x : Asked) (c : Counter) → after (before ++ (x ∷ [])) c ≡ (call (after before c) x).counter
unfolding after
after_more [] x c = refl
after_more (y ∷ before) x c = after_more before x (call c y).counter

book_more : (before : List Asked) (x : Asked) (c : Counter) (b : Book)
    → book_after (history (before ++ (x ∷ [])) c) b ≡ note x (told_of (call (after before c) x).answer) (book_after (history before c) b)
unfolding after history book_after
book_more [] x c b = refl
book_more (y ∷ before) x c b = book_more before x (call c y).counter (note y (told_of (call c y).answer) b)

pub entry_there : (before : List Asked) (x : Asked) (later : List Asked) (c : Counter)
    → history (before ++ (x ∷ later)) c ≡ history before c ++ (entry_of x (call (after before c) x).answer ∷ history later (call (after before c) x).counter)
unfolding after history
entry_there [] x later c = refl
entry_there (y ∷ before) x later c = ap (λ (es : List Entry). entry_of y (call c y).answer ∷ es) (entry_there before x later (call c y).counter)

others_stay : (l : List Asked) (c : Counter) (b : Book) → Traced b l c → (before : List Asked) (x : Asked) (later : List Asked) → l ≡ before ++ (x ∷ later)
    → (y : Binding) → is_among y (presses_of (after before c).router) ≡ true → changes x (told_of (call (after before c) x).answer) y.key ≡ false
    → is_among y (releases_in (call (after before c) x).answer) ≡ false → is_among y (presses_of (call (after before c) x).counter.router) ≡ true
others_stay l c b t before x later q y h n m =
    let told = told_of (call (after before c) x).answer in
    let here = book_after (history before c) b in
    let held : presses_of (after before c).router ≡ here.presses = t.held before (x ∷ later) q in
    let listed = t.listed (history before c) (entry_of x (call (after before c) x).answer) (history later (call (after before c) x).counter)
    (ap (λ (k : List Asked). history k c) q ∙ entry_there before x later c) in
    let then : presses_of (call (after before c) x).counter.router ≡ (note x told here).presses =
    ap (λ (d : Counter). presses_of d.router) (sym (after_more before x c)) ∙ t.held (before ++ (x ∷ [])) later (q ∙ sym (append_assoc before (x ∷ []) later))
    ∙ ap (λ (d : Book). d.presses) (book_more before x c b) in
    ap (is_among y) then ∙ note_keeps told here y (ap (is_among y) (sym held) ∙ h) x n (ap (is_among y) (sym listed) ∙ m)

-- ---- from the start
safe_start : (s : Start) → Accepts s → Safe (fresh s)
safe_start s a = record {
  registry = (soundness.claims).start s.session s.epoch s.limits s.revision s.generation a.registry;
  router = (router.claims).start_sound s.bindings ∙ ap is_ok a.router;
}

joined_start : (s : Start) → Accepts s → Joined None (fresh s) empty_book
joined_start s a = record {
  shared = record { agrees = (registry.claims).start s.session s.epoch s.limits s.revision s.generation a.registry; captures_rise = refl };
  own = record { presses = entries_packed bindings []; hosted = refl };
}

pub demand_3 : Demand3
demand_3 = record {
  nothing_lost = λ s a l k.
      let t = traced l (fresh s) empty_book None (safe_start s a) (joined_start s a) tt k in
      record { listed = t.listed; once = t.once; one_panel = t.one_panel; held = t.held; others_stay = others_stay l (fresh s) empty_book t };
}

safe_after : (l : List Asked) (c : Counter) → Safe c → Safe (after l c)
unfolding after
safe_after [] c v = v
safe_after (x ∷ l) c v = safe_after l (call c x).counter (step_safe c v x.call x.lists).safe

pub never_damaged : NeverDamaged
never_damaged = record {
  sound = λ s a l. let v = safe_after l (fresh s) (safe_start s a) in (v.registry.sound, v.router);
  never_42 = λ s a l x. (step_safe _ (safe_after l (fresh s) (safe_start s a)) x.call x.lists).clear.not_42;
}
