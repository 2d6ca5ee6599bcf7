-- Demand 3: nothing lost. One statement about every list of calls from a fresh start.
use Rattle.std.specs.Prelude.{◌≡◌, ◌⊎◌, Bool, true, false, cond, List, [], ◌∷◌, ◌++◌, Option, None, Some, Ok, Err}
use Rattle.handles.specs.declared.GenerationalHandle.{GenerationalHandle}
use Rattle.maps.specs.declared.bindings.Binding.{Binding}
use Rattle.composition_state.specs.Damage.{is_sound}
use Rattle.composition_state.specs.Start.{started}
use Rattle.input_router.specs.Damage.{is_router_sound}
use Rattle.input_router.specs.Router.{start_outcome, presses_of}
use Rattle.calls.specs.declared.call.Call.{Call}
use Rattle.calls.specs.declared.call.Call.TheVariants.{Panel, Input, ReleaseDevice, Shortcut, Arbitrate, Close, Router, Read}
use Rattle.calls.specs.declared.call.CloseCall.TheVariants.{CloseSurface, Shutdown}
use Rattle.calls.specs.declared.call.RouterCall.TheVariants.{ReleaseSurface, ReleaseAll}
use Rattle.book.specs.Book.{Asked, is_refused, empty_book}
use Rattle.book.specs.Notes.{changes}
use Rattle.book.specs.Owed.{is_same_press_of, is_same_release, is_among, none_twice, owed_presses, owed}
use Rattle.history.specs.Histories.{Start, fresh, call, told_of, releases_in, Entry, after, history, book_after}

-- an accepted start: any limits, first revision and first generation that RULES.md, Start, does not refuse
pub record Accepts (s : Start) : Type 0 where
  pub registry : (started s.session s.epoch s.limits s.revision s.generation).outcome
      ≡ Ok tt
  pub router : start_outcome s.bindings ≡ Ok tt

-- ---- the premises, and no others: no shutdown, no answer 21 or 22, each closed panel released in the router by the
-- very next call the panel that a call closes
abbrev pub closed_by : Call → Option GenerationalHandle
closed_by (Close (CloseSurface h)) = Some h
closed_by (Close Shutdown) = None
closed_by (Panel call) = None
closed_by (Input call) = None
closed_by (ReleaseDevice a) = None
closed_by (Shortcut call) = None
closed_by (Arbitrate a) = None
closed_by (Router call) = None
closed_by (Read call) = None

-- the panel that an accepted call closed
abbrev pub closed_in : Entry → Option GenerationalHandle
closed_in e = cond (is_refused e.told) None (closed_by e.asked.call)

-- RULES.md, Book: "Hit tests alter neither state and stand outside", as do all reads
abbrev pub is_read : Call → Bool
is_read (Panel call) = false
is_read (Input call) = false
is_read (ReleaseDevice a) = false
is_read (Shortcut call) = false
is_read (Arbitrate a) = false
is_read (Close call) = false
is_read (Router call) = false
is_read (Read call) = true

-- the next call but for reads, if there is one, releases that panel in the router, alone or with all
abbrev pub ReleasedNext : Option GenerationalHandle → List Entry → Type 0
ReleasedNext None es = Unit {0}
ReleasedNext (Some h) [] = Unit {0}
ReleasedNext (Some h) (e ∷ es) =
    ((is_read e.asked.call ≡ true) × ReleasedNext (Some h) es)
    ⊎ ((e.asked.call ≡ Router (ReleaseSurface h)) ⊎ (e.asked.call ≡ Router ReleaseAll))

-- what is asked of a call, with those after it
pub record CallPremises (e : Entry) (es : List Entry) : Type 0 where
  pub no_shutdown_lem : e.asked.call ≡ Close Shutdown → ⊥
  pub not_21 : e.told.number ≡ 21 → ⊥
  pub not_22 : e.told.number ≡ 22 → ⊥
  pub released_next : ReleasedNext (closed_in e) es

abbrev pub Premises : List Entry → Type 0
Premises [] = Unit {0}
Premises (e ∷ es) = CallPremises e es × Premises es

-- ---- the claim
-- wherever in the list a call stands: what it was and answered, and the calls before it
abbrev pub Anywhere : Start → List Asked → (List Entry → Entry → Type 0) → Type 0
Anywhere s l P = (before : List Entry) (e : Entry) (later : List Entry) → history l (fresh s) ≡ before ++ (e ∷ later)
    → P before e

pub record NothingLost (s : Start) (l : List Asked) : Type 0 where
  -- the releases of a call are those that the book owes there, in release order
  pub listed : Anywhere s l (λ before e. e.listed ≡ owed e.asked e.told (book_after before empty_book))
  -- each once: no release stands there twice
  pub once : Anywhere s l (λ before e. none_twice is_same_release e.listed ≡ true)
  -- and of the part that comes from the book's presses no press is listed with two panels
  pub one_panel : Anywhere s l
      (λ before e. none_twice is_same_press_of (owed_presses e.asked e.told (book_after before empty_book)) ≡ true)
  -- after every call the router holds exactly the open presses, each with its panel
  pub held : (before later : List Asked) → l ≡ before ++ later
      → presses_of (after before (fresh s)).router ≡ (book_after (history before (fresh s)) empty_book).presses
  -- no other press changes: one that a call neither opens, moves, ends nor lists stands after it with the same panel
  pub others_stay : (before : List Asked) (x : Asked) (later : List Asked) → l ≡ before ++ (x ∷ later)
      → (y : Binding) → is_among y (presses_of (after before (fresh s)).router) ≡ true
      → changes x (told_of (call (after before (fresh s)) x).answer) y.key ≡ false
      → is_among y (releases_in (call (after before (fresh s)) x).answer) ≡ false
      → is_among y (presses_of (call (after before (fresh s)) x).counter.router) ≡ true

pub record Demand3 : Type 0 where
  pub nothing_lost : (s : Start) → Accepts s → (l : List Asked) → Premises (history l (fresh s)) → NothingLost s l

-- ---- beside it, without any premise: no list of calls leads to a counter that the damage test rejects, and so no call
-- after any list answers 42
pub record NeverDamaged : Type 0 where
  pub sound : (s : Start) → Accepts s → (l : List Asked) → (is_sound (after l (fresh s)).registry ≡ true)
      × (is_router_sound (after l (fresh s)).router ≡ true)
  pub never_42 : (s : Start) → Accepts s → (l : List Asked) (x : Asked)
      → (told_of (call (after l (fresh s)) x).answer).number ≡ 42 → ⊥
