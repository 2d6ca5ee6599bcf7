-- Demand 3's premises can be met, and none of them can be left out.
use Rattle.std.specs.Prelude.{ℕ, ◌≡◌, Bool, true, false, not, cond, ◌&&◌, List, [], ◌∷◌, map, eqb, Option, None, Some}
use Rattle.lists.specs.Lists.{all}
use Rattle.handles.specs.declared.GenerationalHandle.{GenerationalHandle}
use Rattle.maps.specs.declared.bindings.Binding.{Binding}
use Rattle.input_events.specs.declared.event.PlatformInputPayload.TheVariants.{DeviceDisconnected}
use Rattle.calls.specs.declared.call.Call.{Call}
use Rattle.calls.specs.declared.call.Call.TheVariants.{Panel, Input, ReleaseDevice, Shortcut, Arbitrate, Close, Router, Read}
use Rattle.calls.specs.declared.call.CloseCall.TheVariants.{CloseSurface, Shutdown}
use Rattle.calls.specs.declared.call.RouterCall.TheVariants.{Route, ReleaseSurface, ReleaseAll}
use Rattle.book.specs.Ids.{is_same_handle}
use Rattle.book.specs.Book.{Asked, Held, Book, empty_book}
use Rattle.book.specs.Notes.{note}
use Rattle.book.specs.Examples.{handle_at, finger, key_on, grip}
use Rattle.history.specs.Histories.{Start, fresh, Entry, history}
use Rattle.history.specs.Demand.{Accepts, is_read, closed_in, Premises, NothingLost}
use Rattle.history_examples.specs.Lists.{start_at, open_window, open_view, attach, capture, event_at, event, key_down, snapshot, focus_lost, close, shutdown, release, release_all, count}

-- ---- which of the premises a list of entries meets: no shutdown, no 21, no 22, each closed panel released next
abbrev pub is_shutdown : Call → Bool
is_shutdown (Panel call) = false
is_shutdown (Input call) = false
is_shutdown (ReleaseDevice a) = false
is_shutdown (Shortcut call) = false
is_shutdown (Arbitrate a) = false
is_shutdown (Close (CloseSurface h)) = false
is_shutdown (Close Shutdown) = true
is_shutdown (Router call) = false
is_shutdown (Read call) = false

abbrev pub is_release_of : GenerationalHandle → Call → Bool
is_release_of h (Panel call) = false
is_release_of h (Input call) = false
is_release_of h (ReleaseDevice a) = false
is_release_of h (Shortcut call) = false
is_release_of h (Arbitrate a) = false
is_release_of h (Close call) = false
is_release_of h (Router (Route e)) = false
is_release_of h (Router (ReleaseSurface g)) = is_same_handle h g
is_release_of h (Router ReleaseAll) = true
is_release_of h (Read call) = false

unfoldable pub is_released_next : Option GenerationalHandle → List Entry → Bool
is_released_next None es = true
is_released_next (Some h) [] = true
is_released_next (Some h) (e
    ∷ es) = cond (is_read e.asked.call) (is_released_next (Some h) es) (is_release_of h e.asked.call)

unfoldable pub are_released : List Entry → Bool
are_released [] = true
are_released (e ∷ es) = is_released_next (closed_in e) es && are_released es

abbrev pub met : List Entry → List Bool
met es =
    all (λ e. not (is_shutdown e.asked.call)) es
    ∷ all (λ e. not (eqb e.told.number 21)) es
    ∷ all (λ e. not (eqb e.told.number 22)) es
    ∷ are_released es
    ∷ []

-- ---- the calls, what each answered and listed, and the book's presses and captures after each
abbrev pub entries : Start → List Asked → List Entry
entries s l = history l (fresh s)

abbrev pub numbers : Start → List Asked → List ℕ
numbers s l = map (λ e. e.told.number) (entries s l)

abbrev pub lists : Start → List Asked → List (List Binding)
lists s l = map (λ e. e.listed) (entries s l)

unfoldable pub books : List Entry → Book → List Book
books [] b = []
books (e ∷ es) b = let next = note e.asked e.told b in next ∷ books es next

abbrev pub press_books : Start → List Asked → List (List Binding)
press_books s l = map (λ b. b.presses) (books (entries s l) empty_book)

abbrev pub capture_books : Start → List Asked → List (List Held)
capture_books s l = map (λ b. b.captures) (books (entries s l) empty_book)

-- ---- a list that meets the premises: a key is pressed and lost with the view's focus, pressed again, moved to a panel
-- above, and released after that panel's close, with a read in between
abbrev pub seat_map : GenerationalHandle
seat_map = handle_at 0 3

abbrev pub pay_sheet : GenerationalHandle
pay_sheet = handle_at 1 3

abbrev pub desk_start : Start
desk_start = start_at 5 3

abbrev pub desk_calls : List Asked
desk_calls =
    open_window
    ∷ open_view (handle_at 0 3)
    ∷ attach 3 0
    ∷ event 3 1 key_down
    ∷ capture seat_map 9
    ∷ event 3 2 focus_lost
    ∷ event 3 2 key_down
    ∷ event 3 3 key_down
    ∷ attach 3 1
    ∷ event 3 4 key_down
    ∷ close pay_sheet
    ∷ count
    ∷ release pay_sheet
    ∷ event 3 5 DeviceDisconnected
    ∷ []

abbrev pub key : GenerationalHandle → Binding
key h = key_on 7 1 30 h

abbrev pub no_press : List Binding
no_press = []

abbrev pub no_capture : List Held
no_capture = []

pub record DeskExample : Type 0 where
  pub accepts : Accepts desk_start
  pub premises : Premises (entries desk_start desk_calls)
  pub are_met : met (entries desk_start desk_calls) ≡ true ∷ true ∷ true ∷ true ∷ []
  pub answers : numbers desk_start desk_calls ≡ 0 ∷ 0 ∷ 0 ∷ 0 ∷ 0 ∷ 0 ∷ 32 ∷ 0 ∷ 0 ∷ 0 ∷ 0 ∷ 0 ∷ 0 ∷ 0 ∷ []
  pub releases : lists desk_start desk_calls
      ≡ no_press ∷ no_press ∷ no_press ∷ no_press ∷ no_press ∷ (key seat_map ∷ finger 7 1 9 seat_map ∷ []) ∷ no_press
      ∷ no_press
      ∷ no_press ∷ no_press ∷ no_press ∷ no_press ∷ (key pay_sheet ∷ []) ∷ no_press ∷ []
  pub presses : press_books desk_start desk_calls
      ≡ no_press ∷ no_press ∷ no_press ∷ (key seat_map ∷ []) ∷ (key seat_map ∷ []) ∷ no_press ∷ no_press
      ∷ (key seat_map ∷ [])
      ∷ (key seat_map ∷ []) ∷ (key pay_sheet ∷ []) ∷ (key pay_sheet ∷ []) ∷ (key pay_sheet ∷ []) ∷ no_press ∷ no_press
      ∷ []
  pub captures : capture_books desk_start desk_calls
      ≡ no_capture ∷ no_capture ∷ no_capture ∷ no_capture ∷ (grip 9 (handle_at 0 3) seat_map ∷ []) ∷ no_capture
      ∷ no_capture
      ∷ no_capture ∷ no_capture ∷ no_capture ∷ no_capture ∷ no_capture ∷ no_capture ∷ no_capture ∷ []

-- ---- each premise is needed: on these lists the three others are met, and the claim fails
-- a shutdown lets a capture go that the book keeps; the device's disconnect afterwards does not list it
abbrev pub shutdown_calls : List Asked
shutdown_calls = open_window ∷ open_view (handle_at 0 1) ∷ attach 1 0 ∷ capture (handle_at 0 1) 8 ∷ shutdown
    ∷ open_window
    ∷ open_view (handle_at 0 2) ∷ event 2 1 DeviceDisconnected ∷ []

-- the revision is at its end: a view's loss refused 21 has dropped the key unlisted
abbrev pub last_revision_calls : List Asked
last_revision_calls = open_window ∷ open_view (handle_at 0 1) ∷ attach 1 0 ∷ event 1 1 key_down ∷ event 1 2 focus_lost
    ∷ []

abbrev pub last_generation : ℕ
last_generation = 4294967295

-- generations are at their end: a close refused 22 has let the capture go, and the disconnect does not list it
abbrev pub last_generation_calls : List Asked
last_generation_calls =
    open_window ∷ open_view (handle_at 0 last_generation) ∷ attach last_generation 0
    ∷ capture (handle_at 0 last_generation) 8
    ∷ close (handle_at 0 last_generation)
    ∷ event last_generation 1 DeviceDisconnected ∷ []

-- a closed panel's gamepad is not released: a view's loss meets it, 12, and has dropped the other panel's key unlisted
abbrev pub unreleased_calls : List Asked
unreleased_calls =
    open_window ∷ open_view (handle_at 0 1) ∷ attach 1 0 ∷ event 1 1 (snapshot true) ∷ attach 1 1 ∷ event 1 2 key_down
    ∷ close (handle_at 0 1) ∷ event 1 3 focus_lost ∷ []

pub record PremisesNeeded : Type 0 where
  pub shutdown_met : met (entries (start_at 5 1) shutdown_calls) ≡ false ∷ true ∷ true ∷ true ∷ []
  pub shutdown_answers : numbers (start_at 5 1) shutdown_calls ≡ 0 ∷ 0 ∷ 0 ∷ 0 ∷ 0 ∷ 0 ∷ 0 ∷ 0 ∷ []
  pub shutdown_fails : NothingLost (start_at 5 1) shutdown_calls → ⊥
  pub last_revision_met : met (entries (start_at 18446744073709551611 1) last_revision_calls)
      ≡ true ∷ false ∷ true ∷ true
      ∷ []
  pub last_revision_answers : numbers (start_at 18446744073709551611 1) last_revision_calls ≡ 0 ∷ 0 ∷ 0 ∷ 0 ∷ 21 ∷ []
  pub last_revision_fails : NothingLost (start_at 18446744073709551611 1) last_revision_calls → ⊥
  pub last_generation_met : met (entries (start_at 5 last_generation) last_generation_calls)
      ≡ true ∷ true ∷ false ∷ true
      ∷ []
  pub last_generation_answers : numbers (start_at 5 last_generation) last_generation_calls ≡ 0 ∷ 0 ∷ 0 ∷ 0 ∷ 22 ∷ 0 ∷ []
  pub last_generation_fails : NothingLost (start_at 5 last_generation) last_generation_calls → ⊥
  pub unreleased_met : met (entries (start_at 5 1) unreleased_calls) ≡ true ∷ true ∷ true ∷ false ∷ []
  pub unreleased_answers : numbers (start_at 5 1) unreleased_calls ≡ 0 ∷ 0 ∷ 0 ∷ 0 ∷ 0 ∷ 0 ∷ 0 ∷ 12 ∷ []
  pub unreleased_fails : NothingLost (start_at 5 1) unreleased_calls → ⊥

-- ---- what the router alone forgets, read from its answers, and a list that ends at a close
abbrev pub pressed_once : List Asked → List Asked
pressed_once later = open_window ∷ open_view (handle_at 0 1) ∷ attach 1 0 ∷ event 1 5 key_down ∷ later

pub record OtherExamples : Type 0 where
  -- "A disconnect forgets its device's sequence, not the shared time.": not 32 for sequence 1 again, and 33 before time
  -- 10
  pub disconnect_forgets : numbers (start_at 5 1)
      (pressed_once (event 1 6 DeviceDisconnected ∷ event_at 9 1 1 key_down ∷ event 1 1 key_down ∷ []))
      ≡ 0 ∷ 0 ∷ 0 ∷ 0 ∷ 0 ∷ 33 ∷ 0 ∷ []
  -- "`release_all` .. then forgets sequences and the time": neither 32 for sequence 1 again nor 33 before time 10
  pub all_forgets : numbers (start_at 5 1) (pressed_once (release_all ∷ event_at 9 1 1 key_down ∷ []))
      ≡ 0 ∷ 0 ∷ 0 ∷ 0 ∷ 0 ∷ 0 ∷ []
  -- "The list may end at a close."
  pub close_ends : Premises (entries (start_at 5 1) (pressed_once (close (handle_at 0 1) ∷ [])))

pub record Demand3Examples : Type 0 where
  pub desk : DeskExample
  pub needed : PremisesNeeded
  pub others : OtherExamples
