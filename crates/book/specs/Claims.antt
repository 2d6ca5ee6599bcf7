-- The book tried on examples: one for each sentence of RULES.md, Presses, Release order and Book. Behind
-- "not:" stands a wrong rule that the example refuses. What the router alone forgets (sequences, the time) is no part
-- of the book.
use Rattle.std.specs.Prelude.{◌≡◌, true, false, List, [], ◌∷◌, None, Some}
use Rattle.maps.specs.declared.bindings.Binding.{Binding}
use Rattle.records.specs.declared.surface.SurfaceDescriptor.{SurfaceDescriptor}
use Rattle.input_events.specs.declared.event.KeyPhase.TheVariants as K
use Rattle.input_events.specs.declared.event.PointerPhase.TheVariants as P
use Rattle.input_events.specs.declared.event.WheelInput.{WheelInput}
use Rattle.input_events.specs.declared.event.PlatformInputPayload.TheVariants as payload
use Rattle.calls.specs.declared.arguments.ArbitrateArguments.{ArbitrateArguments}
use Rattle.calls.specs.declared.arguments.FocusArguments.{FocusArguments}
use Rattle.calls.specs.declared.arguments.HandleArguments.{HandleArguments}
use Rattle.calls.specs.declared.arguments.PolicyArguments.{PolicyArguments}
use Rattle.calls.specs.declared.call.Call.{Call}
use Rattle.calls.specs.declared.call.Call.TheVariants.{Panel, Input, Shortcut, Arbitrate, Close, Read}
use Rattle.calls.specs.declared.call.CloseCall.TheVariants.{Shutdown}
use Rattle.calls.specs.declared.call.InputCall.TheVariants as input
use Rattle.calls.specs.declared.call.Lists.{Lists}
use Rattle.calls.specs.declared.call.PanelCall.TheVariants as panel
use Rattle.calls.specs.declared.call.ReadCall.{ReadCall}
use Rattle.calls.specs.declared.call.ShortcutCall.{ShortcutCall}
use Rattle.book.specs.Book.{Told, Book, empty_book, capture_in}
use Rattle.book.specs.Notes.{receiver, note}
use Rattle.book.specs.Owed.{owed}
use Rattle.book.specs.Examples.{handle_at, seat_map, hold_bar, pay_sheet, first_view, second_view, device_at, pointer_at, finger, key_on, gamepad_on, event_of, contact_payload, contact, key_event, snapshot, unplugged, focused, visible, panel_released, all_released, capture_for, release_for, suspended, device_let_go, panel_closed, accepted, taken_by, refused_with, made, delivery, book_of, pressed, capturing, grip}

-- a call with its answer, from a book on: the book afterwards, and what is owed
module _ (l : Lists) where
  abbrev pub after : Call → Told → Book → Book
  after c a b = note (record { call = c; lists = l }) a b

  abbrev pub owes : Call → Told → Book → List Binding
  owes c a b = owed (record { call = c; lists = l }) a b

-- the examples hold whatever lists are handed in beside the calls
pub record PressClaims (l : Lists) : Type 0 where
  -- ---- "The receiver is the consumer, else the first unobserved delivery."
  -- not: the first delivery before the consumer
  pub receiver_consumes : receiver (Some pay_sheet) (delivery seat_map false ∷ []) ≡ Some pay_sheet
  -- not: the first delivery, observed or not; the last unobserved one
  pub receiver_unobserved : receiver None (delivery hold_bar true ∷ delivery seat_map false
      ∷ delivery pay_sheet false ∷ []) ≡ Some seat_map
  -- ---- "A pointer Down, a key Down without repeat or a connected snapshot with a receiver opens the press or moves it
  -- to the new receiver, with no release listed."
  -- not: a Down that opens nothing
  pub pointer_opens : (after l (contact P.Down) (taken_by pay_sheet) empty_book).presses ≡ finger 7 1 0 pay_sheet ∷ []
  pub key_opens : (after l (key_event 7 1 K.Down false) (taken_by pay_sheet) empty_book).presses
      ≡ key_on 7 1 30 pay_sheet ∷ []
  pub gamepad_opens : (after l (snapshot 7 1 true) (taken_by pay_sheet) empty_book).presses
      ≡ gamepad_on 7 1 pay_sheet ∷ []
  -- not: a repeated Down that opens or moves
  pub repeat_leaves : after l (key_event 7 1 K.Down true) (taken_by pay_sheet) (pressed (key_on 7 1 30 seat_map ∷ []))
      ≡ pressed (key_on 7 1 30 seat_map ∷ [])
  -- not: a press kept with the panel of its first Down; one press on two panels
  pub pointer_moves : (after l (contact P.Down) (taken_by pay_sheet) (pressed (finger 7 1 0 seat_map ∷ []))).presses
      ≡ finger 7 1 0 pay_sheet ∷ []
  pub key_moves : (after l (key_event 7 1 K.Down false) (taken_by pay_sheet) (pressed (key_on 7 1 30 seat_map
      ∷ []))).presses
      ≡ key_on 7 1 30 pay_sheet ∷ []
  pub gamepad_moves : (after l (snapshot 7 1 true) (taken_by pay_sheet) (pressed (gamepad_on 7 1 seat_map
      ∷ []))).presses
      ≡ gamepad_on 7 1 pay_sheet ∷ []
  -- not: a release listed when a press moves
  pub moves_unlisted : owes l (contact P.Down) (taken_by pay_sheet) (pressed (finger 7 1 0 seat_map ∷ [])) ≡ []
  -- not: a Move that opens
  pub move_leaves : after l (contact P.Move) (taken_by pay_sheet) empty_book ≡ empty_book
  -- ---- "Without a receiver an older press is unchanged."
  -- not: a Down that nobody takes ends the press
  pub no_receiver : after l (contact P.Down) accepted (pressed (finger 7 1 0 seat_map ∷ []))
      ≡ pressed (finger 7 1 0 seat_map ∷ [])
  -- ---- "Up, Cancel or a disconnected snapshot ends it, even if its panel was not delivered to."
  -- not: an Up ends the press only where its panel takes it
  pub up_ends : (after l (contact P.Up) (taken_by pay_sheet) (pressed (finger 7 1 0 seat_map ∷ []))).presses ≡ []
  pub cancel_ends : (after l (contact P.Cancel) accepted (pressed (finger 7 1 0 seat_map ∷ []))).presses ≡ []
  pub key_ends : (after l (key_event 7 1 K.Up true) accepted (pressed (key_on 7 1 30 seat_map ∷ []))).presses ≡ []
  pub snapshot_ends : (after l (snapshot 7 1 false) accepted (pressed (gamepad_on 7 1 seat_map ∷ []))).presses ≡ []
  -- not: an Up that ends another contact, another generation's contact, or a key of the same number
  pub others_stay : (after l (contact P.Up) accepted (pressed (finger 7 1 0 seat_map ∷ finger 7 1 1 seat_map
      ∷ finger 7 2 0 seat_map ∷ key_on 7 1 0 seat_map ∷ []))).presses
      ≡ finger 7 1 1 seat_map ∷ finger 7 2 0 seat_map ∷ key_on 7 1 0 seat_map ∷ []
  -- ---- "Being listed on a disconnect, a view's loss (of focus or visibility) or a router release ends it too."
  -- not: a press that stays open once it was listed
  pub unplugged_ends : (after l unplugged accepted (pressed (finger 7 1 0 seat_map ∷ finger 7 2 0 seat_map
      ∷ []))).presses
      ≡ finger 7 2 0 seat_map ∷ []
  pub unfocused_ends : (after l (focused false) accepted (pressed (finger 7 1 0 seat_map ∷ key_on 8 1 30 pay_sheet
      ∷ []))).presses ≡ key_on 8 1 30 pay_sheet ∷ []
  pub hidden_ends : (after l (visible false) accepted (pressed (finger 7 1 0 seat_map ∷ key_on 8 1 30 pay_sheet
      ∷ []))).presses ≡ key_on 8 1 30 pay_sheet ∷ []
  pub panel_ends : (after l (panel_released seat_map) accepted (pressed (finger 7 1 0 seat_map ∷ key_on 8 1 30 pay_sheet
      ∷ []))).presses ≡ key_on 8 1 30 pay_sheet ∷ []
  pub all_ends : (after l all_released accepted (pressed (finger 7 1 0 seat_map ∷ key_on 8 1 30 pay_sheet
      ∷ []))).presses
      ≡ []
  -- ---- "A disconnected snapshot is a gamepad's Up and not its device's disconnect."
  -- not: a disconnected snapshot that lists or ends the device's other presses
  pub snapshot_unlisted : owes l (snapshot 7 1 false) accepted (pressed (finger 7 1 0 seat_map ∷ gamepad_on 7 1 seat_map
      ∷ [])) ≡ []
  pub snapshot_only : (after l (snapshot 7 1 false) accepted (pressed (finger 7 1 0 seat_map ∷ gamepad_on 7 1 seat_map
      ∷ []))).presses ≡ finger 7 1 0 seat_map ∷ []

pub record OrderClaims (l : Lists) : Type 0 where
  -- ---- "Listed are the presses of that device id (value and generation), of the view's panels (both on an accepted
  -- routed event), of the panel, or all."
  -- not: by the device's value alone
  pub of_device : owes l unplugged accepted (pressed (finger 7 1 0 seat_map ∷ finger 7 2 0 seat_map
      ∷ finger 8 1 0 seat_map ∷ [])) ≡ finger 7 1 0 seat_map ∷ []
  -- not: pointers only
  pub of_device_all : owes l unplugged accepted (pressed (finger 7 1 0 seat_map ∷ key_on 7 1 30 pay_sheet
      ∷ gamepad_on 7 1 seat_map ∷ []))
      ≡ finger 7 1 0 seat_map ∷ key_on 7 1 30 pay_sheet ∷ gamepad_on 7 1 seat_map ∷ []
  -- not: the presses of every view; the presses of the device that tells of the loss
  pub of_view : owes l (focused false) accepted (pressed (finger 7 1 0 seat_map ∷ finger 7 1 1 pay_sheet
      ∷ key_on 8 1 30 hold_bar ∷ []))
      ≡ finger 7 1 0 seat_map ∷ key_on 8 1 30 hold_bar ∷ []
  pub of_hidden_view : owes l (visible false) accepted (pressed (finger 7 1 0 seat_map ∷ finger 7 1 1 pay_sheet ∷ []))
      ≡ finger 7 1 0 seat_map ∷ []
  -- not: a gain taken for a loss
  pub gain_lists_none : owes l (focused true) accepted (pressed (finger 7 1 0 seat_map ∷ [])) ≡ []
  pub gain_ends_none : after l (visible true) accepted (pressed (finger 7 1 0 seat_map ∷ []))
      ≡ pressed (finger 7 1 0 seat_map ∷ [])
  -- not: by the panel's index alone
  pub of_panel : owes l (panel_released seat_map) accepted (pressed (finger 7 1 0 seat_map ∷ finger 7 1 1 pay_sheet
      ∷ finger 7 1 2 (handle_at 0 2) ∷ [])) ≡ finger 7 1 0 seat_map ∷ []
  -- not: a refused disconnect or loss that lists
  pub refused_lists_none : owes l unplugged (refused_with 32) (pressed (finger 7 1 0 seat_map ∷ [])) ≡ []
  pub refused_loss_lists_none : owes l (focused false) (refused_with 20) (book_of (finger 7 1 0 seat_map
      ∷ []) (grip 9 first_view seat_map ∷ [])) ≡ []
  -- ---- "Pointers by device, generation, contact; keys by device, generation, key; gamepads by device, generation"
  -- not: by generation before device (6.9); by contact before generation (7.2.0); in the order of the Downs
  pub pointers_by_device : (after l (event_of (device_at 7 1) first_view (contact_payload 3 P.Down))
      (taken_by pay_sheet)
      (pressed (finger 6 9 5 seat_map ∷ finger 7 1 4 seat_map ∷ finger 7 2 0 seat_map ∷ finger 8 1 0 seat_map
      ∷ []))).presses
      ≡ finger 6 9 5 seat_map ∷ finger 7 1 3 pay_sheet ∷ finger 7 1 4 seat_map ∷ finger 7 2 0 seat_map
      ∷ finger 8 1 0 seat_map ∷ []
  pub keys_by_device : (after l (key_event 7 1 K.Down false) (taken_by pay_sheet) (pressed (key_on 6 9 40 seat_map
      ∷ key_on 7 1 31 seat_map ∷ key_on 7 2 9 seat_map ∷ key_on 8 1 9 seat_map ∷ []))).presses
      ≡ key_on 6 9 40 seat_map ∷ key_on 7 1 30 pay_sheet ∷ key_on 7 1 31 seat_map ∷ key_on 7 2 9 seat_map
      ∷ key_on 8 1 9 seat_map
      ∷ []
  pub gamepads_by_device : (after l (snapshot 7 1 true) (taken_by pay_sheet) (pressed (gamepad_on 6 9 seat_map
      ∷ gamepad_on 7 2 seat_map ∷ gamepad_on 8 1 seat_map ∷ []))).presses
      ≡ gamepad_on 6 9 seat_map ∷ gamepad_on 7 1 pay_sheet ∷ gamepad_on 7 2 seat_map ∷ gamepad_on 8 1 seat_map ∷ []
  -- not: by device before kind
  pub kind_after_kind : (after l (key_event 7 1 K.Down false) (taken_by pay_sheet) (pressed (finger 9 1 0 seat_map
      ∷ gamepad_on 6 1 seat_map ∷ []))).presses
      ≡ finger 9 1 0 seat_map ∷ key_on 7 1 30 pay_sheet ∷ gamepad_on 6 1 seat_map ∷ []
  -- ---- "then, for a device or a view only, its captures by view slot and pointer, leaving out a pair of pointer and
  -- panel already listed"
  -- not: by pointer across the views; captures before presses; another device's captures
  pub captures_by_view : owes l unplugged accepted (book_of (key_on 7 1 30 seat_map ∷ []) (grip 9 first_view seat_map
      ∷ grip 0 second_view pay_sheet ∷ capture_in second_view (pointer_at 7 2 0) pay_sheet ∷ []))
      ≡ key_on 7 1 30 seat_map ∷ finger 7 1 9 seat_map ∷ finger 7 1 0 pay_sheet ∷ []
  pub captures_of_view : owes l (focused false) accepted (book_of (finger 8 1 0 hold_bar
      ∷ []) (grip 9 first_view seat_map
      ∷ grip 0 second_view pay_sheet ∷ []))
      ≡ finger 8 1 0 hold_bar ∷ finger 7 1 9 seat_map ∷ []
  -- not: a pair listed twice
  pub pair_left_out : owes l unplugged accepted (book_of (finger 7 1 0 seat_map ∷ []) (grip 0 first_view seat_map ∷ []))
      ≡ finger 7 1 0 seat_map ∷ []
  -- not: left out by the pointer alone
  pub other_panel_listed : owes l unplugged accepted (book_of (finger 7 1 0 seat_map ∷ []) (grip 0 first_view hold_bar
      ∷ [])) ≡ finger 7 1 0 seat_map ∷ finger 7 1 0 hold_bar ∷ []
  -- not: left out for a key of the same number
  pub key_leaves_in : owes l unplugged accepted (book_of (key_on 7 1 0 seat_map ∷ []) (grip 0 first_view seat_map ∷ []))
      ≡ key_on 7 1 0 seat_map ∷ finger 7 1 0 seat_map ∷ []
  -- not: captures listed for a panel
  pub panel_without_captures : owes l (panel_released seat_map) accepted (book_of (finger 7 1 0 seat_map
      ∷ []) (grip 9 first_view seat_map ∷ [])) ≡ finger 7 1 0 seat_map ∷ []
  -- ---- "`release_all` does this panel by panel, by handle, without captures"
  -- not: by kind; panels by their first press; by generation before index; with captures
  pub all_by_panel : owes l all_released accepted (book_of (finger 7 1 0 pay_sheet ∷ finger 7 1 1 (handle_at 0 2)
      ∷ finger 7 1 2 seat_map ∷ key_on 7 1 30 seat_map ∷ gamepad_on 7 1 pay_sheet ∷ []) (grip 9 first_view seat_map
      ∷ []))
      ≡ finger 7 1 2 seat_map ∷ key_on 7 1 30 seat_map ∷ finger 7 1 1 (handle_at 0 2) ∷ finger 7 1 0 pay_sheet
      ∷ gamepad_on 7 1 pay_sheet ∷ []

pub record NoteClaims (l : Lists) : Type 0 where
  -- ---- "It keeps presses and captures with their panels, and panels' views; all start empty."
  pub start_empty : empty_book ≡ record { presses = []; captures = []; homes = [] }
  -- ---- "Refused calls and those not named here change nothing."
  -- not: a refused Up that ends, a refused Down that opens, a refused attach or capture that is noted
  pub refused_up : after l (contact P.Up) (refused_with 32) (pressed (finger 7 1 0 seat_map ∷ []))
      ≡ pressed (finger 7 1 0 seat_map ∷ [])
  pub refused_down : after l (contact P.Down) (refused_with 40) empty_book ≡ empty_book
  pub refused_attach : (d : SurfaceDescriptor) → after l (Panel (panel.AttachSurface d)) (refused_with 4) empty_book
      ≡ empty_book
  pub refused_capture : after l (capture_for (pointer_at 7 1 9) seat_map) (refused_with 41) (capturing [])
      ≡ capturing []
  -- not: a focus, a policy, a shortcut, an arbitration, a read or a shutdown that ends or drops
  pub focus_noted_not : (x : FocusArguments) (b : Book) → after l (Input (input.SetFocus x)) accepted b ≡ b
  pub policy_noted_not : (x : PolicyArguments) (b : Book)
      → after l (Panel (panel.UpdateSurfaceInputPolicy x)) accepted b ≡ b
  pub shortcut_noted_not : (x : ShortcutCall) (b : Book) → after l (Shortcut x) accepted b ≡ b
  pub arbitration_noted_not : (x : ArbitrateArguments) (b : Book) → after l (Arbitrate x) (taken_by pay_sheet) b ≡ b
  pub read_noted_not : (x : ReadCall) (b : Book) → after l (Read x) accepted b ≡ b
  pub shutdown_noted_not : (b : Book) → after l (Close Shutdown) accepted b ≡ b
  -- ---- "Attach notes the view."
  -- not: the view of an earlier panel in the slot
  pub attach_noted : (d : SurfaceDescriptor) → (after l (Panel (panel.AttachSurface d))
      (made seat_map) empty_book).homes
      ≡ record { surface = seat_map; view = d.view } ∷ []
  -- ---- "Capture gives the panel the pointer in the panel's view"
  -- not: in the view of the last event; a capture without its view
  pub capture_given : (after l (capture_for (pointer_at 7 1 9) pay_sheet) accepted (capturing [])).captures
      ≡ grip 9 second_view pay_sheet ∷ []
  pub primary_given : (x : HandleArguments)
      → (after l (Input (input.CapturePointer (record { handle = seat_map; revision = x.revision }))) accepted
      (capturing [])).captures
      ≡ capture_in first_view (pointer_at 1 1 0) seat_map ∷ []
  -- not: two panels of one view with one pointer
  pub capture_moves : (after l (capture_for (pointer_at 7 1 9) hold_bar) accepted (capturing (grip 9 first_view seat_map
      ∷ grip 9 second_view pay_sheet ∷ []))).captures
      ≡ grip 9 first_view hold_bar ∷ grip 9 second_view pay_sheet ∷ []
  -- not: by pointer before view; by generation before device, or by contact before generation, within a view
  pub capture_by_view : (after l (capture_for (pointer_at 7 1 0) pay_sheet) accepted
      (capturing (grip 9 first_view seat_map ∷ []))).captures
      ≡ grip 9 first_view seat_map ∷ grip 0 second_view pay_sheet ∷ []
  pub capture_by_pointer : (after l (capture_for (pointer_at 7 1 8) seat_map) accepted
      (capturing (capture_in first_view (pointer_at 6 9 9) hold_bar ∷ grip 9 first_view hold_bar
      ∷ capture_in first_view (pointer_at 7 2 0) hold_bar ∷ []))).captures
      ≡ capture_in first_view (pointer_at 6 9 9) hold_bar ∷ grip 8 first_view seat_map ∷ grip 9 first_view hold_bar
      ∷ capture_in first_view (pointer_at 7 2 0) hold_bar ∷ []
  -- ---- "release of a pointer drops it if that panel has it"
  -- not: a pointer dropped that another panel has; every pointer of the panel
  pub release_drops : (after l (release_for (pointer_at 7 1 9) seat_map) accepted (capturing (grip 8 first_view seat_map
      ∷ grip 9 first_view seat_map ∷ []))).captures ≡ grip 8 first_view seat_map ∷ []
  pub release_of_another : (after l (release_for (pointer_at 7 1 9) hold_bar) accepted (capturing
      (grip 9 first_view seat_map
      ∷ []))).captures ≡ grip 9 first_view seat_map ∷ []
  -- ---- "device captures, suspend and a panel's close drop the captures of the device, view or panel"
  -- not: of the device's value; presses ended with them
  pub device_drops : after l device_let_go accepted (book_of (finger 7 1 0 seat_map ∷ []) (grip 9 first_view seat_map
      ∷ capture_in first_view (pointer_at 7 2 9) seat_map ∷ []))
      ≡ book_of (finger 7 1 0 seat_map ∷ []) (capture_in first_view (pointer_at 7 2 9) seat_map ∷ [])
  pub suspend_drops : after l (suspended first_view) accepted (book_of (finger 7 1 0 seat_map
      ∷ []) (grip 9 first_view seat_map ∷ grip 9 second_view pay_sheet ∷ []))
      ≡ book_of (finger 7 1 0 seat_map ∷ []) (grip 9 second_view pay_sheet ∷ [])
  pub close_drops : after l (panel_closed seat_map) accepted (book_of (finger 7 1 0 seat_map
      ∷ []) (grip 8 first_view hold_bar ∷ grip 9 first_view seat_map ∷ []))
      ≡ book_of (finger 7 1 0 seat_map ∷ []) (grip 8 first_view hold_bar ∷ [])
  -- ---- "a disconnect or a view's loss then drops its captures, listed or not; other routed events list none"
  -- not: a capture that stays because its pair was listed already
  pub unplugged_drops : (after l unplugged accepted (book_of (finger 7 1 0 seat_map ∷ []) (grip 0 first_view seat_map
      ∷ grip 9 second_view pay_sheet ∷ capture_in second_view (pointer_at 7 2 9) pay_sheet ∷ []))).captures
      ≡ capture_in second_view (pointer_at 7 2 9) pay_sheet ∷ []
  pub unfocused_drops : (after l (focused false) accepted (capturing (grip 9 first_view seat_map
      ∷ grip 9 second_view pay_sheet ∷ []))).captures ≡ grip 9 second_view pay_sheet ∷ []
  -- not: an Up or a wheel that lists
  pub up_lists_none : owes l (contact P.Up) accepted (book_of (finger 7 1 0 seat_map ∷ []) (grip 0 first_view seat_map
      ∷ [])) ≡ []
  pub wheel_lists_none : (w : WheelInput)
      → owes l (event_of (device_at 7 1) first_view (payload.Wheel w)) accepted (pressed (finger 7 1 0 seat_map ∷ []))
      ≡ []
  -- not: captures that a router release drops
  pub panel_keeps_captures : after l (panel_released seat_map) accepted (capturing (grip 9 first_view seat_map ∷ []))
      ≡ capturing (grip 9 first_view seat_map ∷ [])
  pub all_keeps_captures : after l all_released accepted (capturing (grip 9 first_view seat_map ∷ []))
      ≡ capturing (grip 9 first_view seat_map ∷ [])

pub record BookClaims : Type 0 where
  pub presses : (l : Lists) → PressClaims l
  pub order : (l : Lists) → OrderClaims l
  pub notes : (l : Lists) → NoteClaims l
