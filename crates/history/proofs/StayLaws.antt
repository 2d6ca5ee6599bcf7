-- No other press changes in the book: a press that a call neither opens, moves, ends nor lists is kept by every test that takes others out.
use Rattle.std.specs.Prelude.{Option, None, Some}
use mathlib.Core.Path.{◌≡◌, refl, sym, ap, ◌∙◌}
use mathlib.Core.Bool.{Bool, true, false, not}
use mathlib.Core.List.{List, [], ◌∷◌, ◌++◌}
use lib.Dec.{eqb}
use Rattle.lists.specs.Lists.{keep, all}
use Rattle.lists.proofs.ListLaws.{by_test, clash, and_left, and_right}
use Rattle.handles.specs.Handles.{same_handle}
use Rattle.handles.specs.declared.GenerationalHandle.{GenerationalHandle}
use Rattle.maps.specs.declared.bindings.Binding.{Binding}
use Rattle.maps.specs.declared.keys.CompositionPointerId.{CompositionPointerId}
use Rattle.calls.specs.declared.call.Call.{Call}
use Rattle.calls.specs.declared.call.Call.TheVariants.{Panel, Input, ReleaseDevice, Shortcut, Arbitrate, Close, Router, Read}
use Rattle.calls.specs.declared.call.CloseCall.{CloseCall}
use Rattle.calls.specs.declared.call.CloseCall.TheVariants as close
use Rattle.calls.specs.declared.call.InputCall.{InputCall}
use Rattle.calls.specs.declared.call.InputCall.TheVariants as input
use Rattle.calls.specs.declared.call.PanelCall.{PanelCall}
use Rattle.calls.specs.declared.call.PanelCall.TheVariants as panel
use Rattle.book.specs.Ids.{is_same_press, press_before}
use Rattle.book.specs.Book.{Asked, Told, Book, home_of, with_capture_in, with_capture, without_captures, is_of_device, is_on_panel, is_in_view, with_press, without_press, without_presses}
use Rattle.book.specs.Notes.{Change, opens, ends, leaves, is_changed, change, changed, changes, noted_attach, noted_panel, noted_input, noted_close, registered, noted, note}
use Rattle.book.specs.Owed.{Concern, nothing, device, view, everything, concern, is_same_press_of, is_same_release, is_among, panels_of, panel_by_panel, concerned_presses, then_captures, owed_presses, owed, without_concerned}
use Rattle.book.specs.Owed as owed
use Rattle.history.proofs.TestLaws.{presses}
use Rattle.history.proofs.OnceLaws.{release_is}
use Rattle.history.proofs.ListedLaws.{is_in, all_in, handle_swap}

-- ---- a press in lists that are put together, or that a test keeps
module _ (y : Binding) where
  pub among_front : (a b : List Binding) → is_among y a ≡ true → is_among y (a ++ b) ≡ true
  unfolding is_among
  among_front [] b h = clash refl (sym h)
  among_front (x ∷ a) b h = by_test (is_same_release y x) (λ t. rw t) (λ t. rw t (among_front a b (rw t at h)))

  pub among_back : (a b : List Binding) → is_among y b ≡ true → is_among y (a ++ b) ≡ true
  unfolding is_among
  among_back [] b h = h
  among_back (x ∷ a) b h = by_test (is_same_release y x) (λ t. rw t) (λ t. rw t (among_back a b h))

  pub among_kept : (p : Binding → Bool) (l : List Binding) → p y ≡ true → is_among y l ≡ true → is_among y (keep p l) ≡ true
  unfolding is_among
  among_kept p [] k h = h
  among_kept p (x ∷ l) k h = by_test (is_same_release y x)
      (λ t. let own : p x ≡ true = ap p (sym (release_is y x t)) ∙ k in rw own (rw t))
      (λ t. let rest = among_kept p l k (rw t at h) in by_test (p x) (λ q. rw q (rw t rest)) (λ q. rw q rest))

  -- what is not among those that pass does not pass
  fails : (p : Binding → Bool) (l : List Binding) → is_among y l ≡ true → is_among y (keep p l) ≡ false → p y ≡ false
  fails p l h n = by_test (p y) (λ t. clash (among_kept p l t h) n) (λ t. t)

  among_others : (p : Binding → Bool) (l : List Binding) → p y ≡ false → is_among y l ≡ true → is_among y (keep (λ x. not (p x)) l) ≡ true
  among_others p l n h = among_kept (λ x. not (p x)) l (ap not n) h

  -- a press on one of the panels is among their presses
  among_panels : (hs : List GenerationalHandle) (l : List Binding) → is_in hs y.surface ≡ true → is_among y l ≡ true → is_among y (panel_by_panel hs l) ≡ true
  unfolding panel_by_panel
  among_panels [] l k h = clash refl (sym k)
  among_panels (g ∷ hs) l k h = by_test (same_handle y.surface g)
      (λ t. among_front (keep (is_on_panel g) l) (panel_by_panel hs l) (among_kept (is_on_panel g) l (handle_swap g y.surface ∙ t) h))
      (λ t. among_back (keep (is_on_panel g) l) (panel_by_panel hs l) (among_panels hs l (rw t at k) h))

  among_all : (l : List Binding) → is_among y l ≡ true → is_among y (panel_by_panel (panels_of l) l) ≡ true
  unfolding is_among
  among_all l h = among_panels (panels_of l) l (all_among (λ x. is_in (panels_of l) x.surface) l (all_in l) h) h
    where
      all_among : (p : Binding → Bool) (m : List Binding) → all p m ≡ true → is_among y m ≡ true → p y ≡ true
      all_among p [] k h = clash refl (sym h)
      all_among p (x ∷ m) k h = by_test (is_same_release y x)
          (λ t. ap p (release_is y x t) ∙ and_left (p x) (all p m) k)
          (λ t. all_among p m (and_right (p x) (all p m) k) (rw t at h))

  -- ---- a change of another press
  change_keeps : (k : Change) (b : Book) → is_changed k y.key ≡ false → is_among y b.presses ≡ true → is_among y (changed k b).presses ≡ true
  unfolding changed with_press without_press
  change_keeps leaves b n h = h
  change_keeps (ends key) b n h = among_kept (λ x. not (is_same_press key x.key)) b.presses (ap not n) h
  change_keeps (opens key g) b n h =
      let new : Binding = record { key = key; surface = g } in
      let low = keep (λ x. press_before x.key key) b.presses in
      let high = keep (λ x. press_before key x.key) b.presses in
      by_test (press_before key y.key)
      (λ t. among_back low (new ∷ high) (among_back (new ∷ []) high (among_kept (λ x. press_before key x.key) b.presses t h)))
      (λ t. among_front low (new ∷ high) (among_kept (λ x. press_before x.key key) b.presses (presses.connex key y.key n t) h))

  change_homes : (k : Change) (b : Book) → (changed k b).homes ≡ b.homes
  unfolding changed with_press without_press
  change_homes leaves b = refl
  change_homes (ends key) b = refl
  change_homes (opens key g) b = refl

  -- ---- what is concerned and not listed
  concern_keeps : (c : Concern) (b after : Book) → after.homes ≡ b.homes → is_among y b.presses ≡ true → is_among y (concerned_presses c b) ≡ false
      → is_among y after.presses ≡ true → is_among y (without_concerned c after).presses ≡ true
  unfolding concerned_presses without_concerned without_captures without_presses
  concern_keeps nothing b after same h n k = k
  concern_keeps (device d) b after same h n k = among_others (is_of_device d) after.presses (fails (is_of_device d) b.presses h n) k
  concern_keeps (view v) b after same h n k =
      rw same (among_others (is_in_view b.homes v) after.presses (fails (is_in_view b.homes v) b.presses h n) k)
  concern_keeps (owed.panel g) b after same h n k = among_others (is_on_panel g) after.presses (fails (is_on_panel g) b.presses h n) k
  concern_keeps everything b after same h n k = clash (among_all b.presses h) n

-- ---- calls on the registry leave the presses
module _ (b : Book) where
  capture_presses : (o : Option GenerationalHandle) (p : CompositionPointerId) (h : GenerationalHandle) → (with_capture_in o p h b).presses ≡ b.presses
  capture_presses None p h = refl
  capture_presses (Some v) p h = refl

  attach_presses : (made : Option GenerationalHandle) (v : GenerationalHandle) → (noted_attach made v b).presses ≡ b.presses
  attach_presses None v = refl
  attach_presses (Some h) v = refl

  panel_presses : (call : PanelCall) (made : Option GenerationalHandle) → (noted_panel call made b).presses ≡ b.presses
  unfolding noted_panel
  panel_presses panel.CreateWindow made = refl
  panel_presses (panel.CloseWindow w) made = refl
  panel_presses (panel.CreateView w) made = refl
  panel_presses (panel.UpdateViewMetrics x) made = refl
  panel_presses (panel.CloseView v) made = refl
  panel_presses (panel.AttachSurface d) made = attach_presses made d.view
  panel_presses (panel.UpdateSurfaceGeometry x) made = refl
  panel_presses (panel.UpdateSurfaceInputPolicy x) made = refl

  input_presses : (call : InputCall) → (noted_input call b).presses ≡ b.presses
  unfolding noted_input with_capture without_captures
  input_presses (input.SetFocus x) = refl
  input_presses (input.CapturePointer x) = capture_presses (home_of x.handle b.homes) _ x.handle
  input_presses (input.CapturePointerFor x) = capture_presses (home_of x.surface b.homes) _ x.surface
  input_presses (input.ReleasePointer x) = refl
  input_presses (input.ReleasePointerFor x) = refl
  input_presses (input.BeginIme x) = refl
  input_presses (input.EndIme x) = refl
  input_presses (input.SuspendViewInput x) = refl

  close_presses : (call : CloseCall) → (noted_close call b).presses ≡ b.presses
  unfolding noted_close without_captures
  close_presses (close.CloseSurface h) = refl
  close_presses close.Shutdown = refl

-- ---- a call with its answer
module _ (a : Told) (b : Book) (y : Binding) (h : is_among y b.presses ≡ true) where
  noted_keeps : (c : Call) → is_changed (change c a) y.key ≡ false → is_among y (concerned_presses (concern c) b) ≡ false
      → is_among y (without_concerned (concern c) (changed (change c a) (registered c a b))).presses ≡ true
  unfolding change changed concern without_concerned registered without_captures
  noted_keeps (Panel call) n m = rw (panel_presses b call a.handle) h
  noted_keeps (Input call) n m = rw (input_presses b call) h
  noted_keeps (ReleaseDevice x) n m = h
  noted_keeps (Shortcut call) n m = h
  noted_keeps (Arbitrate x) n m = h
  noted_keeps (Close call) n m = rw (close_presses b call) h
  noted_keeps (Router call) n m =
      let k = change (Router call) a in
      concern_keeps y (concern (Router call)) b (changed k b) (change_homes y k b) h m (change_keeps y k b n h)
  noted_keeps (Read call) n m = h

  pub note_keeps : (x : Asked) → changes x a y.key ≡ false → is_among y (owed x a b) ≡ false → is_among y (note x a b).presses ≡ true
  unfolding changes owed owed_presses then_captures noted note
  note_keeps x n m = by_test (eqb a.number 0)
      (λ t. rw t (noted_keeps x.call (rw t at n) (not_front (concerned_presses (concern x.call) b) _ (rw t at m))))
      (λ t. rw t h)
    where
      not_front : (f g : List Binding) → is_among y (f ++ g) ≡ false → is_among y f ≡ false
      not_front f g q = by_test (is_among y f) (λ t. clash (among_front y f g t) q) (λ t. t)
