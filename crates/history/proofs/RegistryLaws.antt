-- Every call on the registry is right: it lists nothing, a refusal changes nothing, and the book follows an accepted call as the registry's theorem says.
use Rattle.std.specs.Prelude.{Option, None, Some, Result, Ok, Err}
use Rattle.std.specs.Result.{result_and}
use mathlib.Core.Path.{◌≡◌, refl, sym, ◌∙◌}
use mathlib.Core.Bool.{Bool, true, not}
use mathlib.Core.List.{[]}
use Rattle.lists.specs.Maps.{rising}
use Rattle.lists.proofs.RisingLaws.{rising_keep, rising_insert}
use Rattle.lists.proofs.TableLaws.{entries_packed}
use Rattle.handles.specs.declared.GenerationalHandle.{GenerationalHandle}
use Rattle.maps.specs.declared.keys.CompositionPointerId.{CompositionPointerId}
use Rattle.composition_state.specs.declared.registry.CompositionRegistry.{CompositionRegistry}
use Rattle.composition_input.specs.Captures.{primary, release_device_pointer_captures}
use Rattle.composition_input.proofs.ClaimLaws as inputs
use Rattle.records.specs.declared.error.CompositionError.{CompositionError}
use Rattle.records.specs.Errors.{Outcome}
use Rattle.composition_arbitration.specs.declared.arbitrate.ArbitrationResult.{ArbitrationResult}
use Rattle.composition_state.specs.Registry.{outcome_of}
use Rattle.composition_arbitration.specs.Arbitration.{arbitrated}
use Rattle.composition_arbitration.proofs.CallClaimLaws as arbitration
use Rattle.composition_close.specs.Close.{close_surface}
use Rattle.composition_close.proofs.ClaimLaws as closes
use Rattle.composition_soundness.specs.Claims.{Undamaged}
use Rattle.release_lists.specs.Releases.{releases}
use Rattle.calls.specs.declared.arguments.ArbitrateArguments.{ArbitrateArguments}
use Rattle.calls.specs.declared.arguments.DeviceArguments.{DeviceArguments}
use Rattle.calls.specs.declared.call.Call.{Call}
use Rattle.calls.specs.declared.call.Call.TheVariants.{Panel, Input, ReleaseDevice, Shortcut, Arbitrate, Close, Read}
use Rattle.calls.specs.declared.call.CloseCall.TheVariants.{CloseSurface}
use Rattle.calls.specs.declared.call.InputCall.{InputCall}
use Rattle.calls.specs.declared.call.InputCall.TheVariants as input
use Rattle.calls.specs.declared.call.Lists.{Lists}
use Rattle.calls.specs.declared.call.PanelCall.{PanelCall}
use Rattle.calls.specs.declared.call.PanelCall.TheVariants as panel
use Rattle.calls.specs.declared.call.ReadCall.{ReadCall}
use Rattle.calls.specs.declared.call.ShortcutCall.{ShortcutCall}
use Rattle.book.specs.Book.{Asked, Held, Book, held_place, place_before, home_of, is_held_by_device, is_held_on_panel, with_capture_in, with_capture, without_captures}
use Rattle.book.specs.Notes.{change, changed, noted_attach, noted_panel, noted_input, noted_close, registered, noted}
use Rattle.book.specs.Owed.{concern, without_concerned}
use Rattle.read_step.specs.Reads.{read_step, outcome_of as read_outcome}
use Rattle.registry_step.specs.Steps.{panel_step, input_step, shortcut_step}
use Rattle.registry_step.proofs.StepLaws.{panel_settles, input_settles, shortcut_settles}
use Rattle.registry_book.specs.Agreement.{Agrees, Follows}
use Rattle.registry_book.specs.MapTests.{map_place}
use Rattle.registry_book.proofs.ClaimLaws as registry
use Rattle.counter.specs.declared.step.Counter.{Counter}
use Rattle.counter.specs.Answers.{arbitration_alone}
use Rattle.counter.specs.Step.{close_step, stepped}
use Rattle.history.specs.Histories.{Entry, entry_of}
use Rattle.history.proofs.TestLaws.{capture_is}
use Rattle.history.proofs.OnceLaws.{places}
use Rattle.history.proofs.JoinLaws.{Joined, Right, Allowed, still_hosted, hosted_but, registry_right}

-- ---- the book follows an accepted call
module _ (r : CompositionRegistry) (u : Undamaged r) (b : Book) (a : Agrees r b) where
  input_follows : (call : InputCall) → (input_step r call).outcome ≡ Ok tt → Follows r (input_step r call).registry (noted_input call b)
  unfolding input_step noted_input
  input_follows (input.SetFocus x) q = (registry.claims).focus r b x.view x.surface x.revision u a q
  input_follows (input.CapturePointer x) q = rw (sym (capture_is primary x.handle b)) ((registry.claims).capture r b primary x.handle x.revision u a q)
  input_follows (input.CapturePointerFor x) q = rw (sym (capture_is x.pointer x.surface b)) ((registry.claims).capture r b x.pointer x.surface x.revision u a q)
  input_follows (input.ReleasePointer x) q = (registry.claims).release r b x.handle x.revision u a q
  input_follows (input.ReleasePointerFor x) q = (registry.claims).release_for_lem r b x.pointer x.surface x.revision u a q
  input_follows (input.BeginIme x) q = (registry.claims).begin_ime_lem r b x.handle x.revision u a q
  input_follows (input.EndIme x) q = (registry.claims).end_ime_lem r b x.handle x.revision u a q
  input_follows (input.SuspendViewInput x) q = (registry.claims).suspend r b x.handle x.revision u a q

-- ---- these calls leave the presses, and the captures in order
pub record Quiet (b after : Book) : Type 0 where
  pub presses : after.presses ≡ b.presses
  pub captures_rise : rising held_place place_before after.captures ≡ true

module _ (b : Book) (rise : rising held_place place_before b.captures ≡ true) where
  pub same_quiet : Quiet b b
  same_quiet = record { presses = refl; captures_rise = rise }

  drop_quiet : (p : Held → Bool) → Quiet b (without_captures p b)
  unfolding without_captures
  drop_quiet p = record { presses = refl; captures_rise = rising_keep map_place places (λ x. not (p x)) b.captures rise }

  in_quiet : (o : Option GenerationalHandle) (p : CompositionPointerId) (h : GenerationalHandle) → Quiet b (with_capture_in o p h b)
  in_quiet None p h = same_quiet
  in_quiet (Some view) p h = record { presses = refl; captures_rise = rising_insert map_place places _ b.captures rise }

  capture_quiet : (p : CompositionPointerId) (h : GenerationalHandle) → Quiet b (with_capture p h b)
  unfolding with_capture
  capture_quiet p h = in_quiet (home_of h b.homes) p h

  attach_quiet : (made : Option GenerationalHandle) (view : GenerationalHandle) → Quiet b (noted_attach made view b)
  attach_quiet None view = same_quiet
  attach_quiet (Some h) view = record { presses = refl; captures_rise = rise }

  panel_quiet : (call : PanelCall) (made : Option GenerationalHandle) → Quiet b (noted_panel call made b)
  unfolding noted_panel
  panel_quiet panel.CreateWindow made = same_quiet
  panel_quiet (panel.CloseWindow w) made = same_quiet
  panel_quiet (panel.CreateView w) made = same_quiet
  panel_quiet (panel.UpdateViewMetrics x) made = same_quiet
  panel_quiet (panel.CloseView v) made = same_quiet
  panel_quiet (panel.AttachSurface d) made = attach_quiet made d.view
  panel_quiet (panel.UpdateSurfaceGeometry x) made = same_quiet
  panel_quiet (panel.UpdateSurfaceInputPolicy x) made = same_quiet

  input_quiet : (call : InputCall) → Quiet b (noted_input call b)
  unfolding noted_input
  input_quiet (input.SetFocus x) = same_quiet
  input_quiet (input.CapturePointer x) = capture_quiet primary x.handle
  input_quiet (input.CapturePointerFor x) = capture_quiet x.pointer x.surface
  input_quiet (input.ReleasePointer x) = drop_quiet _
  input_quiet (input.ReleasePointerFor x) = drop_quiet _
  input_quiet (input.BeginIme x) = same_quiet
  input_quiet (input.EndIme x) = same_quiet
  input_quiet (input.SuspendViewInput x) = drop_quiet _

pub follow : (c : Counter) (b b' : Book) (after : CompositionRegistry) → Joined None c b → Follows c.registry after b' → Quiet b b' → Joined None (record { registry = after; router = c.router }) b'
follow c b b' after j f q = record {
  shared = record { agrees = f.agrees; captures_rise = q.captures_rise };
  own = record {
    presses = j.own.presses ∙ sym q.presses;
    hosted = still_hosted c.registry after b'.presses f.keeps (rw q.presses j.own.hosted);
  };
}

-- a refusal is that of the answer with its value
refused_whole : {T : Type 0} (o : Result T CompositionError) (e : CompositionError) → ◌≡◌ {A = Outcome} (result_and o (Ok tt)) (Err e) → o ≡ Err e
refused_whole (Ok _) e q = cc
refused_whole (Err f) e q = cc

-- ---- each kind of call
abbrev pub ask : Call → Lists → Asked
ask call l = record { call = call; lists = l }

abbrev pub entry : Counter → Call → Lists → Entry
entry c call l = entry_of (ask call l) (stepped c call l).answer

-- a call that the premises leave is right
abbrev pub Goes : Counter → Book → Call → Lists → Type 0
Goes c b call l = Allowed (entry c call l) → Right (entry c call l) b (stepped c call l).counter

module _ (c : Counter) (b : Book) (u : Undamaged c.registry) (j : Joined None c b) (l : Lists) where
  pub panel_goes : (call : PanelCall) → Goes c b (Panel call) l
  unfolding stepped concern change changed registered without_concerned noted
  panel_goes call a =
      let x = panel_step c.registry call in
      registry_right c b j (entry c (Panel call) l) a x.registry (entries_packed releases []) x.outcome refl refl
      (λ e q n m. (panel_settles c.registry call).refused e q n)
      (λ q. follow c b (noted_panel call x.handle b) x.registry j ((registry.claims).panel c.registry b call u j.shared.agrees q) (panel_quiet b j.shared.captures_rise call x.handle))

  pub input_goes : (call : InputCall) → Goes c b (Input call) l
  unfolding stepped concern change changed registered without_concerned noted
  input_goes call a =
      let x = input_step c.registry call in
      registry_right c b j (entry c (Input call) l) a x.registry (entries_packed releases []) x.outcome refl refl
      (λ e q n m. (input_settles c.registry call).refused e q n)
      (λ q. follow c b (noted_input call b) x.registry j (input_follows c.registry u b j.shared.agrees call q) (input_quiet b j.shared.captures_rise call))

  pub device_goes : (d : DeviceArguments) → Goes c b (ReleaseDevice d) l
  unfolding stepped concern change changed registered without_concerned noted
  device_goes d a =
      let x = release_device_pointer_captures c.registry d.device d.device_generation in
      let p : Held → Bool = is_held_by_device (record { value = d.device; generation = d.device_generation }) in
      registry_right c b j (entry c (ReleaseDevice d) l) a x.registry (entries_packed releases []) (outcome_of x) refl refl
      (λ e q n m. ((inputs.claims).release_device_pointer_captures_lem c.registry d.device d.device_generation).refused e (refused_whole x.outcome e q) n)
      (λ q. follow c b (without_captures p b) x.registry j ((registry.claims).device c.registry b d.device d.device_generation u j.shared.agrees q) (drop_quiet b j.shared.captures_rise p))

  pub shortcut_goes : (call : ShortcutCall) → Goes c b (Shortcut call) l
  unfolding stepped concern change changed registered without_concerned noted
  shortcut_goes call a =
      let x = shortcut_step c.registry call l.registrations in
      registry_right c b j (entry c (Shortcut call) l) a x.registry (entries_packed releases []) x.outcome refl refl
      (λ e q n m. (shortcut_settles c.registry call l.registrations).refused e q n)
      (λ q. follow c b b x.registry j ((registry.claims).shortcut c.registry b call l.registrations u j.shared.agrees q) (same_quiet b j.shared.captures_rise))

  pub arbitrate_goes : (d : ArbitrateArguments) → Goes c b (Arbitrate d) l
  unfolding stepped concern change changed registered without_concerned noted arbitration_alone
  arbitrate_goes d a =
      let x = arbitrated c.registry d.view d.event l.hits in
      registry_right c b j (entry c (Arbitrate d) l) a x.registry (entries_packed releases []) (outcome_of x) refl refl
      (λ e q n m. arbitration.refused c.registry d.view d.event l.hits e (refused_whole x.outcome e q))
      (λ q. follow c b b x.registry j ((registry.claims).arbitrate c.registry b d.view d.event l.hits u j.shared.agrees q) (same_quiet b j.shared.captures_rise))

  -- the panel that closes may still have presses in the router
  pub close_goes : (h : GenerationalHandle) → Goes c b (Close (CloseSurface h)) l
  unfolding stepped close_step concern change changed registered without_concerned noted noted_close
  close_goes h a =
      let x = close_surface c.registry h in
      registry_right c b j (entry c (Close (CloseSurface h)) l) a x.registry (entries_packed releases []) (outcome_of x) refl refl
      ((closes.claims).close c.registry h).refused
      (λ q.
      let f = (registry.claims).close c.registry b h u j.shared.agrees q in
      let s = drop_quiet b j.shared.captures_rise (is_held_on_panel h) in
      record {
        shared = record { agrees = f.0; captures_rise = s.captures_rise };
        own = record {
          presses = j.own.presses ∙ sym s.presses;
          hosted = hosted_but h c.registry x.registry (without_captures (is_held_on_panel h) b).presses f.1 (rw s.presses j.own.hosted);
        };
      })

  -- a call that alters nothing, accepted or refused
  pub read_goes : (call : ReadCall) → Goes c b (Read call) l
  unfolding stepped concern change changed registered without_concerned noted
  read_goes call a =
      registry_right c b j (entry c (Read call) l) a c.registry (entries_packed releases []) (read_outcome (read_step c.registry c.router call)) refl refl (λ e q n m. refl) (λ q. j)
