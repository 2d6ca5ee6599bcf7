-- The router's calls, as numbers 23 to 25: an event is its header, then its payload.
use Rattle.std.specs.Prelude.{ℕ, cond, List, [], ◌∷◌, ◌++◌, eqb, get_or}
use Rattle.input_events.specs.declared.event.InputModifiers.{InputModifiers}
use Rattle.input_events.specs.declared.event.PlatformInputHeader.{PlatformInputHeader}
use Rattle.calls.specs.declared.call.RouterCall.{RouterCall}
use Rattle.calls.specs.declared.call.RouterCall.TheVariants.{Route, ReleaseSurface, ReleaseAll}
use Rattle.call_fields.specs.EventChoices.{device_kind_of, device_kind_number}
use Rattle.call_fields.specs.Groups.{device_of}
use Rattle.call_fields.specs.Narrow.{is_one, one_if}
use Rattle.call_numbers.specs.Payloads.{payload_numbers, payload_at}
use Rattle.call_numbers.specs.Words.{handle_numbers, handle_at}

-- shift, control, alt, meta, caps lock, num lock
abbrev pub modifiers_numbers : InputModifiers → List ℕ
modifiers_numbers m =
    one_if m.shift ∷ one_if m.control ∷ one_if m.alt ∷ one_if m.meta ∷ one_if m.caps_lock
    ∷ one_if m.num_lock ∷ []

unfoldable pub modifiers_at : List ℕ → InputModifiers
modifiers_at l = record {
  shift = is_one (get_or l 11 0);
  control = is_one (get_or l 12 0);
  alt = is_one (get_or l 13 0);
  meta = is_one (get_or l 14 0);
  caps_lock = is_one (get_or l 15 0);
  num_lock = is_one (get_or l 16 0);
}

-- sequence, time, metrics revision, window, view, device, its kind, modifiers
abbrev pub header_numbers : PlatformInputHeader → List ℕ
header_numbers h =
    h.sequence ∷ h.timestamp_micros ∷ h.metrics_revision ∷ h.window.index ∷ h.window.generation
    ∷ h.view.index ∷ h.view.generation
    ∷ h.device.value ∷ h.device.generation ∷ device_kind_number h.device_kind ∷ modifiers_numbers h.modifiers

unfoldable pub header_at : List ℕ → PlatformInputHeader
header_at l = record {
  sequence = get_or l 1 0;
  timestamp_micros = get_or l 2 0;
  metrics_revision = get_or l 3 0;
  window = handle_at l 4;
  view = handle_at l 6;
  device = device_of (get_or l 8 0) (get_or l 9 0);
  device_kind = device_kind_of (get_or l 10 0);
  modifiers = modifiers_at l;
}

unfoldable pub router_numbers : RouterCall → List ℕ
router_numbers (Route e) = 23 ∷ header_numbers e.header ++ payload_numbers e.payload
router_numbers (ReleaseSurface h) = 24 ∷ handle_numbers h
router_numbers ReleaseAll = 25 ∷ []

-- the call of a number; any past the last is read as the last
unfoldable pub router_at : List ℕ → RouterCall
router_at l =
    cond (eqb (get_or l 0 0) 23) (Route (record { header = header_at l; payload = payload_at l }))
    (cond (eqb (get_or l 0 0) 24) (ReleaseSurface (handle_at l 1)) ReleaseAll)
