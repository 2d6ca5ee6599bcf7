-- The answer of a call as numbers for a host: what `replay` shows in its columns 2 to 8, with how many entries stand
-- before each list.
use Rattle.handles.specs.declared.GenerationalHandle.{GenerationalHandle}
use Rattle.std.specs.Prelude.{ℕ, Option, None, Some}
use mathlib.Core.List.{List, [], ◌∷◌, ◌++◌, flatten, map}
use Rattle.lists.specs.Tables.{entries_of}
use Rattle.maps.specs.Bindings.{key_of_binding}
use Rattle.maps.specs.declared.bindings.Binding.{Binding}
use Rattle.maps.specs.declared.keys.MapKey.{MapKey}
use Rattle.release_lists.specs.Captures.{capture_list, CaptureList}
use Rattle.composition_arbitration.specs.declared.arbitrate.ArbitrationResult.{ArbitrationResult}
use Rattle.input_events.specs.RouterErrors.{router_number_of}
use Rattle.release_lists.specs.Releases.{Releases, releases}
use Rattle.calls.specs.declared.call.Call.{Call}
use Rattle.counter.specs.declared.answer.Answer.{Answer}
use Rattle.counter.specs.declared.step.Counter.{Counter}
use Rattle.answer_numbers.specs.Groups.{handle_numbers, optional_numbers, capture_numbers}
use Rattle.answer_numbers.specs.Numbers.{Number, plain, dumped_number, list_numbers, word}
use Rattle.answer_numbers.specs.Traces.{deliveries_numbers}
use Rattle.answer_more.specs.More.{more_of}
use Rattle.answer_columns.specs.Named.{handle_for}
use Rattle.answer_columns.specs.Pieces.{put_all}

-- what is released: 0 a pointer's cancel, 1 a key's up, 2 a gamepad's disconnect; device, generation; contact, key or 0
abbrev pub released_numbers : MapKey → List Number
released_numbers k = plain k.kind ∷ plain k.device ∷ plain k.generation ∷ plain k.code ∷ []

-- a release: six numbers whatever its kind, the last two H of its panel
abbrev pub release_numbers : Binding → List Number
release_numbers e = released_numbers (key_of_binding e) ++ handle_numbers e.surface

-- the releases of a report: how many, and each
abbrev pub releases_numbers : Releases → List Number
releases_numbers l = list_numbers release_numbers (entries_of releases l)

-- the captures of a device that are let go: how many, and each
abbrev pub captures_numbers : CaptureList → List Number
captures_numbers l = list_numbers capture_numbers (entries_of capture_list l)

-- the consumer, and the deliveries
abbrev pub arbitration_numbers : ArbitrationResult → List Number
arbitration_numbers x = optional_numbers x.consumed_by ++ deliveries_numbers x.deliveries

-- the answer's number, the revision after the call, the arbitration, the releases, the captures, the handle that is
-- named
abbrev pub answer_numbers : ℕ → Answer → Option GenerationalHandle → List Number
answer_numbers revision a named =
    plain (router_number_of a.outcome)
    ∷ plain revision
    ∷ (arbitration_numbers a.report.arbitration
    ++ (releases_numbers a.report.synthesized_releases
    ++ (captures_numbers a.listed.captures ++ optional_numbers named)))

-- what a call shows, and nothing where it shows nothing
abbrev pub shown_numbers : Option (List Number) → List Number
shown_numbers None = []
shown_numbers (Some l) = l

-- the words of an answer: its own numbers, then what the call shows; a signed number has 2^31 added
unfoldable pub answer_words : Call → Answer → Counter → List ℕ
answer_words call a k =
    map dumped_number (answer_numbers k.registry.revision a (handle_for call a) ++ shown_numbers (more_of call a k))

-- the bytes of words, eight each
unfoldable pub bytes_of : List ℕ → List ℕ
bytes_of l = flatten (map word l)

-- an answer's words from the front of a buffer on, and the place behind them
unfoldable pub answer_placed : Call → Answer → Counter → List ℕ → List ℕ × ℕ
answer_placed call a k buf = put_all (map word (answer_words call a k)) (buf, 0)
