-- RULES.md, Desk: columns 1 to 6 of an answer line.
use Rattle.std.specs.Prelude.{ℕ, Bool, true, false, cond, List, [], ◌∷◌, ◌++◌, eqb, length}
use Rattle.lists.specs.Tables.{entries_of}
use Rattle.maps.specs.declared.bindings.Binding.{Binding}
use Rattle.maps.specs.declared.captures.Capture.{Capture}
use Rattle.maps.specs.declared.keys.BindingKey.{BindingKey}
use Rattle.maps.specs.declared.keys.BindingKey.TheVariants.{Pointer, Key, Gamepad}
use Rattle.records.specs.declared.trace.InputDelivery.{InputDelivery}
use Rattle.records.specs.Traces.{deliveries}
use Rattle.release_lists.specs.Captures.{CaptureList, capture_list}
use Rattle.composition_arbitration.specs.declared.arbitrate.ArbitrationResult.{ArbitrationResult}
use Rattle.input_events.specs.RouterErrors.{router_number_of}
use Rattle.release_lists.specs.Releases.{Releases, releases, capture_release}
use Rattle.counter.specs.declared.answer.Answer.{Answer}
use Rattle.answer_columns.specs.Pieces.{space_pieces, cell_pieces, pair_pieces, triple_pieces, handle_pieces, optional_pieces, list_pieces}

-- `o` (111) behind an observed delivery
abbrev pub observed_pieces : Bool → List (List ℕ)
observed_pieces true = (111 ∷ []) ∷ []
observed_pieces false = []

abbrev pub delivery_pieces : InputDelivery → List (List ℕ)
delivery_pieces d = handle_pieces d.surface ++ observed_pieces d.observed

-- what is released: P (80) a pointer's cancel, K (75) a key's up, G (71) a gamepad's disconnect
abbrev pub key_pieces : BindingKey → List (List ℕ)
key_pieces (Pointer p) = (80 ∷ []) ∷ triple_pieces p.device p.device_generation p.contact
key_pieces (Key k) = (75 ∷ []) ∷ triple_pieces k.device.value k.device.generation k.physical_key
key_pieces (Gamepad d) = (71 ∷ []) ∷ pair_pieces d.value d.generation

-- and, behind `@` (64), the panel that it is released for
abbrev pub release_pieces : Binding → List (List ℕ)
release_pieces e = key_pieces e.key ++ ((64 ∷ []) ∷ handle_pieces e.surface)

-- a capture that is let go is its pointer's cancel
abbrev pub capture_pieces : Capture → List (List ℕ)
capture_pieces c = release_pieces (capture_release c)

-- column 6: a release of a device's captures lists them, any other call the releases of its report
unfoldable pub releases_column : Releases → CaptureList → List (List ℕ)
releases_column l held =
    cond (eqb (length (entries_of capture_list held)) 0)
    (list_pieces release_pieces (entries_of releases l))
    (list_pieces capture_pieces (entries_of capture_list held))

-- columns 1 to 3: the number of the call, the answer, the revision after the call
abbrev pub number_pieces : ℕ → ℕ → ℕ → List (List ℕ)
number_pieces calls number revision = cell_pieces calls ++ cell_pieces number ++ cell_pieces revision

-- columns 4 and 5: the consumer and the deliveries
abbrev pub arbitration_pieces : ArbitrationResult → List (List ℕ)
arbitration_pieces a =
    optional_pieces a.consumed_by ++ space_pieces ++ list_pieces delivery_pieces (entries_of deliveries a.deliveries)

-- columns 1 to 6, with a space between
unfoldable pub column_pieces : ℕ → ℕ → Answer → List (List ℕ)
column_pieces calls revision a =
    number_pieces calls (router_number_of a.outcome) revision
    ++ arbitration_pieces a.report.arbitration
    ++ space_pieces
    ++ releases_column a.report.synthesized_releases a.listed.captures
