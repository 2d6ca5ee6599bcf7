-- A device is accepted among the known ones exactly if it has a place.
use Rattle.std.specs.Prelude.{Option, None, Some}
use mathlib.Core.Path.{◌≡◌, refl, ap, ◌∙◌}
use mathlib.Core.Bool.{Bool, true, ◌||◌}
use lib.Dec.{ltb}
use lib.ListN.{length}
use Rattle.lists.specs.Tables.{entries_of}
use Rattle.lists.proofs.ListLaws.{by_test}
use Rattle.maps.specs.MapTables.{is_some, found, accepts, inserted}
use Rattle.maps.specs.Sequences.{sequences, sequence_key, sequence_of, DeviceSequences}
use Rattle.maps.specs.declared.sequences.DeviceSequence.{DeviceSequence}
use Rattle.input_router.specs.Order.{has_place_with}

module _ (e : DeviceSequence) (t : DeviceSequences) where
  abbrev place : Bool
  place = has_place_with (sequence_of (found sequences sequence_key (sequence_key e) t)) (length (entries_of sequences t))

  pub place_is : accepts sequences sequence_key e t ≡ place
  place_is = go (found sequences sequence_key (sequence_key e) t)
    where
      go : (o : Option DeviceSequence) → (is_some o || ltb (length (entries_of sequences t)) 32) ≡ has_place_with (sequence_of o) (length (entries_of sequences t))
      go None = refl
      go (Some f) = refl
