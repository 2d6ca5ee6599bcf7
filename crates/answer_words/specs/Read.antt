-- What a host reads: the words from an answer's bytes, and the releases from its words.
use Rattle.std.specs.Prelude.{ℕ, zero, suc, ◌+◌, ◌*◌, cond, List, [], ◌∷◌, eqb, get_or, take, drop}
use Rattle.handles.specs.Handles.{handle_of}
use Rattle.maps.specs.declared.bindings.Binding.{Binding}
use Rattle.maps.specs.declared.keys.BindingKey.{BindingKey}
use Rattle.maps.specs.declared.keys.BindingKey.TheVariants.{Pointer, Key, Gamepad}
use Rattle.maps.specs.declared.keys.InputDeviceId.{InputDeviceId}

-- the number that bytes are, the low byte first
abbrev pub number_read : List ℕ → ℕ
number_read [] = 0
number_read (b ∷ l) = b + 256 * number_read l

-- n words, eight bytes each
unfoldable pub words_read : ℕ → List ℕ → List ℕ
words_read zero l = []
words_read (suc n) l = number_read (take 8 l) ∷ words_read n (drop 8 l)

-- a device: its number and its generation
abbrev pub device_read : ℕ → ℕ → InputDeviceId
device_read device generation = record { value = device; generation = generation }

-- what is released, by its kind: 0 a pointer, 1 a key, else a gamepad, whose code is not read
abbrev pub key_read : ℕ → ℕ → ℕ → ℕ → BindingKey
key_read kind device generation code =
    cond (eqb kind 0) (Pointer (record { device = device; device_generation = generation; contact = code }))
    (cond (eqb kind 1) (Key (record { device = device_read device generation; physical_key = code }))
    (Gamepad (device_read device generation)))

-- the release that six words are: kind, device, generation, code, and the index and generation of its panel
abbrev pub release_read : List ℕ → Binding
release_read l = record {
  key = key_read (get_or l 0 0) (get_or l 1 0) (get_or l 2 0) (get_or l 3 0);
  surface = handle_of (get_or l 4 0) (get_or l 5 0);
}

-- n releases, one behind the other
unfoldable pub releases_in : ℕ → List ℕ → List Binding
releases_in zero l = []
releases_in (suc n) l = release_read l ∷ releases_in n (drop 6 l)

-- a list of releases: how many, and six words for each
abbrev pub releases_from : List ℕ → List Binding
releases_from l = releases_in (get_or l 0 0) (drop 1 l)

-- the words behind the deliveries: number, revision and consumer are five, then come how many and three words for each
abbrev pub behind_deliveries : List ℕ → List ℕ
behind_deliveries l = drop (3 * get_or l 5 0) (drop 6 l)

-- the releases that an answer's words list
unfoldable pub releases_read : List ℕ → List Binding
releases_read l = releases_from (behind_deliveries l)
