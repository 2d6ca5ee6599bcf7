-- The fields of a call by their numbers, and at their places among its first 32 numbers.
use Rattle.std.specs.Prelude.{ℕ, ◌+◌, List, [], ◌∷◌, get_or, Option}
use Rattle.handles.specs.declared.GenerationalHandle.{GenerationalHandle}
use Rattle.maps.specs.declared.keys.CompositionPointerId.{CompositionPointerId}
use Rattle.call_fields.specs.Groups.{handle_of, optional_of, optional_numbers as optional_fields, pointer_of}

-- index, generation
abbrev pub handle_numbers : GenerationalHandle → List ℕ
handle_numbers h = h.index ∷ h.generation ∷ []

-- flag, index, generation
abbrev pub optional_numbers : Option GenerationalHandle → List ℕ
optional_numbers o = (optional_fields o).present ∷ (optional_fields o).index ∷ (optional_fields o).generation ∷ []

-- device, device generation, contact
abbrev pub pointer_numbers : CompositionPointerId → List ℕ
pointer_numbers p = p.device ∷ p.device_generation ∷ p.contact ∷ []

-- the same, read from a place
abbrev pub handle_at : List ℕ → ℕ → GenerationalHandle
handle_at l i = handle_of (get_or l i 0) (get_or l (i + 1) 0)

abbrev pub optional_at : List ℕ → ℕ → Option GenerationalHandle
optional_at l i = optional_of (record {
  present = get_or l i 0;
  index = get_or l (i + 1) 0;
  generation = get_or l
      (i + 2) 0;
})

abbrev pub pointer_at : List ℕ → ℕ → CompositionPointerId
pointer_at l i = pointer_of (get_or l i 0) (get_or l (i + 1) 0) (get_or l (i + 2) 0)
