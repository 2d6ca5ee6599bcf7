-- Handles: their validity, equality and order.
use Rattle.std.specs.Prelude.{ℕ, Bool, true, false, not, ◌&&◌, eqb, Option, None, Some}
use Rattle.lists.specs.Orders.{pair_lt, pair_same}
use Rattle.handles.specs.declared.GenerationalHandle.{GenerationalHandle}

-- the handle of an index and a generation
abbrev pub handle_of : ℕ → ℕ → GenerationalHandle
handle_of i g = record { index = i; generation = g }

-- the handle that names no slot
abbrev pub invalid_handle : GenerationalHandle
invalid_handle = handle_of 4294967295 0

-- a handle that a slot could have issued: generation 0 and the index 4,294,967,295 are never issued
abbrev pub is_valid : GenerationalHandle → Bool
is_valid h = not (eqb h.generation 0) && not (eqb h.index 4294967295)

-- what tells handles apart: the index, then the generation
abbrev pub handle_key : GenerationalHandle → ℕ × ℕ
handle_key h = (h.index, h.generation)

-- the same index and the same generation
abbrev pub same_handle : GenerationalHandle → GenerationalHandle → Bool
same_handle a b = pair_same (handle_key a) (handle_key b)

-- the order of handles: by index, then by generation
abbrev pub handle_lt : GenerationalHandle → GenerationalHandle → Bool
handle_lt a b = pair_lt (handle_key a) (handle_key b)

-- the optional handle is this handle
abbrev pub holds_handle : Option GenerationalHandle → GenerationalHandle → Bool
holds_handle None h = false
holds_handle (Some g) h = same_handle g h

-- there is no handle
abbrev pub is_none : Option GenerationalHandle → Bool
is_none None = true
is_none (Some h) = false

-- two optional handles are the same: both none, or both the same handle
abbrev pub same_optional : Option GenerationalHandle → Option GenerationalHandle → Bool
same_optional a None = is_none a
same_optional a (Some h) = holds_handle a h
