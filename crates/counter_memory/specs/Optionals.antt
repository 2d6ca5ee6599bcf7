-- Optional handles and rectangles: a flag and the value, which is all zeros where there is none.
use Rattle.handles.specs.declared.GenerationalHandle.{GenerationalHandle}
use Rattle.std.specs.Prelude.{true, false, cond, pos, Option, None, Some}
use Rattle.geometry.specs.declared.rect.SurfaceRect.{SurfaceRect}
use Rattle.handles.specs.Handles.{handle_of}
use Rattle.counter_memory.specs.declared.optionals.OptionalHandleMemory.{OptionalHandleMemory}
use Rattle.counter_memory.specs.declared.optionals.OptionalRectMemory.{OptionalRectMemory}

-- the value where there is one, and zeros where there is none
abbrev pub optional_handle_memory : Option GenerationalHandle → OptionalHandleMemory
optional_handle_memory None = record { is_some = false; handle = handle_of 0 0 }
optional_handle_memory (Some h) = record { is_some = true; handle = h }

abbrev pub no_rect : SurfaceRect
no_rect = record { x_milli = pos 0; y_milli = pos 0; width_milli = 0; height_milli = 0 }

abbrev pub optional_rect_memory : Option SurfaceRect → OptionalRectMemory
optional_rect_memory None = record { is_some = false; rect = no_rect }
optional_rect_memory (Some r) = record { is_some = true; rect = r }

-- beside a false flag the value is not read
abbrev pub optional_handle_of : OptionalHandleMemory → Option GenerationalHandle
optional_handle_of m = cond m.is_some (Some m.handle) None

abbrev pub optional_rect_of : OptionalRectMemory → Option SurfaceRect
optional_rect_of m = cond m.is_some (Some m.rect) None
