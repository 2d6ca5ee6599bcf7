-- The calls that alter nothing, as numbers 26 to 36 with their fields.
use Rattle.std.specs.Prelude.{ℕ, cond, List, [], ◌∷◌, ◌++◌, eqb, get_or}
use Rattle.calls.specs.declared.call.ReadCall.{ReadCall}
use Rattle.calls.specs.declared.call.ReadCall.TheVariants.{ViewWindow, ViewMetrics, ViewInputState, ViewPointerCaptures, SurfaceDescriptor, ViewLayers, Traces, Counts, ActiveBindingCount, HitTestStack, InversePoint}
use Rattle.call_numbers.specs.Geometries.{transform_numbers, transform_at, point_numbers, point_at}
use Rattle.call_numbers.specs.Words.{handle_numbers, handle_at}

unfoldable pub read_numbers : ReadCall → List ℕ
read_numbers (ViewWindow h) = 26 ∷ handle_numbers h
read_numbers (ViewMetrics h) = 27 ∷ handle_numbers h
read_numbers (ViewInputState h) = 28 ∷ handle_numbers h
read_numbers (ViewPointerCaptures h) = 29 ∷ handle_numbers h
read_numbers (SurfaceDescriptor h) = 30 ∷ handle_numbers h
read_numbers (ViewLayers h) = 31 ∷ handle_numbers h
read_numbers Traces = 32 ∷ []
read_numbers Counts = 33 ∷ []
read_numbers ActiveBindingCount = 34 ∷ []
read_numbers (HitTestStack a) = 35 ∷ handle_numbers a.view ++ point_numbers a.point ++ a.length ∷ []
read_numbers (InversePoint a) = 36 ∷ transform_numbers a.transform ++ point_numbers a.point

-- the call of a number; any past the last is read as the last
unfoldable pub read_at : List ℕ → ReadCall
read_at l =
    cond (eqb (get_or l 0 0) 26) (ViewWindow (handle_at l 1))
    (cond (eqb (get_or l 0 0) 27) (ViewMetrics (handle_at l 1))
    (cond (eqb (get_or l 0 0) 28) (ViewInputState (handle_at l 1))
    (cond (eqb (get_or l 0 0) 29) (ViewPointerCaptures (handle_at l 1))
    (cond (eqb (get_or l 0 0) 30) (SurfaceDescriptor (handle_at l 1))
    (cond (eqb (get_or l 0 0) 31) (ViewLayers (handle_at l 1))
    (cond (eqb (get_or l 0 0) 32) Traces
    (cond (eqb (get_or l 0 0) 33) Counts
    (cond (eqb (get_or l 0 0) 34) ActiveBindingCount
    (cond (eqb (get_or l 0 0) 35)
    (HitTestStack (record { view = handle_at l 1; point = point_at l 3; length = get_or l 5 0 }))
    (InversePoint (record { transform = transform_at l 1; point = point_at l 7 })))))))))))
