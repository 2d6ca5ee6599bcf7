-- The whole registry as numbers: its dump.
use Rattle.std.specs.Prelude.{List, [], ◌∷◌, ◌++◌}
use Rattle.handles.specs.declared.arena.Arena.{Arena}
use Rattle.records.specs.Shortcuts.{Shortcuts}
use Rattle.records.specs.Surfaces.{SurfaceTable}
use Rattle.records.specs.Views.{ViewTable}
use Rattle.composition_state.specs.declared.registry.CompositionLimits.{CompositionLimits}
use Rattle.composition_state.specs.declared.registry.CompositionRegistry.{CompositionRegistry}
use Rattle.answer_numbers.specs.Groups.{handle_numbers}
use Rattle.answer_numbers.specs.Numbers.{Number, plain}
use Rattle.answer_numbers.specs.Arenas.{windows_numbers}
use Rattle.answer_numbers.specs.Views.{views_numbers}
use Rattle.answer_numbers.specs.Panels.{panels_numbers}
use Rattle.answer_numbers.specs.Traces.{traces_numbers}

-- the limits: windows, views, panels, panels a view, traces
abbrev pub limits_numbers : CompositionLimits → List Number
limits_numbers l =
    plain l.max_windows ∷ plain l.max_views ∷ plain l.max_surfaces ∷ plain l.max_surfaces_per_view
    ∷ plain l.max_trace_entries ∷ []

-- the arenas of windows, views and panels
abbrev pub tables_numbers : Arena → ViewTable → SurfaceTable → Shortcuts → List Number
tables_numbers windows views surfaces shortcuts =
    windows_numbers windows ++ (views_numbers views ++ panels_numbers surfaces shortcuts)

-- the registry: session H, epoch, the 5 limits, first slot generation, revision; the arenas; the traces
abbrev pub registry_numbers : CompositionRegistry → List Number
registry_numbers r =
    handle_numbers r.session
    ++ (plain r.session_epoch
    ∷ (limits_numbers r.limits
    ++ (plain r.first_generation
    ∷ plain r.revision
    ∷ (tables_numbers r.windows r.views r.surfaces r.shortcuts ++ traces_numbers r.traces))))

-- what `counts` shows: session H, epoch, revision, live windows, live views, live panels
abbrev pub counts_numbers : CompositionRegistry → List Number
counts_numbers r =
    handle_numbers r.session
    ++ (plain r.session_epoch ∷ plain r.revision ∷ plain r.windows.live ∷ plain r.views.arena.live
    ∷ plain r.surfaces.arena.live ∷ [])
