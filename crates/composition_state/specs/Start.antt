-- RULES.md, Start: 2 (invalid session or epoch 0), 1 (a limit is 0), 41; and the registry that it makes.
use Rattle.std.specs.Result.{result_and}
use Rattle.std.specs.Prelude.{ℕ, Bool, cond, not, ◌||◌, [], replicate, ltb, eqb, is_ok, Ok}
use Rattle.lists.specs.Tables.{packed}
use Rattle.handles.specs.Handles.{handle_of, is_valid}
use Rattle.handles.specs.Slots.{empty_arena}
use Rattle.handles.specs.declared.GenerationalHandle.{GenerationalHandle}
use Rattle.records.specs.declared.error.CompositionError.TheVariants.{InvalidConfig, InvalidOwner, PortLimit}
use Rattle.composition_state.specs.declared.registry.CompositionLimits.{CompositionLimits}
use Rattle.composition_state.specs.declared.registry.CompositionRegistry.{CompositionRegistry}
use Rattle.composition_state.specs.Registry.{Changed}
use Rattle.records.specs.Errors.{refusal_if, Outcome}
use Rattle.records.specs.Surfaces.{no_surface}
use Rattle.records.specs.Views.{no_view}
use Rattle.records.specs.Shortcuts.{shortcuts}
use Rattle.records.specs.Traces.{traces}
use Rattle.composition_state.specs.Registry.{answered}

abbrev pub any_zero : CompositionLimits → Bool
any_zero l =
    eqb l.max_windows 0
    || (eqb l.max_views 0
    || (eqb l.max_surfaces 0 || (eqb l.max_surfaces_per_view 0 || eqb l.max_trace_entries 0)))

-- the Rust numbers slots by a u32, and refuses larger limits of windows, views and panels as it does 0
abbrev pub any_over_u32 : CompositionLimits → Bool
any_over_u32 l =
    ltb 4294967295 l.max_windows || (ltb 4294967295 l.max_views || ltb 4294967295 l.max_surfaces)

-- RULES.md, Port limits: windows 8, views 16, panels 64, 16 panels a view, 32 traces; above these is 41
abbrev pub any_over_port : CompositionLimits → Bool
any_over_port l =
    ltb 8 l.max_windows
    || (ltb 16 l.max_views
    || (ltb 64 l.max_surfaces || (ltb 16 l.max_surfaces_per_view || ltb 32 l.max_trace_entries)))

abbrev pub is_unowned : GenerationalHandle → ℕ → Bool
is_unowned session epoch = not (is_valid session) || eqb epoch 0

-- the added start's first generation 0 is refused as a limit of 0 is
abbrev pub is_misconfigured : CompositionLimits → ℕ → Bool
is_misconfigured limits generation = any_zero limits || (any_over_u32 limits || eqb generation 0)

abbrev pub start_refusal : GenerationalHandle → ℕ → CompositionLimits → ℕ → Outcome
start_refusal session epoch limits generation =
    result_and (refusal_if (is_unowned session epoch) InvalidOwner)
    (result_and (refusal_if (is_misconfigured limits generation) InvalidConfig)
    (refusal_if (any_over_port limits) PortLimit))

-- no window, view or panel, no registration, no trace
unfoldable pub fresh_registry : GenerationalHandle → ℕ → CompositionLimits → ℕ → ℕ → CompositionRegistry
fresh_registry session epoch limits revision generation =
    record {
      session = session;
      session_epoch = epoch;
      limits = limits;
      first_generation = generation;
      revision = revision;
      windows = empty_arena;
      views = record { arena = empty_arena; records = replicate 16 no_view };
      surfaces = record { arena = empty_arena; records = replicate 64 no_surface };
      shortcuts = packed shortcuts [];
      traces = packed traces [];
    }

-- what a refused start answers beside its number: a registry that every call refuses 42
abbrev pub unusable_registry : CompositionRegistry
unusable_registry =
    fresh_registry (handle_of 0 0) 0
    (record {
      max_windows = 0;
      max_views = 0;
      max_surfaces = 0;
      max_surfaces_per_view = 0;
      max_trace_entries = 0;
    }) 0 0

abbrev pub started : GenerationalHandle → ℕ → CompositionLimits → ℕ → ℕ → Changed
started session epoch limits revision generation =
    cond (is_ok (start_refusal session epoch limits generation))
    (answered (Ok tt) (fresh_registry session epoch limits revision generation))
    (answered (start_refusal session epoch limits generation) unusable_registry)
