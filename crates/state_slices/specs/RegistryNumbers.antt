-- The registry from the fixed and the moving slice.
use Rattle.std.specs.Prelude.{ℕ, ◌+◌, ◌*◌, List, get_or}
use Rattle.handles.specs.Slots.{slot_of}
use Rattle.handles.specs.declared.arena.Arena.{Arena}
use Rattle.records.specs.Shortcuts.{shortcuts, Shortcuts}
use Rattle.records.specs.declared.shortcut.SlotShortcut.{SlotShortcut}
use Rattle.records.specs.Surfaces.{SurfaceTable}
use Rattle.records.specs.Views.{ViewTable}
use Rattle.composition_state.specs.declared.registry.CompositionRegistry.{CompositionRegistry}
use Rattle.call_fields.specs.Narrow.{within, is_one, short_of}
use Rattle.call_fields.specs.Groups.{handle_of}
use Rattle.call_fields.specs.PanelChoices.{scope_of}
use Rattle.slices.specs.Parts.{table, row_at, table_of, part}
use Rattle.state_slices.specs.Layout.{arena_size, window_arena, view_arena, surface_arena, shortcuts_start, shortcut_size}
use Rattle.state_slices.specs.PanelNumbers.{panels_from}
use Rattle.state_slices.specs.ViewNumbers.{views_from}
use Rattle.state_slices.specs.TraceNumbers.{traces_from}

-- a slot table: 64 slots of generation and flag, 64 places of the free list, then used, freed and live
unfoldable pub arena_from : List ℕ → Arena
arena_from b = record {
  slots = table (λ i. slot_of (within 4294967296 (get_or b (i * 2) 0)) (is_one (get_or b (i * 2 + 1) 0))) 64;
  used = get_or b 192 0;
  free = table (λ i. within 4294967296 (get_or b (128 + i) 0)) 64;
  freed = get_or b 193 0;
  live = get_or b 194 0;
}

-- slot, class mask, scope, priority
unfoldable pub shortcut_from : List ℕ → SlotShortcut
shortcut_from b = record {
  slot = within 4294967296 (get_or b 0 0);
  registration = record {
    class_mask = get_or b 1 0;
    scope = scope_of (get_or b 2 0);
    priority = short_of (get_or b 3 0);
  };
}

unfoldable pub shortcuts_from : List ℕ → Shortcuts
shortcuts_from fixed =
    table_of shortcuts (row_at shortcut_from (shortcuts_start + 1) shortcut_size fixed) (get_or fixed shortcuts_start 0)

unfoldable pub view_table_from : List ℕ → List ℕ → ViewTable
view_table_from fixed moving = record {
  arena = arena_from (part fixed view_arena arena_size);
  records = views_from fixed moving;
}

unfoldable pub surface_table_from : List ℕ → SurfaceTable
surface_table_from fixed = record {
  arena = arena_from (part fixed surface_arena arena_size);
  records = panels_from fixed;
}

unfoldable pub registry_from : List ℕ → List ℕ → CompositionRegistry
registry_from fixed moving = record {
  session = handle_of (get_or fixed 0 0) (get_or fixed 1 0);
  session_epoch = get_or fixed 2 0;
  limits = record {
    max_windows = get_or fixed 3 0;
    max_views = get_or fixed 4 0;
    max_surfaces = get_or fixed 5 0;
    max_surfaces_per_view = get_or fixed 6 0;
    max_trace_entries = get_or fixed 7 0;
  };
  first_generation = within 4294967296 (get_or fixed 8 0);
  revision = get_or moving 0 0;
  windows = arena_from (part fixed window_arena arena_size);
  views = view_table_from fixed moving;
  surfaces = surface_table_from fixed;
  shortcuts = shortcuts_from fixed;
  traces = traces_from moving;
}
