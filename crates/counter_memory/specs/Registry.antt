-- The registry: the four tables with enums as memory, all else as it is.
use Rattle.composition_state.specs.declared.registry.CompositionRegistry.{CompositionRegistry}
use Rattle.counter_memory.specs.declared.registry.RegistryMemory.{RegistryMemory}
use Rattle.counter_memory.specs.Shortcuts.{shortcuts_memory, shortcuts_of}
use Rattle.counter_memory.specs.Surfaces.{surfaces_memory, surfaces_of}
use Rattle.counter_memory.specs.Traces.{traces_memory, traces_of}
use Rattle.counter_memory.specs.Views.{views_memory, views_of}

unfoldable pub registry_memory : CompositionRegistry → RegistryMemory
registry_memory r = record {
  session = r.session;
  session_epoch = r.session_epoch;
  limits = r.limits;
  first_generation = r.first_generation;
  revision = r.revision;
  windows = r.windows;
  views = views_memory r.views;
  surfaces = surfaces_memory r.surfaces;
  shortcuts = shortcuts_memory r.shortcuts;
  traces = traces_memory r.traces;
}

unfoldable pub registry_of : RegistryMemory → CompositionRegistry
registry_of m = record {
  session = m.session;
  session_epoch = m.session_epoch;
  limits = m.limits;
  first_generation = m.first_generation;
  revision = m.revision;
  windows = m.windows;
  views = views_of m.views;
  surfaces = surfaces_of m.surfaces;
  shortcuts = shortcuts_of m.shortcuts;
  traces = traces_of m.traces;
}
