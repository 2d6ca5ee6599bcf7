-- The worked example of the format: the registry that a script starts with.
use Rattle.std.specs.Prelude.{[], ◌∷◌, map, ◌≡◌}
use Rattle.handles.specs.Handles.{handle_of}
use Rattle.composition_state.specs.Start.{fresh_registry}
use Rattle.composition_state.specs.declared.registry.CompositionRegistry.{CompositionRegistry}
use Rattle.answer_numbers.specs.Numbers.{dumped_number, dump_digest}
use Rattle.registry_dump.specs.Registry.{registry_numbers}

-- `new 0 1 1 8 16 64 16 32`: session 0.1, epoch 1, the port's limits
abbrev pub first_registry : CompositionRegistry
first_registry =
    fresh_registry (handle_of 0 1) 1
    (record {
      max_windows = 8;
      max_views = 16;
      max_surfaces = 64;
      max_surfaces_per_view = 16;
      max_trace_entries = 32;
    }) 0 1

pub record RegistryClaims : Type 0 where
  pub first_dump : map dumped_number (registry_numbers first_registry)
      ≡ 0 ∷ 1 ∷ 1 ∷ 8 ∷ 16 ∷ 64 ∷ 16 ∷ 32 ∷ 1 ∷ 0 ∷ 0 ∷ 0 ∷ 0 ∷ 0 ∷ 0 ∷ 0 ∷ 0 ∷ 0 ∷ 0 ∷ 0 ∷ []
  pub first_digest : dump_digest (registry_numbers first_registry) ≡ 7360464826253285904
