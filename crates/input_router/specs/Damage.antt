-- RULES.md, Damage: 42 first, if the router handed in is damaged in one of these ways, and in no other.
use Rattle.std.specs.Prelude.{Bool, ◌&&◌, leb, is_ok}
use Rattle.maps.specs.MapTables.{keys_rise}
use Rattle.maps.specs.Bindings.{bindings, key_of_binding}
use Rattle.maps.specs.Sequences.{sequences, sequence_key}
use Rattle.input_router.specs.declared.router.PlatformInputRouter.{PlatformInputRouter}
use Rattle.input_router.specs.Router.{start_outcome}

-- a stored limit is one the start refuses
abbrev pub limit_sound : PlatformInputRouter → Bool
limit_sound r = is_ok (start_outcome r.max_active_bindings)

-- a stored count exceeds its table or configured limit
abbrev pub counts_sound : PlatformInputRouter → Bool
counts_sound r =
    (leb r.bindings.table.len 128 && leb r.device_sequences.table.len 32)
    && leb r.bindings.table.len r.max_active_bindings

-- map keys do not strictly rise
abbrev pub keys_sound : PlatformInputRouter → Bool
keys_sound r = keys_rise bindings key_of_binding r.bindings && keys_rise sequences sequence_key r.device_sequences

unfoldable pub is_router_sound : PlatformInputRouter → Bool
is_router_sound r = limit_sound r && (counts_sound r && keys_sound r)
