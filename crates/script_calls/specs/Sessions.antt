-- The script's own calls: digests, a new registry, a new router, dumps. None where a line has another number of fields,
-- or one out of its range.
use Rattle.std.specs.Prelude.{ℕ, cond, Option, None, Some}
use Rattle.std.specs.Option.{option_map, option_and_then}
use Rattle.composition_state.specs.declared.registry.CompositionLimits.{CompositionLimits}
use Rattle.handles.specs.declared.GenerationalHandle.{GenerationalHandle}
use Rattle.script.specs.Lines.{Fields}
use Rattle.script.specs.declared.verb.SessionVerb.{SessionVerb}
use Rattle.script.specs.declared.verb.SessionVerb.TheVariants as verb
use Rattle.script_calls.specs.Groups.{has, flag_at, u32_at, u64_at, handle_at, limits_at}
use Rattle.script_calls.specs.declared.script_call.SessionCall.{SessionCall}
use Rattle.script_calls.specs.declared.script_call.SessionCall.TheVariants.{Digest, New, Router, State, RouterState}
use Rattle.script_calls.specs.declared.script_call.Start.{Start}

-- f: whether the digests stand
abbrev pub digest_in : Fields → Option SessionCall
digest_in fs = cond (has fs 1) (option_map Digest (flag_at fs 0)) None

abbrev start_of : ℕ → ℕ → GenerationalHandle → ℕ → CompositionLimits → Start
start_of revision generation session epoch limits = record {
  session = session;
  session_epoch = epoch;
  limits = limits;
  first_revision = revision;
  first_generation = generation;
}

-- session, epoch, limits
unfoldable pub start_at : Fields → ℕ → ℕ → Option Start
start_at fs revision generation =
    option_and_then
    (λ session. option_and_then (λ epoch. option_map (start_of revision generation session epoch) (limits_at fs 3)) (u64_at fs 2))
    (handle_at fs 0)

-- a start at revision 0 and generation 1
abbrev pub new_in : Fields → Option SessionCall
new_in fs = cond (has fs 8) (option_map New (start_at fs 0 1)) None

-- a start, then its first revision and its first generation
unfoldable pub new_at_in : Fields → Option SessionCall
new_at_in fs =
    cond (has fs 10)
    (option_and_then
    (λ revision. option_and_then (λ generation. option_map New (start_at fs revision generation)) (u32_at fs 9))
    (u64_at fs 8))
    None

-- the limit of a new router
abbrev pub router_in : Fields → Option SessionCall
router_in fs = cond (has fs 1) (option_map Router (u64_at fs 0)) None

-- a dump has no fields
abbrev pub dump_in : SessionCall → Fields → Option SessionCall
dump_in call fs = cond (has fs 0) (Some call) None

-- each verb with its fields
abbrev pub session_in : SessionVerb → Fields → Option SessionCall
session_in verb.Digest fs = digest_in fs
session_in verb.New fs = new_in fs
session_in verb.NewAt fs = new_at_in fs
session_in verb.Router fs = router_in fs
session_in verb.State fs = dump_in State fs
session_in verb.RouterState fs = dump_in RouterState fs
