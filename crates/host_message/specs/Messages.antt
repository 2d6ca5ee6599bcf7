-- Which messages are a form: the call's numbers, and lists only beside the calls that take them.
use Rattle.std.specs.Prelude.{ℕ, Bool, cond, true, false, ◌&&◌, eqb}
use Rattle.lists.specs.Below.{all_below}
use Rattle.composition_arbitration.specs.Arbitration.{is_stack}
use Rattle.calls.specs.declared.call.Call.{Call}
use Rattle.calls.specs.declared.call.Call.TheVariants.{Panel, Input, ReleaseDevice, Shortcut, Arbitrate, Close, Router, Read}
use Rattle.calls.specs.declared.call.Lists.{Lists}
use Rattle.calls.specs.declared.call.ShortcutCall.TheVariants.{RegisterSet, RegisterOne, SetMask}
use Rattle.call_numbers.specs.Calls.{call_at}
use Rattle.call_forms.specs.Forms.{is_form}
use Rattle.host_message.specs.declared.message.Message.{Message}
use Rattle.host_message.specs.Hits.{hits_of, hit_form}
use Rattle.host_message.specs.Registrations.{registrations_of, entry_form}

-- an arbitration of a stack event has hits
abbrev pub takes_hits : Call → Bool
takes_hits (Panel c) = false
takes_hits (Input c) = false
takes_hits (ReleaseDevice a) = false
takes_hits (Shortcut c) = false
takes_hits (Arbitrate a) = is_stack a.event
takes_hits (Close c) = false
takes_hits (Router c) = false
takes_hits (Read c) = false

-- the registration of a set has registrations
abbrev pub takes_registrations : Call → Bool
takes_registrations (Panel c) = false
takes_registrations (Input c) = false
takes_registrations (ReleaseDevice a) = false
takes_registrations (Shortcut (RegisterSet a)) = true
takes_registrations (Shortcut (RegisterOne a)) = false
takes_registrations (Shortcut (SetMask a)) = false
takes_registrations (Arbitrate a) = false
takes_registrations (Close c) = false
takes_registrations (Router c) = false
takes_registrations (Read c) = false

-- a list that the call does not take has no entries
abbrev pub is_allowed : Bool → ℕ → Bool
is_allowed takes n = cond takes true (eqb n 0)

abbrev pub lists_of : Message → Lists
lists_of m = record { hits = hits_of m.hits; registrations = registrations_of m.registrations }

unfoldable pub is_message : Message → Bool
is_message m =
    is_form m.call
    && (all_below (hit_form m.hits) 16
    && (all_below (entry_form m.registrations) 64
    && (is_allowed (takes_hits (call_at m.call)) m.hits.len
    && is_allowed (takes_registrations (call_at m.call)) m.registrations.len)))
