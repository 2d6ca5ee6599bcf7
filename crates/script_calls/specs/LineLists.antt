-- The lists beside the call of a line: the registrations of a `register_surface_system_shortcut_set` line, the hits of
-- an `arbitrate` line, and none else.
use Rattle.std.specs.Prelude.{[]}
use Rattle.lists.specs.Tables.{packed}
use Rattle.calls.specs.declared.call.Lists.{Lists}
use Rattle.composition_shortcuts.specs.Register.{registrations}
use Rattle.composition_shortcuts.specs.Registrations.{Registrations}
use Rattle.records.specs.Traces.{hits, Hits}

-- the hits behind a view and an event
abbrev pub with_hits : Hits → Lists
with_hits h = record { hits = h; registrations = packed registrations [] }

-- the registrations behind a panel and a revision
abbrev pub with_registrations : Registrations → Lists
with_registrations r = record { hits = packed hits []; registrations = r }

-- no hits and no registrations
abbrev pub no_lists : Lists
no_lists = with_hits (packed hits [])
