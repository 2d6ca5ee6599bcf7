-- A whole answer line: columns 1 to 8, the digests, and the line feed.
use Rattle.std.specs.Prelude.{ℕ, Bool, true, false, List, [], ◌∷◌, ◌++◌}
use Rattle.answer_text.specs.Decimal.{decimal}
use Rattle.composition_state.specs.declared.registry.CompositionRegistry.{CompositionRegistry}
use Rattle.input_router.specs.declared.router.PlatformInputRouter.{PlatformInputRouter}
use Rattle.calls.specs.declared.call.Call.{Call}
use Rattle.counter.specs.declared.answer.Answer.{Answer}
use Rattle.counter.specs.declared.step.Counter.{Counter}
use Rattle.answer_numbers.specs.declared.sink.SinkKind.TheVariants.{Column, Dump}
use Rattle.answer_numbers.specs.Numbers.{dump_digest}
use Rattle.registry_dump.specs.Registry.{registry_numbers}
use Rattle.router_dump.specs.Router.{router_numbers}
use Rattle.answer_columns.specs.Pieces.{put_all, space_pieces, none_pieces, cell_pieces}
use Rattle.answer_columns.specs.Columns.{number_pieces, column_pieces}
use Rattle.answer_more.specs.More.{more_of}
use Rattle.answer_numbers.specs.Writers.{placed}
use Rattle.answer_more.specs.Place.{more_placed}
use Rattle.answer_columns.specs.Named.{handle_for, named_pieces}

-- columns 1 to 8 of an answered call, from the start of the buffer
abbrev pub answer_taken : ℕ → Call → Answer → Counter → List ℕ → List ℕ × ℕ
answer_taken calls call a k buf =
    more_placed Column (more_of call a k)
    (put_all (named_pieces (handle_for call a)) (put_all (column_pieces calls k.registry.revision a) (buf, 0)))

-- columns 4 to 7 of a call that shows nothing: four times `-` (45) and a space (32)
abbrev pub blank_pieces : List (List ℕ)
blank_pieces = (45 ∷ 32 ∷ 45 ∷ 32 ∷ 45 ∷ 32 ∷ 45 ∷ 32 ∷ []) ∷ []

-- columns 1 to 7 of a call that shows nothing
abbrev pub head_pieces : ℕ → ℕ → ℕ → List (List ℕ)
head_pieces calls number revision = number_pieces calls number revision ++ blank_pieces

-- columns 1 to 8 of a call that shows nothing
abbrev pub plain_pieces : ℕ → ℕ → ℕ → List (List ℕ)
plain_pieces calls number revision = head_pieces calls number revision ++ none_pieces

-- a line that is no call is answered with `?` (63)
abbrev pub no_call_pieces : ℕ → ℕ → List (List ℕ)
no_call_pieces calls revision =
    cell_pieces calls ++ ((63 ∷ 32 ∷ []) ∷ []) ++ cell_pieces revision ++ blank_pieces ++ none_pieces

-- `state` shows the whole dump of the registry, `router_state` that of the router
abbrev pub state_taken : ℕ → CompositionRegistry → List ℕ → List ℕ × ℕ
state_taken calls r buf = placed Dump (registry_numbers r) (put_all (head_pieces calls 0 r.revision) (buf, 0))

abbrev pub router_state_taken : ℕ → ℕ → PlatformInputRouter → List ℕ → List ℕ × ℕ
router_state_taken calls revision t buf = placed Dump (router_numbers t) (put_all (head_pieces calls 0 revision)
    (buf, 0))

-- a digest in decimal, behind a space
abbrev pub digest_pieces : ℕ → List (List ℕ)
digest_pieces n = space_pieces ++ (decimal n ∷ [])

-- the digests where they are shown, and the line feed (10)
abbrev pub end_pieces : Counter → Bool → List (List ℕ)
end_pieces k true =
    digest_pieces (dump_digest (registry_numbers k.registry)) ++ digest_pieces (dump_digest (router_numbers k.router))
    ++ ((10 ∷ []) ∷ [])
end_pieces k false = (10 ∷ []) ∷ []
