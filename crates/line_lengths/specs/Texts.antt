-- The replay format, Answer line: each line as one text, made of the pieces that it is put as.
use Rattle.std.specs.Prelude.{ℕ, Bool, cond, pos, nat_abs, Option, None, Some}
use mathlib.Core.List.{List, [], ◌∷◌, ◌++◌, flatten}
use Rattle.std.specs.Int.Signed.{lt_z}
use Rattle.composition_state.specs.declared.registry.CompositionRegistry.{CompositionRegistry}
use Rattle.input_router.specs.declared.router.PlatformInputRouter.{PlatformInputRouter}
use Rattle.calls.specs.declared.call.Call.{Call}
use Rattle.counter.specs.declared.answer.Answer.{Answer}
use Rattle.counter.specs.declared.step.Counter.{Counter}
use Rattle.answer_text.specs.Decimal.{decimal}
use Rattle.answer_numbers.specs.Numbers.{Number, plain, signed, dumped_number}
use Rattle.registry_dump.specs.Registry.{registry_numbers}
use Rattle.router_dump.specs.Router.{router_numbers}
use Rattle.answer_columns.specs.Columns.{column_pieces}
use Rattle.answer_columns.specs.Named.{handle_for, named_pieces}
use Rattle.answer_columns.specs.Pieces.{none_pieces, entry_pieces}
use Rattle.answer_more.specs.More.{more_of}
use Rattle.answer_line.specs.Line.{head_pieces, end_pieces}

-- a number of column 8: `-` (45) before a negative one
abbrev pub shown_pieces : Number → List (List ℕ)
shown_pieces (plain n) = decimal n ∷ []
shown_pieces (signed z) = cond (lt_z z (pos 0)) ((45 ∷ []) ∷ []) [] ++ (decimal (nat_abs z) ∷ [])

-- a number of a dump
abbrev pub dumped_pieces : Number → List (List ℕ)
dumped_pieces n = decimal (dumped_number n) ∷ []

-- column 8: `-`, or numbers with commas between
abbrev pub more_pieces : Option (List Number) → List (List ℕ)
more_pieces None = none_pieces
more_pieces (Some l) = entry_pieces shown_pieces l

-- columns 1 to 8 of an answered call
abbrev pub answer_pieces : ℕ → Call → Answer → Counter → List (List ℕ)
answer_pieces calls call a k =
    column_pieces calls k.registry.revision a ++ named_pieces (handle_for call a) ++ more_pieces (more_of call a k)

-- columns 1 to 8 of `state`, and of `router_state`: the whole dump
abbrev pub state_pieces : ℕ → CompositionRegistry → List (List ℕ)
state_pieces calls r = head_pieces calls 0 r.revision ++ entry_pieces dumped_pieces (registry_numbers r)

abbrev pub router_state_pieces : ℕ → ℕ → PlatformInputRouter → List (List ℕ)
router_state_pieces calls revision t = head_pieces calls 0 revision ++ entry_pieces dumped_pieces (router_numbers t)

-- a whole line: columns 1 to 8, the digests where they are shown, and the line feed
abbrev pub line_text : List (List ℕ) → Counter → Bool → List ℕ
line_text columns k shown = flatten (columns ++ end_pieces k shown)
