-- The replay format, Verbs: a line's fields as the numbers that a host hands in for the call. A row has a letter for
-- each field, and the fields stand in the order of the call's numbers.
use Rattle.std.specs.Prelude.{ℕ, ◌+◌, ◌/◌, ◌%◌, Bool, cond, refl, eqb, length, get_or, Option, None, Some, is_some}
use Rattle.std.specs.Option.{option_map, option_and_then}
use Prim.Native.String.{String}
use mathlib.Core.List.{List, [], ◌∷◌, ◌++◌, map, foldl}
use Rattle.std.specs.Int.{w16, w32}
use Rattle.std.proofs.Common.{of_z}
use Rattle.lists.specs.Numbers.{max_u64}
use Rattle.lists.specs.Tables.{Shape, packed, pushed_within}
use Rattle.script.specs.Ranges.{unsigned_of, signed_of}
use Rattle.script.specs.Texts.{bytes}
use Rattle.script.specs.Lines.{Fields}
use Rattle.script.specs.declared.number.Number.{Number}
use Rattle.script_calls.specs.declared.rows.Asked.{Asked}
use Rattle.script_calls.specs.declared.rows.Words.{Words}
use Rattle.script_calls.specs.Groups.{number_at}

-- A letter is u for an unsigned number, i and s for a signed one of 32 and of 16 bits, m for the modifiers; the form of
-- the call tests the rest. h, w and f are unsigned numbers of 16 bits, of 32 bits and of one, where no form tests them.

-- windows, views, panels: 0 to 7
abbrev pub panel_rows : List String
panel_rows =
    "" ∷ "uu" ∷ "uu" ∷ "uuiiuuuuuuuuuuu" ∷ "uu" ∷ "uuuiuuuiiuuuiiuuiiiiiiuu" ∷ "uuuiiuuuiiuuiiiiiiuuu" ∷ "uuuu" ∷ []

-- focus, captures, compositions, suspends: 8 to 15; the release of a device's captures: 16
abbrev pub input_rows : List String
input_rows =
    "uuuuuu" ∷ "uuu" ∷ "uuuuuu" ∷ "uuu" ∷ "uuuuuu" ∷ "uuu" ∷ "uuu" ∷ "uuu" ∷ "uu" ∷ []

-- registrations, of which the set alone has a verb: 17 to 19; `arbitrate` as far as its kind: 20; closing: 21, 22;
-- `route` as far as its payload's kind, and releases: 23 to 25
abbrev pub event_rows : List String
event_rows = "uuu" ∷ "uuuuusu" ∷ "uuuu" ∷ "uuu" ∷ "uu" ∷ "" ∷ "uuuuuuuuuumu" ∷ "uu" ∷ "" ∷ []

-- reads: 26 to 36
abbrev pub read_rows : List String
read_rows = "uu" ∷ "uu" ∷ "uu" ∷ "uu" ∷ "uu" ∷ "uu" ∷ "" ∷ "" ∷ "" ∷ "uuiiu" ∷ "iiiiiiii" ∷ []

-- the payloads of `route` by their kinds: 37 to 46
abbrev pub payload_rows : List String
payload_rows = "uuiiiiussuuu" ∷ "uiiiiu" ∷ "uuu" ∷ "uu" ∷ "h" ∷ "uhuu" ∷ "uu" ∷ "u" ∷ "u" ∷ "" ∷ []

-- what an event of `arbitrate` has by its kind: 47 to 57; all fields of its line before the hits: 58
abbrev pub arbitrate_rows : List String
arbitrate_rows =
    "uuu" ∷ "" ∷ "uuuuuu" ∷ "uuu" ∷ "" ∷ "uuu" ∷ "" ∷ "uuu" ∷ "" ∷ "" ∷ "u" ∷ "uuuuwwfwwu" ∷ []

-- the rows by the calls' numbers, and those behind them
abbrev pub rows : List String
rows = panel_rows ++ input_rows ++ event_rows ++ read_rows ++ payload_rows ++ arbitrate_rows

abbrev pub row_of : ℕ → List ℕ
row_of n = get_or (map bytes rows) n []

-- whether a letter is that of a text
abbrev pub is_letter : String → ℕ → Bool
is_letter t c = eqb c (get_or (bytes t) 0 0)

-- the largest number of an unsigned letter
abbrev pub most_of : ℕ → ℕ
most_of c =
    cond (is_letter "f" c) 1
    (cond (is_letter "m" c) 63
    (cond (is_letter "h" c) 65535
    (cond (is_letter "w" c) 4294967295 max_u64)))

-- a field as a number of the call, if it is in its letter's range: a signed one is its two's complement
unfoldable pub word_of : ℕ → Number → Option ℕ
word_of c n =
    cond (is_letter "i" c) (option_map (of_z w32) (signed_of 2147483647 n))
    (cond (is_letter "s" c) (option_map (of_z w16) (signed_of 32767 n)) (unsigned_of (most_of c) n))

-- the six bits of the modifiers, the lowest first
abbrev pub bits_of : ℕ → List ℕ
bits_of n = n % 2 ∷ n / 2 % 2 ∷ n / 4 % 2 ∷ n / 8 % 2 ∷ n / 16 % 2 ∷ n / 32 % 2 ∷ []

-- a field as numbers of the call: the modifiers are six of them
unfoldable pub words_of : ℕ → Number → Option (List ℕ)
words_of c n =
    cond (is_letter "m" c) (option_map bits_of (unsigned_of 63 n)) (option_map (λ w. w ∷ []) (word_of c n))

-- two parts of a row, if both are there
abbrev pub both_parts : Option (List ℕ) → Option (List ℕ) → Option (List ℕ)
both_parts None l = None
both_parts (Some k) None = None
both_parts (Some k) (Some l) = Some (k ++ l)

-- the fields of a row, from a place of the line on: their numbers, and none where one is out of its range
unfoldable pub row_words : List ℕ → Fields → ℕ → Option (List ℕ)
row_words [] fs i = Some []
row_words (c ∷ t) fs i = both_parts (words_of c (number_at fs i)) (row_words t fs (i + 1))

-- whether each field of a row is in its range
abbrev pub is_row_in_range : List ℕ → Fields → ℕ → Bool
is_row_in_range row fs i = is_some (row_words row fs i)

-- the 32 numbers of a call
abbrev pub words : Shape ℕ Words
words =
    record {
      size = 32;
      blank = 0;
      make = λ l n. record { items = l; len = n };
      all = λ t. t.items;
      len = λ t. t.len;
      all_make = λ l n. refl;
      len_make = λ l n. refl;
    }

-- a call's number, and nothing read
abbrev pub begun : ℕ → Asked
begun n = record { words = packed words (n ∷ []); end = 0 }

abbrev pub read_behind : Asked → ℕ → List ℕ → Asked
read_behind asked end l = record { words = foldl (pushed_within words) asked.words l; end = end }

-- the numbers of a row behind those so far; `end` is the place behind the row's last field
unfoldable pub with_row : Asked → List ℕ → Fields → ℕ → Option Asked
with_row asked row fs i = option_map (read_behind asked (i + length row)) (row_words row fs i)

-- a call by its row alone, and with another row behind it
abbrev pub asked_row : ℕ → Fields → Option Asked
asked_row n fs = with_row (begun n) (row_of n) fs 0

abbrev pub asked_rows : ℕ → ℕ → ℕ → Fields → Option Asked
asked_rows n behind i fs = option_and_then (λ asked. with_row asked (row_of behind) fs i) (asked_row n fs)
