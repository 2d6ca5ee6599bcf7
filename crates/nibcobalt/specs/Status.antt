-- What a function of the library answers: 0 or the number of why nothing was done, and how many bytes of the lent
-- buffer are the answer.
use Rattle.std.specs.Prelude.{ℕ, Bool, cond, ltb}
use Rattle.nibcobalt.specs.declared.status.Status.{Status}

-- a status without an answer
abbrev pub status_of : ℕ → Status
status_of n = record { number = n; length = 0 }

-- a malformed message, and a buffer that is too short; no refusal of a call has these numbers
abbrev pub malformed : ℕ
malformed = 1000

abbrev pub short_buffer : ℕ
short_buffer = 1001

-- the bytes that a buffer must have, whatever the call
abbrev pub room : ℕ
room = 36864

-- why a message and a buffer are refused, 0 if they are not: first the form, then the buffer
abbrev pub refusal_of : Bool → ℕ → ℕ
refusal_of is_form n = cond is_form (cond (ltb n room) short_buffer 0) malformed
