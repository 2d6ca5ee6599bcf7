-- What holds of the turns over any input.
use Rattle.std.specs.Prelude.{ℕ, ◌≤◌, ◌≡◌, length}
use mathlib.Core.List.{List, [], ◌++◌, foldl, foldr}
use Rattle.replay.specs.declared.session.Session.{Session}
use Rattle.replay.specs.Replay.{replayed}
use Rattle.replay.specs.Turns.{serving_of, chunk_served, ended}

-- chunks one after the other
abbrev pub together : List (List ℕ) → List ℕ
together chunks = foldr (λ (a b : List ℕ). a ++ b) [] chunks

-- with a line buffer that holds more than a line may have, no cutting into chunks matters: each line is answered once
-- and
-- in its order, the last one too, and nothing else is
pub record ReplayClaims : Type 0 where
  pub every_cutting : (s : Session) (line out written : List ℕ) (chunks : List (List ℕ)) → 4097 ≤ length line
      → ended (foldl chunk_served (serving_of s line 0 out written) chunks)
      ≡ replayed (record { session = s; out = out; written = written }) (together chunks)
