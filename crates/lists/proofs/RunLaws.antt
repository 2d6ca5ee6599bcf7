-- The items that a loop took from an iterator are a run of it: made place by place, as a clause reads a run.
use Rattle.std.specs.Prelude.{ℕ, ◌≡◌, ◌<◌, refl, List, length, Bool, true, Option, None, Some}
use Rattle.std.proofs.Common.{ap}
use Rattle.std.specs.List.{slice_get}
use Rattle.std.specs.Option.{option_map}
use Rattle.std.specs.Iterator.{Yields, DrainsIf}
use Rattle.std.specs.Iterator.Runs.{Run, WholeRun, Trigger, YieldsRun}
use Rattle.std.proofs.lemmas.Option.{slice_get-get_or}

module _ {S A : Type 0} (steps : S → Option A → S → Type 0) where
  -- a clause that reads a run has marked it so
  pub seen : (n : ℕ) → Trigger n
  unfolding Trigger
  seen n = tt

  pub gave : (s : S) (xs : List A) → DrainsIf steps (true ≡ true) s xs → YieldsRun steps s xs true (slice_get xs)
  unfolding YieldsRun
  gave s xs d = (d, λ k. refl)

  -- items that calls gave before one gave none
  pub whole_run : (s t u : S) (xs : List A) → Yields steps s xs t → steps t None u
      → (P : List A → Type 0) → P xs → WholeRun steps s (λ p. P p.items)
  whole_run s t u xs taken ends P holds = (
    record {
      from = s;
      items = xs;
      whole = true;
      len = length xs;
      at = slice_get xs;
      seen = seen (length xs);
      long = refl;
      reads = λ k d below. ap (option_map (λ y. y)) (slice_get-get_or xs k d below);
      gave = gave s xs (t, taken, λ _. (u, ends));
    },
    refl,
    refl,
    holds,
  )
