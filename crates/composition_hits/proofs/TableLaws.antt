-- The hits as a table, a panel at a time from the top: after each turn it holds those of the panels passed.
use Prim.Native.Nat.{ℕ, zero, suc, ◌-◌, ◌≤◌, ◌<◌}
use mathlib.Core.Path.{◌≡◌, sym, ap, ◌∙◌}
use mathlib.Core.Bool.{Bool, true, false}
use mathlib.Core.List.{List, [], ◌∷◌, ◌++◌, reverse, append-nil}
use native.Mathlib.Omega.{arith}
use lib.ListN.{length, drop, get_or, length-drop, length-map, length-reverse}
use lib.Seq.{drop-length}
use Rattle.lists.specs.Lists.{keep}
use Rattle.lists.specs.Tables.{packed, pushed_within}
use Rattle.lists.proofs.ListLaws.{keep_append, length_keep, map_append, back_more}
use Rattle.lists.proofs.TableLaws.{within_packed}
use Rattle.handles.specs.declared.GenerationalHandle.{GenerationalHandle}
use Rattle.records.specs.Traces.{Hits, hits}
use Rattle.view_panels.specs.Panels.{Panel, handles_of}
use Rattle.composition_hits.proofs.HitLaws.{above}

module _ (p : Panel → Bool) where
  -- the handles of the panels that pass the test
  abbrev pub passing : List Panel → List GenerationalHandle
  passing l = handles_of (keep p l)

  passing_append : (a b : List Panel) → passing (a ++ b) ≡ passing a ++ passing b
  passing_append a b = ap handles_of (keep_append p a b) ∙ map_append _ (keep p a) (keep p b)

  pub record Listing (l : List Panel) (out : Hits) (left : ℕ) : Type 0 where
    pub within : left ≤ length l
    pub small : length l ≤ 16
    pub is : out ≡ packed hits (passing (above l left))

  pub start : (l : List Panel) (out : Hits) → length l ≤ 16 → out ≡ packed hits [] → Listing l out (length l)
  start l out h e = record { within = omega arith; small = h; is = e ∙ rw drop-length }

  module _ (l : List Panel) (out : Hits) (left : ℕ) (f : Listing l out left) (z : 0 < left) (d : Panel) where
    abbrev here : Panel
    here = get_or l (left - 1) d

    one_more : {b : List GenerationalHandle} → passing (here ∷ []) ≡ b → passing (above l (left - 1)) ≡ passing (above l left) ++ b
    one_more e = ap passing (back_more l left d z f.within) ∙ passing_append (above l left) (here ∷ []) ∙ ap (λ (x : List GenerationalHandle). passing (above l left) ++ x) e

    room : length (passing (above l left)) < 16
    room =
        let passed : length (above l left) ≡ length l - left = length-reverse (drop left l) ∙ length-drop left l in
        omega (arith, length-map (keep p (above l left)) (λ (s : Panel). s.surface), length_keep p (above l left), f.small, f.within)

    pub turn_yes : p here ≡ true → {next : Hits} → next ≡ pushed_within hits out here.surface → Listing l next (left - 1)
    turn_yes t e = record {
      within = omega (arith, f.within);
      small = f.small;
      is = e ∙ ap (λ (x : Hits). pushed_within hits x here.surface) f.is ∙ within_packed hits (passing (above l left)) here.surface room ∙ ap (packed hits) (sym (one_more (rw t)));
    }

    pub turn_no : p here ≡ false → Listing l out (left - 1)
    turn_no t = record {
      within = omega (arith, f.within);
      small = f.small;
      is = f.is ∙ ap (packed hits) (sym (one_more (rw t) ∙ append-nil (passing (above l left))));
    }

  pub done : (l : List Panel) (out : Hits) (left : ℕ) → Listing l out left → left ≤ 0 → out ≡ packed hits (passing (reverse l))
  done l out zero f z = f.is
  done l out (suc k) f z = absurd (omega arith)
