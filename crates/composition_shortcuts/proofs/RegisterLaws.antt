-- A list put after the registrations of the other slots, and whether it has room beside them.
use Rattle.std.proofs.Common.{◌≡◌, ℕ, ◌+◌, ◌≤◌, true, ◌∙◌, arith, length, map}
use borrow.Author.Tests.{leb-true}
use lib.ListN.{length-append, length-map}
use Rattle.std.specs.List.{fold}
use Rattle.lists.specs.Lists.{keep}
use Rattle.lists.specs.Tables.{entries_of, pushed_within}
use Rattle.lists.proofs.ListLaws.{length_keep}
use Rattle.lists.proofs.TableLaws as table
use Rattle.records.specs.Shortcuts.{Shortcuts, shortcuts, is_of_other_slot, shortcuts_without}
use Rattle.composition_shortcuts.specs.Registrations.{Registrations}
use Rattle.composition_shortcuts.specs.Register.{registrations, with_slot, replaced_entries, fits, replaced}

module _ (slot : ℕ) (t : Shortcuts) where
  pub others_are : entries_of shortcuts (shortcuts_without slot t) ≡ keep (is_of_other_slot slot) (entries_of shortcuts t)
  others_are = table.entries_packed shortcuts _

  pub others_few : length (entries_of shortcuts t) ≤ 256 → length (entries_of shortcuts (shortcuts_without slot t)) ≤ 256
  others_few h = rw others_are (omega (arith, length_keep (is_of_other_slot slot) (entries_of shortcuts t)))

  module _ (new : Registrations) where
    pub entries_count : length (replaced_entries slot new t) ≡ length (entries_of shortcuts (shortcuts_without slot t)) + length (entries_of registrations new)
    entries_count = rw (others_are, length-append, length-map)

    -- with room, the list stands after the others
    pub filled_is : fits slot new t ≡ true → {put : Shortcuts}
        → put ≡ fold (pushed_within shortcuts) (shortcuts_without slot t) (map (with_slot slot) (entries_of registrations new)) → put ≡ replaced slot new t
    filled_is h e = e ∙ table.all_within shortcuts _ _ (simp length-append at (leb-true _ _ h)) ∙ rw h
