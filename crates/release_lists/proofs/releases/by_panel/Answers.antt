-- What is listed and what is left, panel by panel, is the whole.
use Rattle.std.proofs.Common.{◌≡◌, ◌+◌, ◌≤◌, ◌++◌, ◌∙◌, not, subst, sym, ap, arith, length, rules}
use Rattle.std.specs.List.{fold}
use Rattle.lists.specs.Lists.{keep}
use Rattle.lists.specs.Tables.{entries_of, packed, pushed_within}
use Rattle.lists.proofs.ListLaws.{length_keep, keep_split}
use Rattle.lists.proofs.TableLaws.{few, entries_packed, all_within}
use Rattle.maps.specs.Bindings.{bindings}
use Rattle.release_lists.specs.Releases.{Releases, releases, is_on, IsLeast}
use Rattle.release_lists.proofs.ReleaseLaws.{entries_are, packed_self, panel_room, panel_turn, panel_done}
use Rattle.release_lists.proofs.releases.by_panel.Goals as goal

pub loop-surface-init : goal.loop-surface-init
loop-surface-init c =
    (packed_self releases _ _ c.new-list.ensures, rw (c.new-list.ensures, entries_packed releases), few bindings c.args.presses (search rules))

pub loop-surface-smaller : goal.loop-surface-smaller
loop-surface-smaller c =
    let l = entries_of bindings c.loop-surface.left in
    let s = c.in-Some.surface in
    let least : IsLeast s l = subst (IsLeast s) c.entries.ensures (c.in-Some.ensures {u = tt}) in
    let left = c.retain-left.ensures (λ e. not (is_on s e)) (search rules) in
    omega (arith, ap length (entries_are bindings _ _ left), keep_split (is_on s) l, least.1)

pub loop-surface-preserved : goal.loop-surface-preserved
loop-surface-preserved c =
    let w = entries_of bindings c.args.presses in
    let k = c.loop-surface in
    let l = entries_of bindings k.left in
    let s = c.in-Some.surface in
    let least : IsLeast s l = subst (IsLeast s) c.entries.ensures (c.in-Some.ensures {u = tt}) in
    let taken = c.retain-taken.ensures (is_on s) (search rules) in
    let left = c.retain-left.ensures (λ e. not (is_on s e)) (search rules) in
    let room = panel_room w (entries_of releases k.list) l k.invariant.1 in
    let fits : length (entries_of releases k.list) + length (keep (is_on s) l) ≤ 640 = omega (arith, room, k.invariant.2, length_keep (is_on s) l) in
    let all : c.extended-list.result ≡ packed releases (entries_of releases k.list ++ keep (is_on s) l) =
    c.extended-list.ensures
    ∙ rw (entries_are bindings _ _ taken) (ap (λ (t : Releases). fold (pushed_within releases) t (keep (is_on s) l)) k.invariant.0)
    ∙ all_within releases (entries_of releases k.list) (keep (is_on s) l) fits in (
      packed_self releases _ _ all,
      rw (entries_are releases _ _ all, entries_are bindings _ _ left) (panel_turn w (entries_of releases k.list) l k.invariant.1 s least.0),
      k.invariant.2,
    )

pub returns : goal.returns
returns c =
    let w = entries_of bindings c.args.presses in
    let k = c.loop-surface in
    let none = ap length (sym c.entries.ensures ∙ c.in_default.ensures {u = tt}) in
    k.invariant.0 ∙ ap (packed releases) (panel_done w (entries_of releases k.list) (entries_of bindings k.left) k.invariant.1 none)
