-- A capture that is not listed finds a place at the end.
use Rattle.std.proofs.Common.{◌∙◌, sym, ap}
use Rattle.lists.specs.Tables.{entries_of, pushed_within}
use Rattle.lists.proofs.TableLaws.{within_packed}
use Rattle.release_lists.specs.Releases.{Releases, releases, capture_release}
use Rattle.release_lists.proofs.releases.add.Goals as goal

pub returns : goal.returns
returns c =
    let a = c.args in
    c.push_within.ensures
    ∙ ap (λ (t : Releases). pushed_within releases t (capture_release a.capture)) c.requires.list_value
    ∙ within_packed releases (entries_of releases a.list) (capture_release a.capture) c.requires.list_len_bound
    ∙ rw (sym c.has_pair.ensures ∙ c.if-has_pair.false)
