use Rattle.std.proofs.Common.{◌∙◌, ◌++◌, map, ap, arith}
use Rattle.current.specs.Rows.{row_of}
use Rattle.current.specs.Touched.{removed_of, added_of}
use Rattle.versionlaws.specs.Committing.{ended, opened}
use Rattle.sysversion.specs.Lists.{rows_of}
use Rattle.sysversion.specs.Reads.{reads_to_end}
use Rattle.sysversion.specs.Versions.{list_of, versions_of_table}
use Rattle.sysversion.proofs.Changed.{on_ok}
use Rattle.sysversion.proofs.Kept.{commit_same}
use Rattle.sysversion.proofs.table.TableVersions.commit.Goals as goal

pub returns-clause-committed : goal.returns-clause-committed
returns-clause-committed c =
    let old = c.args.self.now in
    let new = c.open_all.new.self in
    let t = c.args.t in
    let removed = removed_of c.args.changes in
    let added = added_of c.args.changes in
    on_ok c.open_all.result
    (λ opens. commit_same old.lists new.lists old.ordered new.ordered old.of_keys new.of_keys t removed added
    (λ key. opens key ∙ ap (λ vs. vs ++ map opened (rows_of key added)) (c.end_all.ensures.ended key ∙ ap (λ rs. map (ended t (rows_of key (map row_of rs))) (list_of old key)) c.as_slice.ensures.value)))
    c.open_all.ensures

pub returns-clause-few : goal.returns-clause-few
returns-clause-few c =
    let same = ap (λ rs. reads_to_end (map row_of rs) (versions_of_table c.args.self.now)) c.as_slice.ensures.value in
    let most = c.end_all.ensures.few in
    omega (arith, same, most)
