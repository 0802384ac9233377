use Rattle.std.proofs.Common.{◌∙◌, ◌+◌, map, drop, sym, ap, arith}
use Rattle.current.specs.Rows.{row_of}
use Rattle.current.proofs.Lists.{drop_here, drop_none}
use Rattle.versionlaws.specs.Committing.{ended}
use Rattle.sysversion.specs.Lists.{rows_of}
use Rattle.sysversion.specs.Versions.{list_of}
use Rattle.sysversion.proofs.Ending.{none_ends}
use Rattle.sysversion.proofs.Kept.{end_more}
use Rattle.sysversion.proofs.Counting.{list_reads, reads_of_lists, fewer_reads}
use Rattle.sysversion.proofs.table.TableVersions.end_all.Goals as goal

pub loop-row-preserved : goal.loop-row-preserved
loop-row-preserved c =
    let t = c.args.t in
    let removed = c.args.removed.now in
    let i = c.loop-row.row-index in
    let row = c.row-item.result in
    let here = drop_here removed i row c.loop-row-test.true c.row-item.is in
    let old = list_of c.loop-row.self in
    let new = list_of c.end.new.self in
    record {
      ended = λ key.
          end_more t (row_of row) old new c.end.ensures.ended (map row_of (drop (i + 1) removed)) key
          ∙ ap (λ rs. map (ended t (rows_of key (map row_of rs))) (old key)) (sym here)
          ∙ c.loop-row.invariant.ended key;
      few =
          let all = ap (λ rs. list_reads (map row_of rs) old) here in
          let left = fewer_reads t (row_of row) old new c.end.ensures.ended (map row_of (drop (i + 1) removed)) in
          let read = c.end.ensures.few in
          let most = c.loop-row.invariant.few in
          omega (arith, all, left, read, most);
    }

pub returns-clause-ended : goal.returns-clause-ended
returns-clause-ended c key =
    let t = c.args.t in
    let removed = c.args.removed.now in
    let i = c.loop-row.row-index in
    let now = list_of c.loop-row.self key in
    sym (none_ends t now) ∙ ap (λ rs. map (ended t (rows_of key (map row_of rs))) now) (sym (drop_none removed i (omega (arith, c.loop-row-test.false)))) ∙ c.loop-row.invariant.ended key

pub returns-clause-few : goal.returns-clause-few
returns-clause-few c =
    let s = c.args.self.now in
    let all = reads_of_lists s.lists s.ordered s.of_keys (map row_of c.args.removed.now) in
    let most = c.loop-row.invariant.few in
    omega (arith, all, most)
