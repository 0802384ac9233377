use Rattle.sysversion.specs.Versions.{list_of}
use Rattle.sysversion.proofs.Kept.{open_more}
use Rattle.sysversion.proofs.table.TableVersions.open_all.Goals as goal

pub loop-row-preserved : goal.loop-row-preserved
loop-row-preserved c key =
    open_more c.in-Some.row (list_of c.loop-row.self) (list_of c.open.new.self) c.in_ok-open.ensures.ok c.loop-row.yielded (list_of c.args.self.now key) key (c.loop-row.invariant key)
