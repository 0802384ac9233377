use Rattle.unsynced.proofs.Frozen.{stays-frozen}
use Rattle.unsynced.proofs.disk.UnsyncedDisk.write_at.Goals as goal

pub returns-clause-frozen : goal.returns-clause-frozen
returns-clause-frozen g c = stays-frozen g.D.Disk.seen g.D.Disk.may_leave g.D.Disk.is_clean g.D.Disk.is_frozen _ c.args.self.now.syncs c.args.self.now.inner c.write_at.new.self c.write_at.ensures.frozen
