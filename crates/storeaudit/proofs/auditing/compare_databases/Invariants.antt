use Rattle.std.proofs.Common.{◌≡◌, length}
use Rattle.playback.specs.Scenes.{scene_of}
use Rattle.storeaudit.specs.Found.{AreAlike}
use Rattle.storeaudit.proofs.auditing.compare_databases.Given as goal

abbrev pub invariant-loop-database : goal.invariant-loop-database
invariant-loop-database g l = record {
  count : l.before ≡ length l.yielded;
  alike : AreAlike g.K.Keeper.holds g.K.Keeper.is_sound l.yielded (scene_of l.fn.play) l.before l.missing.items (scene_of l.play);
}
