use Rattle.std.proofs.Common.{◌≡◌}
use Rattle.world.specs.Resumed.{deeds_of, members_of, tables_of}
use Rattle.playback.specs.Laters.{all_stopped}
use Rattle.playback.proofs.later.stop_all.Given as goal

abbrev pub invariant-loop-before : goal.invariant-loop-before
invariant-loop-before l = record {
  deeds : deeds_of l.group ≡ all_stopped l.before;
  tables : tables_of l.group ≡ tables_of l.initial.group;
  members : members_of l.group ≡ members_of l.initial.group;
}
