use Rattle.std.proofs.Common.{◌≡◌, true, slice_range}
use Rattle.node.specs.Member.{me_of, member_of, IsSameSeat}
use Rattle.store.proofs.since.entries_after.Given as goal

abbrev pub invariant-loop-place : goal.invariant-loop-place
invariant-loop-place g l = record {
  up : l.node.is_up ≡ true;
  honest : g.K.LogReader.is_honest l.node.keeper → g.K.LogReader.is_honest l.initial.node.keeper;
  same : g.K.LogReader.is_honest l.node.keeper → member_of l.node ≡ member_of l.initial.node;
  read : g.K.LogReader.is_honest l.node.keeper → l.entries.items ≡ slice_range (member_of l.initial.node).log l.after l.place;
  me : me_of l.node ≡ me_of l.initial.node;
  group : IsSameSeat l.initial.node l.node;
}
