use Rattle.std.proofs.Common.{◌≡◌, ◌++◌, take}
use Rattle.node.proofs.recall.Applied.add_told.Given as goal

abbrev pub invariant-loop-one : goal.invariant-loop-one
invariant-loop-one l = record {
  told : l.self.told.items ≡ l.initial.self.told.items ++ take l.one-index l.told;
  entries : l.self.entries ≡ l.initial.self.entries;
}
