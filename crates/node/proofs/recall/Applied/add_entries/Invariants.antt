use Rattle.std.proofs.Common.{◌≡◌, ◌++◌, take}
use Rattle.node.proofs.recall.Applied.add_entries.Given as goal

abbrev pub invariant-loop-entry : goal.invariant-loop-entry
invariant-loop-entry l = record {
  entries : l.self.entries.items ≡ l.initial.self.entries.items ++ take l.entry-index l.entries;
  told : l.self.told ≡ l.initial.self.told;
}
