use Rattle.std.proofs.Common.{◌≡◌, take}
use Rattle.std.specs.Prelude.{fold}
use Rattle.store.specs.Chains.{link_entry}
use Rattle.store.proofs.chain.Chain.push_all.Given as goal

abbrev pub invariant-loop-entry : goal.invariant-loop-entry
invariant-loop-entry l = l.self.links.items ≡ fold link_entry l.initial.self.links.items (take l.entry-index l.entries)
