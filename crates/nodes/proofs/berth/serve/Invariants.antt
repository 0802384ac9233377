use Rattle.std.proofs.Common.{◌≡◌}
use Rattle.node.specs.Member.{members_of, tables_of}
use Rattle.nodes.proofs.berth.serve.Given as goal

abbrev pub invariant-loop : goal.invariant-loop
invariant-loop g l = (tables_of l.cell.node ≡ tables_of l.initial.cell.node) × (members_of l.cell.node ≡ members_of l.initial.cell.node)
