use Rattle.std.proofs.Common.{sym, subst}
use Rattle.sqlchecks.specs.Columns as columns
use Rattle.node.specs.Recall.{AreNoted}
use Rattle.node.proofs.node.Node.start_again.Goals as goal

pub invariant_of-node : goal.invariant_of-node
invariant_of-node g c =
    let node = c.in-Ok.node in
    record {
      fresh = node.fresh;
      kept_up = node.kept_up;
      synced = node.synced;
      serves = node.serves;
      made = node.made;
      current = node.current;
      noted = λ up. subst (λ (t : columns.Tables). AreNoted t node.tables c.of.result) (sym c.in-Ok.ensures.group.1) (c.of.ensures c.args.schema node.tables c.requires.recall c.in-Ok.ensures.blank);
    }
