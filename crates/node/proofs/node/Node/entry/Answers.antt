use Rattle.std.proofs.Common.{sym, subst}
use Rattle.std.proofs.lemmas.Grind.{merely}
use Rattle.keep.specs.Durable.{Durable}
use Rattle.sqlread.specs.Meaning.{language_of}
use Rattle.model.specs.Members.{applied}
use Rattle.apply.specs.View.{AreTables}
use Rattle.raft.specs.View.{IsInStep, node_of}
use Rattle.node.proofs.Fetching.{reached}
use Rattle.node.proofs.Tests.{known}
use Rattle.node.proofs.node.Node.entry.Goals as goal

pub invariant_of-self : goal.invariant_of-self
invariant_of-self g c =
    let node = c.args.self.now in
    let core = node.core in
    let tables = node.tables in
    let read = c.entry.ensures.reader in
    let serves = known (g.met.K.LogReader.served_once node.keeper core.members (language_of core.schema)) node.serves in
    record {
      fresh = node.fresh;
      kept_up = λ up. c.in-Ok.ensures.up;
      synced = λ up honest. subst (λ (d : Durable). IsInStep core d) (sym (read.same honest)) (node.synced up (read.honest honest));
      serves = merely (read.serves core.members (language_of core.schema) serves);
      made = node.made;
      noted = node.noted;
      current = λ up honest. subst (λ (d : Durable). AreTables core.schema (applied (node_of core d.log)) tables) (sym (read.same honest)) (node.current up (read.honest honest));
    }

pub invariant_of-self-in-Err-clause-serves : goal.invariant_of-self-in-Err-clause-serves
invariant_of-self-in-Err-clause-serves g c =
    let node = c.args.self.now in
    let core = node.core in
    merely (c.entry.ensures.reader.serves core.members (language_of core.schema) (known (g.met.K.LogReader.served_once node.keeper core.members (language_of core.schema)) node.serves))

pub returns-in-Ok-clause-ok : goal.returns-in-Ok-clause-ok
returns-in-Ok-clause-ok g c = λ honest.
    let node = c.args.self.now in
    c.in-Ok.ensures.ok honest (reached node.core (g.K.LogReader.stored node.keeper) (node.synced c.if-not-self.false (c.entry.ensures.reader.honest honest)))
