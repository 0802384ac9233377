use Rattle.std.proofs.Common.{rules, ◌≡◌, ◌∙◌, sym, ap, arith}
use Rattle.model.specs.Members.{Node}
use Rattle.sqlread.specs.Meaning.{language_of}
use Rattle.node.proofs.Tests.{known}
use Rattle.node.proofs.Told.{told_none}
use Rattle.node.proofs.Sealed.{risen_same}
use Rattle.node.specs.View.{risen}
use Rattle.node.proofs.node.Node.step.Goals as goal

pub take_step-requires-clause-serves : goal.take_step-requires-clause-serves
take_step-requires-clause-serves g c =
    let node = c.args.self.now in
    known (g.met.K.LogReader.served_once node.keeper node.core.members (language_of node.core.schema)) node.serves

pub returns-in-Ok-Ignored-clause-told : goal.returns-in-Ok-Ignored-clause-told
returns-in-Ok-Ignored-clause-told g c = λ honest.
    let step = (rw c.in-Ok-Ignored.field-0-is at c.in-Ok-Ignored.ensures.step) honest in
    let same : c.take_step.new.core.commit ≡ c.args.self.now.core.commit = ap (λ (x : Node). x.commit) step.1 in
    c.new-in-Ok-Ignored-2.ensures.items ∙ sym (told_none _ _ _ _ (omega (arith, same)))

pub returns-in-Ok-Ignored-clause-sealed : goal.returns-in-Ok-Ignored-clause-sealed
returns-in-Ok-Ignored-clause-sealed g c = λ honest.
    let step = (rw c.in-Ok-Ignored.field-0-is at c.in-Ok-Ignored.ensures.step) honest in
    let same : c.take_step.new.core.sealed ≡ c.args.self.now.core.sealed = ap (λ (x : Node). x.sealed) step.1 in
    risen_same c.args.self.now.core.sealed ∙ ap (risen c.args.self.now.core.sealed) (sym same)

pub invariant_of-self-clause-fresh : goal.invariant_of-self-clause-fresh
invariant_of-self-clause-fresh g c = search rules
