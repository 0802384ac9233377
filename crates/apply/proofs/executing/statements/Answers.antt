use Rattle.rowlaws.proofs.RowFacts.{both}
use Rattle.apply.proofs.Transacted.{read_is, unread_is}
use Rattle.apply.proofs.executing.statements.Goals as goal

pub returns-in-Ok : goal.returns-in-Ok
returns-in-Ok c = read_is c.args.schema.now c.args.text.now c.in-Ok.transaction.statements.items c.in-Ok.ensures

pub returns-else-is_no_memory : goal.returns-else-is_no_memory
returns-else-is_no_memory c =
    unread_is c.args.schema.now c.args.text.now c.new.result.items c.in-Err.refusal c.new.ensures.items (λ h. both (c.is_no_memory.ensures.1 h) c.if-is_no_memory.false) c.in-Err.ensures
