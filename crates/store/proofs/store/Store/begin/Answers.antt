use Rattle.std.proofs.Common.{◌∙◌, ap}
use Rattle.store.specs.Lines.{and_then}
use Rattle.store.proofs.Continuing.{continued_both}
use Rattle.store.proofs.Going.{goes_on}
use Rattle.store.proofs.Opening.{begins}
use Rattle.store.proofs.store.Store.begin.Goals as goal

pub returns-clause-begins : goal.returns-clause-begins
returns-clause-begins g c =
    let on = goes_on g.K.Journal.Device.contents g.K.LogReader.is_honest g.K.LogReader.may_hold g.K.Keeper.holds c.write_head.new.self c.lead.new.self c.settle.new.self c.lead.ensures.goes c.settle.ensures.goes in
    let same = c.write_head.ensures.same in
    begins g.K.LogReader.is_honest g.K.LogReader.may_hold g.K.Keeper.holds g.K.Journal.Device.contents c.args.members c.args.scribe c.write_head.new.self c.settle.new.self (ap (λ t. t.schema) same) (ap (λ t. t.seats.items) same) (ap (λ t. t.queue.items) same ∙ c.new.ensures.items) (ap (λ t. t.sent) same) c.in_ok-write_head.ensures.noted c.in_ok-write_head.ensures.heads on

pub returns-clause-journal : goal.returns-clause-journal
returns-clause-journal g c =
    let contents = g.K.Journal.Device.contents in
    let mid = c.write_head.new.self.scribe in
    let one = c.lead.ensures.goes in
    let two = c.settle.ensures.goes in
    (mid, c.in_ok-write_head.ensures.opens, (and_then one.lines two.lines, continued_both contents mid c.lead.new.self.scribe c.settle.new.self.scribe one.lines two.lines one.journal two.journal))
