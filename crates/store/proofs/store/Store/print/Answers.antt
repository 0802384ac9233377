use Rattle.std.proofs.Common.{◌≡◌, rules, subst, sym}
use Rattle.journal.specs.declared.line.Line.TheVariants.{Printed}
use Rattle.store.specs.Recording.{IsSilent}
use Rattle.store.specs.Words.{words_of}
use Rattle.store.proofs.Going.{goes_on}
use Rattle.store.proofs.store.Store.print.Goals as goal

pub returns-clause-goes : goal.returns-clause-goes
returns-clause-goes g c =
    let printed : c.in-Ok.line ≡ Printed c.args.client c.args.number (words_of c.args.outcome.now) = search rules in
    goes_on g.K.Journal.Device.contents g.K.LogReader.is_honest g.K.LogReader.may_hold g.K.Keeper.holds c.args.self.now c.write.new.self c.flush.new.self (c.write.ensures.goes (subst IsSilent (sym printed) tt)) c.flush.ensures.goes
