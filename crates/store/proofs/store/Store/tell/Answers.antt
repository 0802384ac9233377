use Rattle.std.proofs.Common.{◌≡◌, rules, string_bytes, subst, sym}
use Rattle.journal.specs.declared.line.Line.TheVariants.{Answer}
use Rattle.store.specs.Recording.{IsSilent}
use Rattle.store.proofs.Going.{goes_on}
use Rattle.store.proofs.store.Store.tell.Goals as goal

pub returns-clause-goes : goal.returns-clause-goes
returns-clause-goes g c =
    let told : c.in-Ok.line ≡ Answer c.args.member c.args.query.now (string_bytes c.args.words) = search rules in
    goes_on g.K.Journal.Device.contents g.K.LogReader.is_honest g.K.LogReader.may_hold g.K.Keeper.holds c.args.self.now c.write.new.self c.settle.new.self (c.write.ensures.goes (subst IsSilent (sym told) tt)) c.settle.ensures.goes
