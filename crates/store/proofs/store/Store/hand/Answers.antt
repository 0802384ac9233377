use Rattle.std.proofs.Common.{◌∙◌, ap, rules, FitsSigned, w64}
use Rattle.std.specs.Prelude.{ℤ}
use Rattle.std.proofs.lemmas.Int.{to_z-of_z}
use Rattle.store.specs.Going.{Anywhere, SaysWhy}
use Rattle.store.specs.Recording.{job_of}
use Rattle.store.proofs.Going.{so_weaker}
use Rattle.store.proofs.Taking.{hands}
use Rattle.store.proofs.store.Store.hand.Goals as goal

pub returns-clause-goes : goal.returns-clause-goes
returns-clause-goes g c =
    let old = c.args.self.now in
    let says = SaysWhy c.args.member c.step.result in
    let fits : FitsSigned w64 c.args.reading = search rules in
    so_weaker g.K.Journal.Device.contents g.K.LogReader.is_honest g.K.LogReader.may_hold g.K.Keeper.holds _ Anywhere says says old c.step.new.self
    (λ w any. hands g.K.Journal.Device.contents g.K.LogReader.is_honest g.K.LogReader.may_hold g.K.Keeper.holds old c.args.member _ c.args.input w (ap (λ (r : ℤ). job_of r c.args.taken) (to_z-of_z w64 c.args.reading fits) ∙ c.requires.same)) (λ gave s. s) c.step.ensures.goes
