use Rattle.std.proofs.Common.{Some, [], subst, sym, refl}
use Rattle.store.specs.Continuing.{IsKeptOn}
use Rattle.store.proofs.Continuing.{kept_none}
use Rattle.store.proofs.Going.{only_scribe, publishes_at, publishes_none, publishes_on}
use Rattle.store.proofs.store.Store.spend.Goals as goal
use Rattle.store.proofs.store.Store.spend.Goals.{in-Some, in_default}

pub returns-clause-passes : goal.returns-clause-passes
returns-clause-passes g c =
    let contents = g.K.Journal.Device.contents in
    let honest = g.K.LogReader.is_honest in
    let held = g.K.LogReader.may_hold in
    let holds = g.K.Keeper.holds in
    let old = c.args.self.now in
    elim c.match-self.branch [
      | in-Some w ↦ publishes_at contents honest held holds old (record old { scribe = Some w.spend.new.self }) c.match-self.self [] [] w.self-is
          (only_scribe contents honest held holds old (record old { scribe = Some w.spend.new.self }) refl
          (subst (λ s. IsKeptOn contents s (Some w.spend.new.self)) (sym w.in-Some.is) (kept_none contents (Some w.in-Some.scribe) (Some w.spend.new.self) w.spend.ensures.continues)) (λ was. w.spend.ensures.spent))
      | in_default w ↦ publishes_at contents honest held holds old old c.match-self.self [] [] w.self-is (publishes_none contents honest held holds old)
    ]

pub returns-clause-goes : goal.returns-clause-goes
returns-clause-goes g c = publishes_on g.K.Journal.Device.contents g.K.LogReader.is_honest g.K.LogReader.may_hold g.K.Keeper.holds c.args.self.now c.match-self.self (returns-clause-passes g c)
