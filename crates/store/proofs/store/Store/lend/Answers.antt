use Rattle.std.proofs.Common.{◌≡◌, ◌+◌, [], Some, length, refl, rules, subst}
use Rattle.std.proofs.lemmas.Option.{slice_get_read}
use Rattle.store.specs.Continuing.{IsKeptOn}
use Rattle.store.specs.Seats.{KeepsStored}
use Rattle.store.proofs.Written.{on_err}
use Rattle.store.proofs.store.Store.lend.Goals as goal

pub returns-in_err-check-clause-lost : goal.returns-in_err-check-clause-lost
returns-in_err-check-clause-lost g c =
    let old = c.args.self.now in
    let before = c.index_mut-seat.result.now in
    let lent : Some c.in-Some.scribe ≡ old.scribe = search rules in
    let went = subst (λ s. (on : IsKeptOn g.K.Journal.Device.contents s c.step-scribe.result.0) × (on.0.groups ≡ [] → KeepsStored g.K.LogReader.is_honest g.K.LogReader.may_hold g.K.Keeper.holds c.args.work c.step-scribe.result.1 before c.step-scribe.new.self)) lent c.step-scribe.ensures.continues in
    on_err c.from_residual.result (
      c.step-scribe.result.1,
      record {
        before = before;
        after = c.step-scribe.new.self;
        changes = record { there = slice_get_read old.seats.items (length old.seats.items) c.args.at before refl c.requires.there c.index_mut-seat.ensures.value; seats = refl; schema = refl; queue = refl; sent = refl; noted = refl; watched = refl; journal = went.0; clean = c.step-scribe.ensures.clean };
        steps = λ neat x has. c.step-scribe.ensures.steps neat old.schema (length old.seats.items) (c.args.at + 1) x has;
        stored = went.1;
      },
    )

pub returns-clause-stepped : goal.returns-clause-stepped
returns-clause-stepped g c =
    let old = c.args.self.now in
    let before = c.index_mut-seat.result.now in
    let lent : Some c.in-Some.scribe ≡ old.scribe = search rules in
    let went = subst (λ s. (on : IsKeptOn g.K.Journal.Device.contents s c.step-scribe.result.0) × (on.0.groups ≡ [] → KeepsStored g.K.LogReader.is_honest g.K.LogReader.may_hold g.K.Keeper.holds c.args.work c.step-scribe.result.1 before c.step-scribe.new.self)) lent c.step-scribe.ensures.continues in
    record {
      before = before;
      after = c.step-scribe.new.self;
      changes = record { there = slice_get_read old.seats.items (length old.seats.items) c.args.at before refl c.requires.there c.index_mut-seat.ensures.value; seats = refl; schema = refl; queue = refl; sent = refl; noted = refl; watched = refl; journal = went.0; clean = c.step-scribe.ensures.clean };
      steps = λ neat x has. c.step-scribe.ensures.steps neat old.schema (length old.seats.items) (c.args.at + 1) x has;
      stored = went.1;
    }
