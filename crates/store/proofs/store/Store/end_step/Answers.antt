use Rattle.std.proofs.Common.{◌≡◌, subst}
use Rattle.std.specs.List.{Contains}
use Rattle.flight.specs.Telling.{outcomes_of}
use Rattle.store.specs.Noting.{first_told, noted_after}
use Rattle.store.specs.Recording.{AreOf}
use Rattle.store.proofs.Continuing.{kept_none}
use Rattle.store.proofs.Going.{ends_spent, made_then, noted_spent, only_scribe, publishes_then, spent_any}
use Rattle.store.proofs.Recording.{made_told}
use Rattle.store.proofs.store.Store.end_step.Goals as goal

pub returns-in_default-clause-passes : goal.returns-in_default-clause-passes
returns-in_default-clause-passes g c =
    let told = c.args.out.told.items in
    let messages = c.args.out.messages.items in
    ends_spent g.K.Journal.Device.contents g.K.LogReader.is_honest g.K.LogReader.may_hold g.K.Keeper.holds c.args.member c.args.self.now c.spend.new.self messages told
    (noted_spent g.K.Journal.Device.contents g.K.LogReader.is_honest g.K.LogReader.may_hold g.K.Keeper.holds c.args.self.now c.note.new.self c.spend.new.self messages told c.note.ensures.same c.spend.ensures.passes c.spend.ensures.fails) c.spend.ensures.fails

pub returns-in_err-write-clause-passes : goal.returns-in_err-write-clause-passes
returns-in_err-write-clause-passes g c =
    let contents = g.K.Journal.Device.contents in
    let told = c.args.out.told.items in
    let messages = c.args.out.messages.items in
    let mid = c.note.new.self in
    let lost = only_scribe contents g.K.LogReader.is_honest g.K.LogReader.may_hold g.K.Keeper.holds mid c.write.new.self c.write.ensures.same (kept_none contents mid.scribe c.write.new.self.scribe c.in_err-write.ensures.lost) (λ was. c.in_err-write.ensures.fails) in
    ends_spent contents g.K.LogReader.is_honest g.K.LogReader.may_hold g.K.Keeper.holds c.args.member c.args.self.now c.write.new.self messages told
    (noted_spent contents g.K.LogReader.is_honest g.K.LogReader.may_hold g.K.Keeper.holds c.args.self.now mid c.write.new.self messages told c.note.ensures.same lost c.in_err-write.ensures.fails) c.in_err-write.ensures.fails

pub returns-in_err-send_all-clause-passes : goal.returns-in_err-send_all-clause-passes
returns-in_err-send_all-clause-passes g c =
    let told = c.args.out.told.items in
    let messages = c.args.out.messages.items in
    let outcomes = c.in-Ok.outcomes in
    let sent = spent_any g.K.Journal.Device.contents g.K.LogReader.is_honest g.K.LogReader.may_hold g.K.Keeper.holds c.write.new.self c.send_all.new.self messages messages told c.send_all.ensures.passes c.in_err-send_all.ensures.fails in
    made_then g.K.Journal.Device.contents g.K.LogReader.is_honest g.K.LogReader.may_hold g.K.Keeper.holds c.args.member outcomes c.args.self.now c.note.new.self c.write.new.self c.send_all.new.self messages told
    (made_told c.args.member told outcomes (subst (λ all. AreOf (Contains all) outcomes) c.deref.ensures.value c.in-Ok.ensures.tells))
    (subst (λ all. (outcomes ≡ outcomes_of (first_told c.args.self.now.noted all)) × (c.note.new.self.noted ≡ noted_after c.args.self.now.noted all)) c.deref.ensures.value c.in-Ok.ensures.all)
    c.note.ensures.same c.write.ensures.same c.in_ok-write.ensures.live c.in_ok-write.ensures.continues sent

pub returns-clause-passes : goal.returns-clause-passes
returns-clause-passes g c =
    let told = c.args.out.told.items in
    let messages = c.args.out.messages.items in
    let outcomes = c.in-Ok.outcomes in
    let rest = publishes_then g.K.Journal.Device.contents g.K.LogReader.is_honest g.K.LogReader.may_hold g.K.Keeper.holds c.write.new.self c.send_all.new.self c.hear_all.new.self messages told c.send_all.ensures.passes c.hear_all.ensures in
    made_then g.K.Journal.Device.contents g.K.LogReader.is_honest g.K.LogReader.may_hold g.K.Keeper.holds c.args.member outcomes c.args.self.now c.note.new.self c.write.new.self c.hear_all.new.self messages told
    (made_told c.args.member told outcomes (subst (λ all. AreOf (Contains all) outcomes) c.deref.ensures.value c.in-Ok.ensures.tells))
    (subst (λ all. (outcomes ≡ outcomes_of (first_told c.args.self.now.noted all)) × (c.note.new.self.noted ≡ noted_after c.args.self.now.noted all)) c.deref.ensures.value c.in-Ok.ensures.all)
    c.note.ensures.same c.write.ensures.same c.in_ok-write.ensures.live c.in_ok-write.ensures.continues rest
