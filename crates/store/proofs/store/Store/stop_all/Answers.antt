use Rattle.std.proofs.Common.{◌≡◌, ℕ, ap, arith, length, refl, rules, subst, sym}
use Rattle.store.specs.Closing.{IsDownIn}
use Rattle.store.proofs.Closing.{down_all, down_next, rest_after, rest_same}
use Rattle.store.proofs.Going.{goes_on, stays}
use Rattle.store.proofs.Written.{all_on, longer_more, longer_none, on_err, part_on, same_on, then_err, then_ok}
use Rattle.store.proofs.store.Store.stop_all.Goals as goal

pub loop-at-init : goal.loop-at-init
loop-at-init g c = record {
  rests = rest_same g.K.LogReader.may_hold g.K.Keeper.holds c.args.self.now.seats.items c.args.self.now.seats.items refl;
  longer = longer_none c.args.self.now.scribe;
  spent = λ spent. spent;
  down = λ i seat below there. absurd (omega (arith, below));
  goes = stays g.K.Journal.Device.contents g.K.LogReader.is_honest g.K.LogReader.may_hold g.K.Keeper.holds c.args.self.now;
}

pub loop-at-preserved : goal.loop-at-preserved
loop-at-preserved g c = record {
  rests = rest_after g.K.LogReader.may_hold g.K.Keeper.holds c.args.self.now.seats.items c.loop-at.self.seats.items c.end.new.self.seats.items c.loop-at.invariant.rests c.end.ensures.rests;
  longer = longer_more c.args.self.now.scribe c.loop-at.self.scribe c.end.new.self.scribe c.loop-at.invariant.longer c.in_ok-end.ensures.longer;
  spent = λ spent. c.in_ok-end.ensures.spent (c.loop-at.invariant.spent spent);
  down = down_next c.loop-at.self.seats.items c.end.new.self.seats.items c.loop-at.at c.saturating_add.result (search rules) c.loop-at.invariant.down c.end.ensures.others c.in_ok-end.ensures.down;
  goes = goes_on g.K.Journal.Device.contents g.K.LogReader.is_honest g.K.LogReader.may_hold g.K.Keeper.holds c.args.self.now c.loop-at.self c.end.new.self c.loop-at.invariant.goes c.end.ensures.goes;
}

pub returns-in_err-end-clause-part : goal.returns-in_err-end-clause-part
returns-in_err-end-clause-part g c =
    let first = c.args.self.now.scribe in
    let mid = c.loop-at.self.scribe in
    on_err c.from_residual.result (part_on g.K.Journal.Device.contents first mid _ c.loop-at.invariant.longer (same_on g.K.Journal.Device.contents mid _ c.in_err-end.ensures.device))

pub returns-in_err-end-clause-rests : goal.returns-in_err-end-clause-rests
returns-in_err-end-clause-rests g c = rest_after g.K.LogReader.may_hold g.K.Keeper.holds c.args.self.now.seats.items c.loop-at.self.seats.items c.end.new.self.seats.items c.loop-at.invariant.rests c.end.ensures.rests

pub returns-clause-all : goal.returns-clause-all
returns-clause-all g c =
    then_ok c.flush.result (all_on g.K.Journal.Device.contents c.args.self.now.scribe c.loop-at.self.scribe c.flush.new.self.scribe c.loop-at.invariant.longer) c.flush.ensures.ok

pub returns-clause-part : goal.returns-clause-part
returns-clause-part g c =
    then_err c.flush.result (part_on g.K.Journal.Device.contents c.args.self.now.scribe c.loop-at.self.scribe _ c.loop-at.invariant.longer) c.flush.ensures.part

pub returns-clause-live : goal.returns-clause-live
returns-clause-live g c = then_ok c.flush.result (λ live spent. live (c.loop-at.invariant.spent spent)) c.flush.ensures.live

pub returns-clause-rests : goal.returns-clause-rests
returns-clause-rests g c =
    let mid = c.loop-at.self.seats.items in
    let last = c.flush.new.self.seats.items in
    rest_after g.K.LogReader.may_hold g.K.Keeper.holds c.args.self.now.seats.items mid last c.loop-at.invariant.rests (rest_same g.K.LogReader.may_hold g.K.Keeper.holds mid last (ap (λ t. t.seats.items) c.flush.ensures.same))

pub returns-in_err-end-clause-goes : goal.returns-in_err-end-clause-goes
returns-in_err-end-clause-goes g c = goes_on g.K.Journal.Device.contents g.K.LogReader.is_honest g.K.LogReader.may_hold g.K.Keeper.holds c.args.self.now c.loop-at.self c.end.new.self c.loop-at.invariant.goes c.end.ensures.goes

pub returns-clause-goes : goal.returns-clause-goes
returns-clause-goes g c = goes_on g.K.Journal.Device.contents g.K.LogReader.is_honest g.K.LogReader.may_hold g.K.Keeper.holds c.args.self.now c.loop-at.self c.flush.new.self c.loop-at.invariant.goes c.flush.ensures.goes

pub returns-clause-down : goal.returns-clause-down
returns-clause-down g c =
    let mid = c.loop-at.self.seats.items in
    let len : c.len-at-end.result ≡ length c.args.self.now.seats.items = search rules in
    let test = c.loop-at-test.false in
    let count = c.loop-at.invariant.rests.count in
    then_ok c.flush.result (λ live. subst (λ (seats : _). (m : ℕ) → IsDownIn seats m) (sym (ap (λ t. t.seats.items) c.flush.ensures.same)) (down_all mid c.loop-at.at (omega (arith, len, test, count)) c.loop-at.invariant.down)) c.flush.ensures.live
