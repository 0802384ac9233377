use Rattle.std.proofs.Common.{◌≡◌, ℕ, arith, length, rules, subst}
use Rattle.store.specs.Became.{Became}
use Rattle.store.specs.Opening.{Starts}
use Rattle.store.specs.Starting.{IsStarted}
use Rattle.store.proofs.Became.{all_became, none_became}
use Rattle.store.proofs.Closing.{next_one}
use Rattle.store.proofs.members.start_seats.Goals as goal

pub loop-at-init : goal.loop-at-init
loop-at-init g c = record {
  starts = none_became (Starts g.K.LogReader.is_honest g.K.LogReader.may_hold g.K.Keeper.holds c.args.schema.now (length c.args.seats.now.items)) c.args.seats.now.items;
  up = none_became (IsStarted g.K.LogReader.is_honest) c.args.seats.now.items;
}

pub loop-at-preserved : goal.loop-at-preserved
loop-at-preserved g c =
    let old = c.args.seats.now.items in
    let mid = c.loop-at.seats.items in
    let new = c.start_at.new.seats.items in
    let one = subst (λ (n : ℕ). Became (Starts g.K.LogReader.is_honest g.K.LogReader.may_hold g.K.Keeper.holds c.args.schema.now n) c.loop-at.at mid new) c.loop-at.invariant.starts.count c.in_ok-start_at.ensures.starts in
    record {
      starts = next_one (Starts g.K.LogReader.is_honest g.K.LogReader.may_hold g.K.Keeper.holds c.args.schema.now (length old)) c.loop-at.at old mid new c.loop-at.invariant.starts one;
      up = next_one (IsStarted g.K.LogReader.is_honest) c.loop-at.at old mid new c.loop-at.invariant.up c.in_ok-start_at.ensures.up;
    }

pub returns-clause-starts : goal.returns-clause-starts
returns-clause-starts g c =
    let old = c.args.seats.now.items in
    let len : c.len-at-end.result ≡ length old = search rules in
    let test = c.loop-at-test.false in
    all_became (Starts g.K.LogReader.is_honest g.K.LogReader.may_hold g.K.Keeper.holds c.args.schema.now (length old)) c.loop-at.at old c.loop-at.seats.items (omega (arith, len, test)) c.loop-at.invariant.starts

pub returns-clause-up : goal.returns-clause-up
returns-clause-up g c =
    let len : c.len-at-end.result ≡ length c.args.seats.now.items = search rules in
    let test = c.loop-at-test.false in
    all_became (IsStarted g.K.LogReader.is_honest) c.loop-at.at c.args.seats.now.items c.loop-at.seats.items (omega (arith, len, test)) c.loop-at.invariant.up
