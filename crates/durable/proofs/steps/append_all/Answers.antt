use Rattle.std.proofs.Common.{◌∙◌, arith}
use Rattle.sqlite.specs.State.{HasCleanDisk}
use Rattle.sqlite.specs.Held.{state}
use Rattle.durable.proofs.Stepping.{passes_at, small_term, survives_none, keeps_then, goes_further, next_place}
use Rattle.durable.proofs.Texts.{texts_more}
use Rattle.durable.proofs.steps.append_all.Goals as goal

pub append_one-requires-clause-small : goal.append_one-requires-clause-small
append_one-requires-clause-small g c = small_term _ (passes_at _ c.args.entries.now c.each.entry-index c.entry-item.result c.requires.terms c.each-test.true c.entry-item.is)

pub append_one-requires-clause-next : goal.append_one-requires-clause-next
append_one-requires-clause-next g c clean =
    let early : HasCleanDisk (state g.S.Store c.args.tx.now.conn.now) = omega (arith, c.each.invariant.kept.clean) in
    let place = c.requires.next early in
    let goes = c.each.invariant.goes clean in
    (_, goes.holds place.0 place.1, c.each.invariant.counted ∙ next_place place.0 c.args.entries.now c.each.entry-index c.args.from.value place.2 c.each.auto.entry-index-end)

pub each-preserved : goal.each-preserved
each-preserved g c = record {
  counted = omega arith;
  same = c.append_one.ensures.same_reference ∙ c.each.invariant.same;
  kept = survives_none _ _ _ c.each.invariant.kept c.append_one.ensures.survives;
  keeps = λ clean.
      let early : HasCleanDisk (state g.S.Store c.each.tx.conn.now) = omega (arith, c.append_one.ensures.survives.clean) in
      keeps_then _ _ _ (c.each.invariant.keeps early) (c.append_one.ensures.keeps clean);
  texts = texts_more c.args.entries.now c.each.entry-index c.entry-item.result c.each-test.true c.entry-item.is c.each.invariant.texts c.in_ok-append_one.ensures.texts;
  goes = λ clean.
      let early : HasCleanDisk (state g.S.Store c.each.tx.conn.now) = omega (arith, c.append_one.ensures.survives.clean) in
      goes_further _ _ _ c.args.entries.now c.each.entry-index c.entry-item.result c.each-test.true c.entry-item.is (c.each.invariant.goes early) (c.in_ok-append_one.ensures.ok clean);
}

pub returns-in_err-append_one-clause-keeps : goal.returns-in_err-append_one-clause-keeps
returns-in_err-append_one-clause-keeps g c clean =
    let early : HasCleanDisk (state g.S.Store c.each.tx.conn.now) = omega (arith, c.append_one.ensures.survives.clean) in
    keeps_then _ _ _ (c.each.invariant.keeps early) (c.append_one.ensures.keeps clean)
