use Rattle.std.proofs.Common.{◌<◌, ◌++◌, List, ℕ, length, subst, arith}
use Rattle.answertext.proofs.Joining.{flat-next, flat-all, flat_after}
use Rattle.answertext.proofs.Putting.{fault_in}
use Rattle.rowtext.proofs.parts.put_more.Goals as goal

pub returns-in_err-put : goal.returns-in_err-put
returns-in_err-put g c =
    let all = c.args.parts.now in
    let i = c.loop-part.part-index in
    let item = c.part-item.result in
    let within : i < length all = omega arith in
    let begun = g.met.S.Sink.longer _ _ _ (g.P.Part.text c.args.table.now item) c.in_err-put.ensures in
    fault_in g.S.Sink.takes g.S.Sink.begins _ _ c.from_residual.result _ _ c.from_residual.ensures.0 (flat-all (λ p. c.args.separator.now ++ g.P.Part.text c.args.table.now p) all i item within c.part-item.is)
    (g.met.S.Sink.longer _ _ _ (flat_after (λ p. c.args.separator.now ++ g.P.Part.text c.args.table.now p) all i item within c.part-item.is) (g.met.S.Sink.then_begins _ _ _ _ _ c.loop-part.invariant begun))

pub returns-in_err-put-2 : goal.returns-in_err-put-2
returns-in_err-put-2 g c =
    let all = c.args.parts.now in
    let i = c.loop-part.part-index in
    let item = c.part-item.result in
    let within : i < length all = omega arith in
    let begun = g.met.S.Sink.then_begins _ _ _ _ _ c.in_ok-put.ensures c.in_err-put-2.ensures in
    fault_in g.S.Sink.takes g.S.Sink.begins _ _ c.from_residual-in_err-put-2.result _ _ c.from_residual-in_err-put-2.ensures.0 (flat-all (λ p. c.args.separator.now ++ g.P.Part.text c.args.table.now p) all i item within c.part-item.is)
    (g.met.S.Sink.longer _ _ _ (flat_after (λ p. c.args.separator.now ++ g.P.Part.text c.args.table.now p) all i item within c.part-item.is) (g.met.S.Sink.then_begins _ _ _ _ _ c.loop-part.invariant begun))

pub loop-part-preserved : goal.loop-part-preserved
loop-part-preserved g c =
    let all = c.args.parts.now in
    let i = c.loop-part.part-index in
    let item = c.part-item.result in
    let within : i < length all = omega arith in
    let one = g.met.S.Sink.then_takes _ _ _ _ _ c.in_ok-put.ensures c.in_ok-put-2.ensures in
    subst (λ (t : List ℕ). g.S.Sink.takes c.args.sink.now t c.put-in-loop-part.new.sink) (flat-next (λ p. c.args.separator.now ++ g.P.Part.text c.args.table.now p) all i item within c.part-item.is)
    (g.met.S.Sink.then_takes _ _ _ _ _ c.loop-part.invariant one)
