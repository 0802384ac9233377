use Rattle.std.proofs.Common.{◌<◌, List, ℕ, length, subst, arith}
use Rattle.answertext.proofs.Joining.{flat-all, flat_after}
use Rattle.answertext.proofs.Putting.{at_err}
use Rattle.answertext.specs.Answers.{row_text}
use Rattle.answertext.proofs.answers.put_rows.Goals as goal

pub returns-in_err-put_row : goal.returns-in_err-put_row
returns-in_err-put_row g c =
    let text = row_text c.args.columns.now in
    let all = c.args.rows.now in
    let i = c.loop-row.row-index in
    let item = c.row-item.result in
    let within : i < length all = omega arith in
    let begun = g.met.S.Sink.then_begins _ _ _ _ _ c.loop-row.invariant c.in_err-put_row.ensures in
    at_err c.from_residual.result _ _ c.from_residual.ensures.0
    (subst (λ (t : List ℕ). g.S.Sink.begins c.args.sink.now t c.put_row.new.sink) (flat-all text all i item within c.row-item.is)
    (g.met.S.Sink.longer _ _ _ (flat_after text all i item within c.row-item.is) begun))
