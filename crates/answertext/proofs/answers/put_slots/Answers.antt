use Rattle.std.proofs.Common.{◌<◌, List, ℕ, length, subst, arith}
use Rattle.answertext.proofs.Joining.{joined-next, joined-all, joined_after, comma-next}
use Rattle.answertext.proofs.Putting.{at_err}
use Rattle.answer.specs.declared.Column.{Column}
use Rattle.answer.specs.declared.Shown.{Shown}
use Rattle.answertext.specs.Answers.{slot_text}
use Rattle.answertext.proofs.answers.put_slots.Goals as goal

abbrev slot : Shown → Column → List ℕ
slot row column = slot_text row column.shows

pub returns-in_err-put : goal.returns-in_err-put
returns-in_err-put g c =
    let all = c.args.columns.now in
    let i = c.loop-column.column-index in
    let item = c.column-item.result in
    let within : i < length all = omega arith in
    let rest = joined_after (slot c.args.row.now) all i item within c.column-item.is c.loop-column.comma.now c.loop-column.invariant.0 in
    let whole = joined-all (slot c.args.row.now) all i item within c.column-item.is c.loop-column.comma.now c.loop-column.invariant.0 in
    let begun = g.met.S.Sink.then_begins _ _ _ _ _ c.loop-column.invariant.1 c.in_err-put.ensures in
    at_err c.from_residual.result _ _ c.from_residual.ensures.0
    (subst (λ (t : List ℕ). g.S.Sink.begins c.args.sink.now t c.put.new.self) whole (g.met.S.Sink.longer _ _ _ rest begun))

pub loop-column-preserved : goal.loop-column-preserved
loop-column-preserved g c =
    let all = c.args.columns.now in
    let i = c.loop-column.column-index in
    let item = c.column-item.result in
    let within : i < length all = omega arith in
    let next = joined-next (slot c.args.row.now) all i item within c.column-item.is c.loop-column.comma.now c.loop-column.invariant.0 in (
      comma-next (slot c.args.row.now) all i item within c.column-item.is c.loop-column.comma.now c.loop-column.invariant.0,
      subst (λ (t : List ℕ). g.S.Sink.takes c.args.sink.now t c.put.new.self) next (g.met.S.Sink.then_takes _ _ _ _ _ c.loop-column.invariant.1 c.in_ok-put.ensures),
    )
