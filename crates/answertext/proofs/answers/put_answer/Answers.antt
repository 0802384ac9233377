use Rattle.std.proofs.Common.{List, ℕ, ◌++◌, length}
use Rattle.std.specs.List.{flat_map}
use Rattle.answertext.proofs.Putting.{at_err, after}
use Rattle.answertext.specs.Answers.{answer_text, row_text, count_text}
use Rattle.answer.specs.declared.Answer.{Answer}
use Rattle.answertext.proofs.answers.put_answer.Goals as goal

-- what comes after the heading
abbrev rows_on : Answer → List ℕ
rows_on answer = flat_map (row_text answer.columns.items) answer.rows.items ++ count_text (length answer.rows.items)

pub returns-in_err-put_heading : goal.returns-in_err-put_heading
unfolding answer_text
returns-in_err-put_heading g c =
    let heading = rw c.as_slice-columns.ensures.value at c.in_err-put_heading.ensures in
    at_err c.from_residual.result _ _ c.from_residual.ensures.0 (g.met.S.Sink.longer _ _ _ (rows_on c.args.answer.now) heading)

pub returns-in_err-put_rows : goal.returns-in_err-put_rows
unfolding answer_text
returns-in_err-put_rows g c =
    let heading = rw c.as_slice-columns.ensures.value at c.in_ok-put_heading.ensures in
    let rows = rw (c.as_slice-columns.ensures.value, c.as_slice-rows.ensures.value) at c.in_err-put_rows.ensures in
    at_err c.from_residual-in_err-put_rows.result _ _ c.from_residual-in_err-put_rows.ensures.0
    (g.met.S.Sink.then_begins _ _ _ _ _ heading (g.met.S.Sink.longer _ _ _ (count_text (length c.args.answer.now.rows.items)) rows))

pub returns : goal.returns
unfolding answer_text
returns g c =
    let heading = rw c.as_slice-columns.ensures.value at c.in_ok-put_heading.ensures in
    let rows = rw (c.as_slice-columns.ensures.value, c.as_slice-rows.ensures.value) at c.in_ok-put_rows.ensures in
    after c.put_count.result _ _ _ _ (rw c.as_slice-rows.ensures.value at c.put_count.ensures)
    (λ t. g.met.S.Sink.then_takes _ _ _ _ _ heading (g.met.S.Sink.then_takes _ _ _ _ _ rows t))
    (λ t. g.met.S.Sink.then_begins _ _ _ _ _ heading (g.met.S.Sink.then_begins _ _ _ _ _ rows t))
