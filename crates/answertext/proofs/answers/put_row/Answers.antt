use Rattle.std.proofs.Common.{List, ℕ, [], ◌∷◌, ◌++◌, map}
use Rattle.answertext.proofs.Putting.{at_err, after}
use Rattle.answertext.specs.Answers.{joined, slot_text}
use Rattle.answer.specs.declared.Column.{Column}
use Rattle.answer.specs.declared.Shown.{Shown}
use Rattle.answertext.proofs.answers.put_row.Goals as goal

-- what comes after the word
abbrev slots_on : List Column → Shown → List ℕ
slots_on columns row = joined (map (λ c. slot_text row c.shows) columns) ++ 10 ∷ []

pub returns-in_err-put : goal.returns-in_err-put
returns-in_err-put g c =
    at_err c.from_residual.result _ _ c.from_residual.ensures.0
    (g.met.S.Sink.longer _ _ _ (slots_on c.args.columns.now c.args.row.now) c.in_err-put.ensures)

pub returns-in_err-put_slots : goal.returns-in_err-put_slots
returns-in_err-put_slots g c =
    at_err c.from_residual-in_err-put_slots.result _ _ c.from_residual-in_err-put_slots.ensures.0
    (g.met.S.Sink.then_begins _ _ _ _ _ c.in_ok-put.ensures (g.met.S.Sink.longer _ _ _ (10 ∷ []) c.in_err-put_slots.ensures))

pub returns : goal.returns
returns g c =
    after c.put-2.result _ _ _ _ c.put-2.ensures
    (λ t. g.met.S.Sink.then_takes _ _ _ _ _ c.in_ok-put.ensures (g.met.S.Sink.then_takes _ _ _ _ _ c.in_ok-put_slots.ensures t))
    (λ t. g.met.S.Sink.then_begins _ _ _ _ _ c.in_ok-put.ensures (g.met.S.Sink.then_begins _ _ _ _ _ c.in_ok-put_slots.ensures t))
