use Rattle.std.proofs.Common.{List, ℕ, [], ◌∷◌, ◌++◌, map}
use Rattle.std.specs.Prelude.{codes}
use Rattle.answertext.proofs.Putting.{at_err, after}
use Rattle.answertext.specs.Answers.{joined}
use Rattle.answer.specs.declared.Column.{Column}
use Rattle.answertext.proofs.answers.put_heading.Goals as goal

-- what comes after the names, the word before them, and the line before that
abbrev names_on : List Column → List ℕ
names_on columns = joined (map (λ c. c.name) columns) ++ 10 ∷ []

abbrev columns_on : List Column → List ℕ
columns_on columns = codes "columns " ++ names_on columns

pub returns-in_err-put : goal.returns-in_err-put
returns-in_err-put g c =
    let line = rw c.instant-last.ensures at c.in_err-put.ensures in
    at_err c.from_residual.result _ _ c.from_residual.ensures.0 (g.met.S.Sink.longer _ _ _ (columns_on c.args.columns.now) line)

pub returns-in_err-put-2 : goal.returns-in_err-put-2
returns-in_err-put-2 g c =
    let line = rw c.instant-last.ensures at c.in_ok-put.ensures in
    at_err c.from_residual-in_err-put-2.result _ _ c.from_residual-in_err-put-2.ensures.0
    (g.met.S.Sink.then_begins _ _ _ _ _ line (g.met.S.Sink.longer _ _ _ (names_on c.args.columns.now) c.in_err-put-2.ensures))

pub returns-in_err-put_names : goal.returns-in_err-put_names
returns-in_err-put_names g c =
    let line = rw c.instant-last.ensures at c.in_ok-put.ensures in
    at_err c.from_residual-in_err-put_names.result _ _ c.from_residual-in_err-put_names.ensures.0
    (g.met.S.Sink.then_begins _ _ _ _ _ line
    (g.met.S.Sink.then_begins _ _ _ _ _ c.in_ok-put-2.ensures (g.met.S.Sink.longer _ _ _ (10 ∷ []) c.in_err-put_names.ensures)))

pub returns : goal.returns
returns g c =
    let line = rw c.instant-last.ensures at c.in_ok-put.ensures in
    after c.put-3.result _ _ _ _ c.put-3.ensures
    (λ t. g.met.S.Sink.then_takes _ _ _ _ _ line (g.met.S.Sink.then_takes _ _ _ _ _ c.in_ok-put-2.ensures (g.met.S.Sink.then_takes _ _ _ _ _ c.in_ok-put_names.ensures t)))
    (λ t. g.met.S.Sink.then_begins _ _ _ _ _ line (g.met.S.Sink.then_begins _ _ _ _ _ c.in_ok-put-2.ensures (g.met.S.Sink.then_begins _ _ _ _ _ c.in_ok-put_names.ensures t)))
