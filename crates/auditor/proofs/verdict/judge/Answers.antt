use Rattle.std.proofs.Common.{◌≡◌, ◌∙◌, ap}
use Rattle.moments.specs.Judged.{judged_from}
use Rattle.auditor.proofs.Verdicts.{explained_same, fault_same}
use Rattle.auditor.proofs.verdict.judge.Goals as goal

pub returns-clause-yes : goal.returns-clause-yes
returns-clause-yes c =
    let records = c.args.records.now in
    let same : c.as_slice-2.result.now ≡ judged_from 1 records.answers.items = c.as_slice-2.ensures.value ∙ (c.in_ok-answers.ensures ∙ ap (judged_from 1) c.as_slice.ensures.value) in
    explained_same c.check_run.result c.args.version c.args.schema.now c.as_slice-lives.result.now records.lives.items c.as_slice-2.result.now (judged_from 1 records.answers.items) c.as_slice-lives.ensures.value same c.check_run.ensures.yes

pub returns-clause-no : goal.returns-clause-no
returns-clause-no c =
    let records = c.args.records.now in
    let same : c.as_slice-2.result.now ≡ judged_from 1 records.answers.items = c.as_slice-2.ensures.value ∙ (c.in_ok-answers.ensures ∙ ap (judged_from 1) c.as_slice.ensures.value) in
    fault_same c.check_run.result c.args.version c.args.schema.now c.as_slice-lives.result.now records.lives.items c.as_slice-2.result.now (judged_from 1 records.answers.items) c.as_slice-lives.ensures.value same c.check_run.ensures.no
