use Rattle.std.proofs.Common.{◌∙◌, reverse, take, sym}
use Rattle.model.specs.Logs.{outcome}
use Rattle.sqlread.specs.Meaning.{language_of}
use Rattle.node.proofs.Applying.{close_is, told_is, not_none}
use Rattle.node.proofs.telling.apply_one.Goals as goal

pub returns-in_default-clause-told : goal.returns-in_default-clause-told
returns-in_default-clause-told c = λ schema log got are. close_is (language_of schema) log c.args.before c.args.entry.now got c.in_default.is

pub returns-in_default-outcome-clause-told : goal.returns-in_default-outcome-clause-told
returns-in_default-outcome-clause-told c = λ schema log got are.
    let e = c.args.entry.now in
    absurd (not_none (λ q. outcome (language_of schema) e.stamp q (reverse (take c.args.before log))) e.request c.in-Some.request c.in-Some.is
    (sym c.in_default-outcome.is ∙ c.in_ok-outcome.ensures.outcome schema (take c.args.before log) are))

pub returns-clause-told : goal.returns-clause-told
returns-clause-told c = λ schema log got are.
    let e = c.args.entry.now in
    told_is (language_of schema) log c.args.before e c.in-Some.request c.in-Some-outcome.outcome got c.in-Some.is
    (sym c.in-Some-outcome.is ∙ c.in_ok-outcome.ensures.outcome schema (take c.args.before log) are)
