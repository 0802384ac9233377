use Rattle.std.proofs.lemmas.Result.{IfOk-weaker}
use Rattle.std.proofs.Common.{refl, sym, ◌∙◌}
use Rattle.fault.specs.declared.refusal.Refusal.TheVariants.{OutOfRange}
use Rattle.period.proofs.ReadingLemmas.{whole_date-some, whole_date-none}
use Rattle.period.proofs.DayLemmas.{ok_or-IfOk, ok_or-no_syntax, found_day, IsDayText-date_shape, IsDayText-day_text}
use Rattle.period.specs.declared.day.Day.{Day}
use Rattle.period.proofs.day.Day.read.Goals as goal

pub day_of-requires : goal.day_of-requires
day_of-requires c = (whole_date-some c.as_bytes.result.now c.in-Some.parts (sym c.whole_date.ensures ∙ c.in-Some.is)).1

pub returns-in-Some-clause-value : goal.returns-in-Some-clause-value
returns-in-Some-clause-value c =
    let read = whole_date-some c.as_bytes.result.now c.in-Some.parts (sym c.whole_date.ensures ∙ c.in-Some.is) in
    let spelled = sym read.0 ∙ c.as_bytes.ensures.value in
    rw c.ok_or.ensures.value (ok_or-IfOk c.day_of.result OutOfRange _ (rw spelled at c.day_of.ensures.some))

pub returns-in-Some-clause-every : goal.returns-in-Some-clause-every
returns-in-Some-clause-every c = λ n is.
    let read = whole_date-some c.as_bytes.result.now c.in-Some.parts (sym c.whole_date.ensures ∙ c.in-Some.is) in
    let spelled = sym read.0 ∙ c.as_bytes.ensures.value in
    rw c.ok_or.ensures.value (found_day (λ (d : Day). d.number) c.day_of.result OutOfRange c.args.text.now (rw spelled at c.day_of.ensures.some) (rw spelled at c.day_of.ensures.none) n is)

pub returns-in-Some-clause-shape : goal.returns-in-Some-clause-shape
returns-in-Some-clause-shape c =
    let read = whole_date-some c.as_bytes.result.now c.in-Some.parts (sym c.whole_date.ensures ∙ c.in-Some.is) in (
      λ e. absurd (ok_or-no_syntax c.day_of.result c.args.at (sym c.ok_or.ensures.value ∙ e)),
      λ none. absurd (none (c.in-Some.parts, (read.1, sym c.as_bytes.ensures.value ∙ read.0))),
    )

pub returns-in-None-clause-every : goal.returns-in-None-clause-every
returns-in-None-clause-every c = λ day is.
    let none = rw c.as_bytes.ensures.value at (whole_date-none c.as_bytes.result.now (sym c.whole_date.ensures ∙ c.in-None.is)) in
    absurd (none (IsDayText-date_shape day c.args.text.now is))

pub returns-in-None-clause-shape : goal.returns-in-None-clause-shape
returns-in-None-clause-shape c =
    let none = rw c.as_bytes.ensures.value at (whole_date-none c.as_bytes.result.now (sym c.whole_date.ensures ∙ c.in-None.is)) in
    (λ e. none, λ no. refl)

pub returns-in-Some-clause-prints : goal.returns-in-Some-clause-prints
returns-in-Some-clause-prints c =
    IfOk-weaker c.ok_or.result _ _ (λ day is. IsDayText-day_text day.number c.args.text.now is) (returns-in-Some-clause-value c)
