use Rattle.std.proofs.Common.{arith, ◌≤ℤ◌, ◌-◌, pos}
use Rattle.jiff_core.proofs.SignedLemmas.{signed_arith}
use Rattle.period.proofs.DayLemmas.{days_since_min-from, moved_days}
use Rattle.period.proofs.day.day_of_date.Goals as goal

pub overflow_sub-result : goal.overflow_sub-result
overflow_sub-result c =
    let first : pos 1 ≤ℤ c.args.date.year = omega (arith, signed_arith, c.if-date-lt1.false) in
    days_since_min-from c.args.date _ first c.days_since_min.ensures.value

pub returns-clause-value : goal.returns-clause-value
returns-clause-value c =
    let first : pos 1 ≤ℤ c.args.date.year = omega (arith, signed_arith, c.if-date-lt1.false) in
    let from = days_since_min-from c.args.date _ first c.days_since_min.ensures.value in
    moved_days c.args.date _ (c.days_since_min.result - 3_652_425) (omega arith) c.days_since_min.ensures.value
