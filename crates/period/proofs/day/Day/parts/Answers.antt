use Rattle.std.proofs.Common.{◌≡◌, ◌+ℤ◌, pos, rules, w16, to_z-of_z, FitsSigned}
use Rattle.jiff_core.specs.Date.{epoch_day}
use Rattle.period.proofs.DayLemmas.{day_text-date_text, parts_of_date, parts_of_date_is}
use Rattle.period.proofs.day.Day.parts.Goals as goal

pub returns-clause-text : goal.returns-clause-text
returns-clause-text c =
    let date = c.from_days_since_min-date.result in
    let is : epoch_day date +ℤ pos 719_162 ≡ pos c.args.self.number = search rules in
    let fits : FitsSigned w16 date.year = search rules in
    let year = rw (to_z-of_z fits) at c.unsigned_abs.ensures.value in
    rw year (day_text-date_text (parts_of_date date) c.args.self.number (parts_of_date_is date c.args.self.number is))
