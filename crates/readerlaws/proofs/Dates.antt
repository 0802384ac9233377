-- The days of the worked example in the calendar.
use Rattle.std.proofs.Common.{◌≡◌, refl, arith, Ok}
use Rattle.std.specs.Prelude.{codes}
use Rattle.jiff_core.specs.Calendar.{days_from_civil, day_count, days_of_years, days_of_months}
use Rattle.period.specs.Day.{IsDayText}
use Rattle.period.specs.Laws.{DayTexts, OneDay}
use Rattle.model.specs.Tables.{days}
use Rattle.sqlchecks.specs.Literals.{day_named}
use Rattle.readerlaws.proofs.Texts.{days_are_named}

first_date : IsDayText 733772 (codes "2010-01-01")
unfolding days_from_civil day_count days_of_years days_of_months
first_date = (record { year = 2010; month = 1; day = 1 }, (((((omega arith), (omega arith)), ((omega arith), (omega arith)), ((omega arith), (omega arith))), refl), refl))

second_date : IsDayText 734170 (codes "2011-02-03")
unfolding days_from_civil day_count days_of_years days_of_months
second_date = (record { year = 2011; month = 2; day = 3 }, (((((omega arith), (omega arith)), ((omega arith), (omega arith)), ((omega arith), (omega arith))), refl), refl))

third_date : IsDayText 734389 (codes "2011-09-10")
unfolding days_from_civil day_count days_of_years days_of_months
third_date = (record { year = 2011; month = 9; day = 10 }, (((((omega arith), (omega arith)), ((omega arith), (omega arith)), ((omega arith), (omega arith))), refl), refl))

last_date : IsDayText 734452 (codes "2011-11-12")
unfolding days_from_civil day_count days_of_years days_of_months
last_date = (record { year = 2011; month = 11; day = 12 }, (((((omega arith), (omega arith)), ((omega arith), (omega arith)), ((omega arith), (omega arith))), refl), refl))

module _ (printed : DayTexts) (one : OneDay) where
  pub first_day : day_named (codes "2010-01-01") ≡ Ok 733772
  unfolding days
  first_day = (days_are_named printed one 733772 (codes "2010-01-01") (omega arith)).1 first_date

  pub second_day : day_named (codes "2011-02-03") ≡ Ok 734170
  unfolding days
  second_day = (days_are_named printed one 734170 (codes "2011-02-03") (omega arith)).1 second_date

  pub third_day : day_named (codes "2011-09-10") ≡ Ok 734389
  unfolding days
  third_day = (days_are_named printed one 734389 (codes "2011-09-10") (omega arith)).1 third_date

  pub last_day : day_named (codes "2011-11-12") ≡ Ok 734452
  unfolding days
  last_day = (days_are_named printed one 734452 (codes "2011-11-12") (omega arith)).1 last_date
