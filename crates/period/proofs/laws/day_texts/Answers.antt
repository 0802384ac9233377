use Rattle.period.proofs.DayLemmas.{IsDayText-one_day}
use Rattle.period.proofs.Dates.{is_day_text}
use Rattle.period.proofs.laws.day_texts.Goals as goal

pub returns-clause-printed : goal.returns-clause-printed
returns-clause-printed c = is_day_text

pub returns-clause-one : goal.returns-clause-one
returns-clause-one c = IsDayText-one_day
