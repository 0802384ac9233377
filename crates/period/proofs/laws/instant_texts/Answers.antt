use Rattle.period.proofs.InstantLemmas.{IsInstantText-one}
use Rattle.period.proofs.Dates.{is_instant_text}
use Rattle.period.proofs.laws.instant_texts.Goals as goal

pub returns-clause-printed : goal.returns-clause-printed
returns-clause-printed c = is_instant_text

pub returns-clause-one : goal.returns-clause-one
returns-clause-one c = IsInstantText-one
