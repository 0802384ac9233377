use Rattle.period.proofs.PeriodLemmas.{ShareDay-ends, SameDays-ends, MeetsEnd-ends}
use Rattle.period.proofs.laws.by_ends.Goals as goal

pub returns-clause-share : goal.returns-clause-share
returns-clause-share c = ShareDay-ends

pub returns-clause-same : goal.returns-clause-same
returns-clause-same c = SameDays-ends

pub returns-clause-meet : goal.returns-clause-meet
returns-clause-meet c = MeetsEnd-ends
