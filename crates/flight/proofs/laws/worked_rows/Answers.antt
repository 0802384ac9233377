use Rattle.std.proofs.Common.{refl}
use Rattle.std.specs.Fmt.{digits}
use Rattle.flight.proofs.laws.worked_rows.Goals as goal

pub returns-clause-nothing : goal.returns-clause-nothing
unfolding digits
returns-clause-nothing c = refl

pub returns-clause-request : goal.returns-clause-request
unfolding digits
returns-clause-request c = λ rest. refl

pub returns-clause-vote : goal.returns-clause-vote
unfolding digits
returns-clause-vote c = λ rest. refl

pub returns-clause-tear : goal.returns-clause-tear
unfolding digits
returns-clause-tear c = λ rest. refl

pub returns-clause-nothing_two : goal.returns-clause-nothing_two
unfolding digits
returns-clause-nothing_two c = refl

pub returns-clause-outcome : goal.returns-clause-outcome
unfolding digits
returns-clause-outcome c = λ rest. refl

pub returns-clause-nothing_three : goal.returns-clause-nothing_three
unfolding digits
returns-clause-nothing_three c = refl

pub returns-clause-vote_three : goal.returns-clause-vote_three
unfolding digits
returns-clause-vote_three c = λ rest. refl

pub returns-clause-floor : goal.returns-clause-floor
unfolding digits
returns-clause-floor c = λ rest. refl

pub returns-clause-seek : goal.returns-clause-seek
unfolding digits
returns-clause-seek c = λ rest. refl
