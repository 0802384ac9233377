use Rattle.world.proofs.Refusing.{nothing_given, nothing_said, one_outcome, one_answer_each, goes_back, fails_where, lacks_row, told_again}
use Rattle.believed.proofs.Whole.{none_left_out, no_number_left_out, none_unsaid, none_stale}
use Rattle.world.proofs.laws.what_is_refused.Goals as goal

pub returns-clause-nothing : goal.returns-clause-nothing
returns-clause-nothing c = nothing_given

pub returns-clause-silence : goal.returns-clause-silence
returns-clause-silence c = nothing_said

pub returns-clause-outcomes : goal.returns-clause-outcomes
returns-clause-outcomes c = one_outcome

pub returns-clause-answers : goal.returns-clause-answers
returns-clause-answers c = one_answer_each

pub returns-clause-left_out : goal.returns-clause-left_out
returns-clause-left_out c = none_left_out

pub returns-clause-number_left_out : goal.returns-clause-number_left_out
returns-clause-number_left_out c = no_number_left_out

pub returns-clause-unsaid : goal.returns-clause-unsaid
returns-clause-unsaid c = none_unsaid

pub returns-clause-stale : goal.returns-clause-stale
returns-clause-stale c = none_stale

pub returns-clause-older : goal.returns-clause-older
returns-clause-older c = goes_back

pub returns-clause-fails_where : goal.returns-clause-fails_where
returns-clause-fails_where c = fails_where

pub returns-clause-lacks_row : goal.returns-clause-lacks_row
returns-clause-lacks_row c = lacks_row

pub returns-clause-again : goal.returns-clause-again
returns-clause-again c = told_again
