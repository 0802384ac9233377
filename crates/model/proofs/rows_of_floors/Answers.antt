use Rattle.std.proofs.Common.{refl}
use Rattle.model.specs.Steps.{time_out, hears, on_request_vote, on_vote, on_append, on_reply_yes, on_reply_no, append_own, ask_floor, on_seek, on_stored}
use Rattle.model.specs.Logs.{executed, outcome, first_outcomes}
use Rattle.model.proofs.EmptyTable.{empty_answer}
use Rattle.model.proofs.rows_of_floors.Goals as goal

pub returns-clause-sealed_quietly : goal.returns-clause-sealed_quietly
unfolding time_out hears on_request_vote on_vote on_append on_reply_yes on_reply_no append_own ask_floor on_seek on_stored
returns-clause-sealed_quietly c =
    ((_, _, refl, refl, (_, _, refl, refl, (_, _, refl, refl, (_, _, refl, refl, (_, _, refl, refl, (_, _, refl, refl, (_, _, refl, refl, refl))))))), (_, empty_answer 500, refl), refl)

pub returns-clause-stamped_above : goal.returns-clause-stamped_above
unfolding time_out hears on_request_vote on_vote on_append on_reply_yes on_reply_no append_own ask_floor on_seek on_stored executed outcome first_outcomes
returns-clause-stamped_above c = refl

pub returns-clause-vote_tells_floor : goal.returns-clause-vote_tells_floor
unfolding time_out hears on_request_vote on_vote on_append on_reply_yes on_reply_no append_own ask_floor on_seek on_stored
returns-clause-vote_tells_floor c = (refl, refl)

pub returns-clause-floor_from_votes : goal.returns-clause-floor_from_votes
unfolding time_out hears on_request_vote on_vote on_append on_reply_yes on_reply_no append_own ask_floor on_seek on_stored
returns-clause-floor_from_votes c = (refl, refl)

pub returns-clause-seal_waits : goal.returns-clause-seal_waits
unfolding time_out hears on_request_vote on_vote on_append on_reply_yes on_reply_no append_own ask_floor on_seek on_stored
returns-clause-seal_waits c = (refl, (_, empty_answer 500, refl))

pub returns-clause-floor_is_kept : goal.returns-clause-floor_is_kept
unfolding time_out hears on_request_vote on_vote on_append on_reply_yes on_reply_no append_own ask_floor on_seek on_stored
returns-clause-floor_is_kept c = (refl, refl)

pub returns-clause-no_floor : goal.returns-clause-no_floor
unfolding time_out hears on_request_vote on_vote on_append on_reply_yes on_reply_no append_own ask_floor on_seek on_stored
returns-clause-no_floor c = (refl, refl, refl, refl, refl)

pub returns-clause-strange_floors : goal.returns-clause-strange_floors
unfolding time_out hears on_request_vote on_vote on_append on_reply_yes on_reply_no append_own ask_floor on_seek on_stored
returns-clause-strange_floors c = (refl, refl, refl, refl, refl, refl, refl, refl, refl, refl, refl, refl)

pub returns-clause-no_floor_asked : goal.returns-clause-no_floor_asked
unfolding time_out hears on_request_vote on_vote on_append on_reply_yes on_reply_no append_own ask_floor on_seek on_stored
returns-clause-no_floor_asked c = (refl, refl, refl, refl)

pub returns-clause-second_stored_seals : goal.returns-clause-second_stored_seals
unfolding time_out hears on_request_vote on_vote on_append on_reply_yes on_reply_no append_own ask_floor on_seek on_stored
returns-clause-second_stored_seals c = (_, _, refl, refl, (_, _, refl, refl, (_, _, refl, refl, (_, _, refl, refl, (_, _, refl, refl, (_, _, refl, refl, (_, _, refl, refl, refl)))))))

pub returns-clause-counted_anew : goal.returns-clause-counted_anew
unfolding time_out hears on_request_vote on_vote on_append on_reply_yes on_reply_no append_own ask_floor on_seek on_stored
returns-clause-counted_anew c = (_, _, refl, refl, (_, _, refl, refl, (_, _, refl, refl, (_, _, refl, refl, (_, _, refl, refl, refl)))))

pub returns-clause-seal_of_another_term : goal.returns-clause-seal_of_another_term
unfolding time_out hears on_request_vote on_vote on_append on_reply_yes on_reply_no append_own ask_floor on_seek on_stored
returns-clause-seal_of_another_term c = (refl, refl, refl)

pub returns-clause-greatest_waits : goal.returns-clause-greatest_waits
unfolding time_out hears on_request_vote on_vote on_append on_reply_yes on_reply_no append_own ask_floor on_seek on_stored
returns-clause-greatest_waits c = (refl, refl, refl, refl, refl, refl)

pub returns-clause-seek_follows : goal.returns-clause-seek_follows
unfolding time_out hears on_request_vote on_vote on_append on_reply_yes on_reply_no append_own ask_floor on_seek on_stored
returns-clause-seek_follows c = refl

pub returns-clause-refused_vote_tells : goal.returns-clause-refused_vote_tells
unfolding time_out hears on_request_vote on_vote on_append on_reply_yes on_reply_no append_own ask_floor on_seek on_stored
returns-clause-refused_vote_tells c = (refl, refl)
