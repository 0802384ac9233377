use Rattle.std.proofs.Common.{rules, ℕ}
use Rattle.std.specs.Prelude.{codes}
use Rattle.model.specs.declared.message.Body.{Body}
use Rattle.model.specs.declared.message.Body.TheVariants.{RequestVote, Vote, Append, Reply}
use Rattle.flight.specs.declared.bodies.Candidacy.{Candidacy}
use Rattle.flight.specs.declared.bodies.Voted.{Voted}
use Rattle.flight.specs.declared.bodies.Appended.{Appended}
use Rattle.flight.specs.declared.bodies.Replied.{Replied}
use Rattle.flight.specs.Bodies.{candidacy_text, voted_text, appended_text, replied_text, said_text, IsCandidacy, IsVoted, IsAppended, IsReplied, IsSaid}
use Rattle.flight.proofs.Choices.{case_only, case_unread}
use Rattle.flight.specs.Reading.{IsNotBegun}
use Rattle.flight.proofs.Messages.{candidacy_of, voted_of, appended_of, replied_of, sealing_unread, sealing_only}
use Rattle.flight.proofs.bodies.read_said.Goals as goal

abbrev from_candidacy : Candidacy → ℕ × Body
from_candidacy v = (v.term, RequestVote v.last_index v.last_term)

abbrev from_voted : Voted → ℕ × Body
from_voted v = (v.term, Vote v.given v.floor)

abbrev from_appended : Appended → ℕ × Body
from_appended v = (v.term, Append v.prev_index v.prev_term v.entries v.commit)

abbrev from_replied : Replied → ℕ × Body
from_replied v = (v.term, Reply v.ok v.matched)

pub returns-in_err-candidacy-clause-err : goal.returns-in_err-candidacy-clause-err
returns-in_err-candidacy-clause-err c =
    let unread = case_unread (codes "votereq ") from_candidacy IsCandidacy candidacy_text (IsSaid c.args.version) (said_text c.args.version) (candidacy_of c.args.version) c.args.text.now c.in-Some.rest.now c.in-Some.ensures.some.0 c.in_err-candidacy.field-0.0 c.in_err-candidacy.ensures.err in
    search (rules, unread)

pub returns-in-Some-clause-only : goal.returns-in-Some-clause-only
returns-in-Some-clause-only c =
    case_only (codes "votereq ") from_candidacy IsCandidacy candidacy_text (IsSaid c.args.version) (said_text c.args.version) (candidacy_of c.args.version) c.args.text.now c.in-Some.rest.now c.in-Some.ensures.some.0 c.in_ok-candidacy.candidacy c.in_ok-candidacy.rest.now c.in_ok-candidacy.ensures.only

pub returns-in_err-voted-clause-err : goal.returns-in_err-voted-clause-err
returns-in_err-voted-clause-err c =
    let unread = case_unread (codes "vote ") from_voted (IsVoted c.args.version) (voted_text c.args.version) (IsSaid c.args.version) (said_text c.args.version) (voted_of c.args.version) c.args.text.now c.in-Some-after.rest.now c.in-Some-after.ensures.some.0 c.in_err-voted.field-0.0 c.in_err-voted.ensures.err in
    search (rules, unread)

pub returns-in-Some-after-clause-only : goal.returns-in-Some-after-clause-only
returns-in-Some-after-clause-only c =
    case_only (codes "vote ") from_voted (IsVoted c.args.version) (voted_text c.args.version) (IsSaid c.args.version) (said_text c.args.version) (voted_of c.args.version) c.args.text.now c.in-Some-after.rest.now c.in-Some-after.ensures.some.0 c.in_ok-voted.voted c.in_ok-voted.rest.now c.in_ok-voted.ensures.only

pub returns-in_err-appended-clause-err : goal.returns-in_err-appended-clause-err
returns-in_err-appended-clause-err c =
    let unread = case_unread (codes "append ") from_appended IsAppended appended_text (IsSaid c.args.version) (said_text c.args.version) (appended_of c.args.version) c.args.text.now c.in-Some-after-2.rest.now c.in-Some-after-2.ensures.some.0 c.in_err-appended.field-0.0 c.in_err-appended.ensures.err in
    search (rules, unread)

pub returns-in-Some-after-2-clause-only : goal.returns-in-Some-after-2-clause-only
returns-in-Some-after-2-clause-only c =
    case_only (codes "append ") from_appended IsAppended appended_text (IsSaid c.args.version) (said_text c.args.version) (appended_of c.args.version) c.args.text.now c.in-Some-after-2.rest.now c.in-Some-after-2.ensures.some.0 c.in_ok-appended.appended c.in_ok-appended.rest.now c.in_ok-appended.ensures.only

pub returns-in_err-replied-clause-err : goal.returns-in_err-replied-clause-err
returns-in_err-replied-clause-err c =
    let unread = case_unread (codes "reply ") from_replied IsReplied replied_text (IsSaid c.args.version) (said_text c.args.version) (replied_of c.args.version) c.args.text.now c.in-Some-after-3.rest.now c.in-Some-after-3.ensures.some.0 c.in_err-replied.field-0.0 c.in_err-replied.ensures.err in
    search (rules, unread)

pub returns-in-Some-after-3-clause-only : goal.returns-in-Some-after-3-clause-only
returns-in-Some-after-3-clause-only c =
    case_only (codes "reply ") from_replied IsReplied replied_text (IsSaid c.args.version) (said_text c.args.version) (replied_of c.args.version) c.args.text.now c.in-Some-after-3.rest.now c.in-Some-after-3.ensures.some.0 c.in_ok-replied.replied c.in_ok-replied.rest.now c.in_ok-replied.ensures.only

pub returns-in_err-said-clause-err : goal.returns-in_err-said-clause-err
returns-in_err-said-clause-err c =
    let no_candidacy : IsNotBegun (codes "votereq ") c.args.text.now = search rules in
    let no_vote : IsNotBegun (codes "vote ") c.args.text.now = search rules in
    let no_append : IsNotBegun (codes "append ") c.args.text.now = search rules in
    let no_reply : IsNotBegun (codes "reply ") c.args.text.now = search rules in
    let unread = sealing_unread c.args.version c.args.text.now no_candidacy no_vote no_append no_reply c.in_err-said.field-0.0 c.in_err-said.ensures.err in
    search (rules, unread)

pub returns-clause-only : goal.returns-clause-only
returns-clause-only c =
    let no_candidacy : IsNotBegun (codes "votereq ") c.args.text.now = search rules in
    let no_vote : IsNotBegun (codes "vote ") c.args.text.now = search rules in
    let no_append : IsNotBegun (codes "append ") c.args.text.now = search rules in
    let no_reply : IsNotBegun (codes "reply ") c.args.text.now = search rules in
    let only = sealing_only c.args.version c.args.text.now no_candidacy no_vote no_append no_reply c.in_ok-said.said c.in_ok-said.rest.now c.in_ok-said.ensures.only in
    search (rules, only)
