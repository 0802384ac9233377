use Rattle.std.proofs.Common.{rules, ℕ}
use Rattle.std.specs.Prelude.{codes}
use Rattle.model.specs.declared.message.Body.{Body}
use Rattle.model.specs.declared.message.Body.TheVariants.{Seek, Stored, Seal}
use Rattle.flight.specs.declared.bodies.Sealing.{Sealing}
use Rattle.flight.specs.Bodies.{sealing_text, said_text, IsSealing, IsSaidOfSealing}
use Rattle.flight.proofs.Choices.{case_only, case_unread}
use Rattle.flight.proofs.Messages.{seek_of, stored_of, seal_of}
use Rattle.flight.proofs.bodies.read_said_of_sealing.Goals as goal

abbrev from_seek : Sealing → ℕ × Body
from_seek v = (v.term, Seek v.index v.floor)

abbrev from_stored : Sealing → ℕ × Body
from_stored v = (v.term, Stored v.index v.floor)

abbrev from_seal : Sealing → ℕ × Body
from_seal v = (v.term, Seal v.index v.floor)

pub returns-in_err-seek-clause-err : goal.returns-in_err-seek-clause-err
returns-in_err-seek-clause-err c =
    let unread = case_unread (codes "seek ") from_seek IsSealing sealing_text (IsSaidOfSealing c.args.version) (said_text c.args.version) (seek_of c.args.version) c.args.text.now c.in-Some.rest.now c.in-Some.ensures.some.0 c.in_err-seek.field-0.0 c.in_err-seek.ensures.err in
    search (rules, unread)

pub returns-in-Some-clause-only : goal.returns-in-Some-clause-only
returns-in-Some-clause-only c =
    case_only (codes "seek ") from_seek IsSealing sealing_text (IsSaidOfSealing c.args.version) (said_text c.args.version) (seek_of c.args.version) c.args.text.now c.in-Some.rest.now c.in-Some.ensures.some.0 c.in_ok-seek.seek c.in_ok-seek.rest.now c.in_ok-seek.ensures.only

pub returns-in_err-stored-clause-err : goal.returns-in_err-stored-clause-err
returns-in_err-stored-clause-err c =
    let unread = case_unread (codes "stored ") from_stored IsSealing sealing_text (IsSaidOfSealing c.args.version) (said_text c.args.version) (stored_of c.args.version) c.args.text.now c.in-Some-after.rest.now c.in-Some-after.ensures.some.0 c.in_err-stored.field-0.0 c.in_err-stored.ensures.err in
    search (rules, unread)

pub returns-in-Some-after-clause-only : goal.returns-in-Some-after-clause-only
returns-in-Some-after-clause-only c =
    case_only (codes "stored ") from_stored IsSealing sealing_text (IsSaidOfSealing c.args.version) (said_text c.args.version) (stored_of c.args.version) c.args.text.now c.in-Some-after.rest.now c.in-Some-after.ensures.some.0 c.in_ok-stored.stored c.in_ok-stored.rest.now c.in_ok-stored.ensures.only

pub returns-in_err-seal-clause-err : goal.returns-in_err-seal-clause-err
returns-in_err-seal-clause-err c =
    let unread = case_unread (codes "seal ") from_seal IsSealing sealing_text (IsSaidOfSealing c.args.version) (said_text c.args.version) (seal_of c.args.version) c.args.text.now c.in_ok-rest.rest.now c.in_ok-rest.ensures.ok.0 c.in_err-seal.field-0.0 c.in_err-seal.ensures.err in
    search (rules, unread)

pub returns-clause-only : goal.returns-clause-only
returns-clause-only c =
    case_only (codes "seal ") from_seal IsSealing sealing_text (IsSaidOfSealing c.args.version) (said_text c.args.version) (seal_of c.args.version) c.args.text.now c.in_ok-rest.rest.now c.in_ok-rest.ensures.ok.0 c.in_ok-seal.seal c.in_ok-seal.rest.now c.in_ok-seal.ensures.only
