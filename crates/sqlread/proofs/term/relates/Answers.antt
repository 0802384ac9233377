use Rattle.sqlread.proofs.Periods.{overlaps_is, equals_is, meets_is}
use Rattle.sqlread.proofs.term.relates.Goals as goal

pub returns-in-Overlaps : goal.returns-in-Overlaps
returns-in-Overlaps c = rw c.in-Overlaps.is (overlaps_is c.by_ends.ensures.share c.args.row c.args.other c.overlaps.result c.overlaps.ensures)

pub returns-in-Equals : goal.returns-in-Equals
returns-in-Equals c = rw c.in-Equals.is (equals_is c.by_ends.ensures.same c.args.row c.args.other c.equals.result c.equals.ensures)

pub returns-in-ImmediatelyPrecedes : goal.returns-in-ImmediatelyPrecedes
returns-in-ImmediatelyPrecedes c = rw c.in-ImmediatelyPrecedes.is (meets_is c.by_ends.ensures.meet c.args.row c.args.other c.immediately_precedes.result c.immediately_precedes.ensures)

pub returns-in-ImmediatelySucceeds : goal.returns-in-ImmediatelySucceeds
returns-in-ImmediatelySucceeds c = rw c.in-ImmediatelySucceeds.is (meets_is c.by_ends.ensures.meet c.args.other c.args.row c.immediately_succeeds.result c.immediately_succeeds.ensures)
