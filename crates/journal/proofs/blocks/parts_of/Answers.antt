use Rattle.std.proofs.Common.{◌++◌, length, sym, subst, rules}
use Rattle.std.specs.Str.{IsUtf8, IsCharBoundary}
use Rattle.flight.specs.Spelling.{ended}
use Rattle.journal.proofs.Frames.{body_ends}
use Rattle.journal.proofs.blocks.parts_of.Goals as goal

pub returns-in_default-split_at_checked-clause-every : goal.returns-in_default-split_at_checked-clause-every
returns-in_default-split_at_checked-clause-every c = λ sum body rest small utf8 long e.
    let first = c.in-Ok.ensures.only (length body) (ended sum (body ++ rest)) long e in
    let second = c.in-Ok-read_number.ensures.only sum (body ++ rest) small (sym first.1) in
    let whole : IsUtf8 c.in-Ok-read_number.rest.now = search rules in
    let ends = subst (IsCharBoundary c.in-Ok-read_number.rest.now) first.0 (body_ends c.in-Ok-read_number.rest.now body rest whole utf8 (sym second.1)) in
    search (rules, ends)
