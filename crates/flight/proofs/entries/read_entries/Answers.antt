use Rattle.std.proofs.Common.{rules}
use Rattle.flight.proofs.Counted.{entries_unnumbered, entries_unread, entries_only}
use Rattle.flight.proofs.entries.read_entries.Goals as goal

pub returns-in_err-count-clause-err : goal.returns-in_err-count-clause-err
returns-in_err-count-clause-err c =
    let unread = entries_unnumbered c.args.text.now (search rules) c.in_err-count.field-0.0 c.in_err-count.ensures.err in
    search (rules, unread)

pub returns-in_err-entries-clause-err : goal.returns-in_err-entries-clause-err
returns-in_err-entries-clause-err c =
    let unread = entries_unread c.args.text.now (search rules) c.in_ok-count.count c.in_ok-count.rest.now c.in_ok-count.ensures.only c.in_err-entries.field-0.0 c.in_err-entries.ensures.err in
    search (rules, unread)

pub returns-clause-only : goal.returns-clause-only
returns-clause-only c = entries_only c.args.text.now (search rules) c.in_ok-count.count c.in_ok-count.rest.now c.in_ok-count.ensures.only c.in_ok-entries.entries.items c.in_ok-entries.rest.now c.in_ok-entries.ensures.only
