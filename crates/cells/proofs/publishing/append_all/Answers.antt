use Rattle.std.proofs.Common.{◌≡◌, rules}
use Rattle.view.specs.Publishing.{published, pending}
use Rattle.cells.proofs.Listing.{unlisted_entry}
use Rattle.cells.proofs.publishing.append_all.Goals as goal

pub returns-in-Err-clause-refused : goal.returns-in-Err-clause-refused
returns-in-Err-clause-refused c =
    let old = c.args.publisher.now in
    let now = c.loop-entry.publisher in
    let kept = c.loop-entry.invariant in
    let same : c.in_ok-entry.entry ≡ c.entry-item.result = search rules in
    unlisted_entry (published old) (published now) (pending old) (pending now) c.args.mark c.args.entries.now c.loop-entry.entry-index c.entry-item.result c.in_ok-entry.entry c.in-Err.error c.loop-entry-test.true c.entry-item.is same kept.2 kept.3 c.in-Err.ensures.refused
