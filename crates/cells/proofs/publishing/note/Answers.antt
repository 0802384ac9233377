use Rattle.view.specs.Publishing.{published, pending}
use Rattle.std.proofs.Common.{◌++◌}
use Rattle.cells.specs.Publishing.{marked_seal}
use Rattle.cells.proofs.Listing.{unlisted_sealed}
use Rattle.cells.proofs.publishing.note.Goals as goal

pub returns-in-Err-clause-refused : goal.returns-in-Err-clause-refused
returns-in-Err-clause-refused c =
    let p = c.args.publisher.now in
    unlisted_sealed (published p ++ pending p) (marked_seal c.args.mark c.args.given.now.sealed) c.args.mark c.args.given.now.applied.items c.deref-2.result.now c.in-Err.error c.deref-2.ensures.value c.in-Err.ensures.refused
