use Rattle.std.proofs.Common.{◌++◌, Option, ℕ, subst}
use Rattle.history.specs.Items.{Follows}
use Rattle.view.specs.Publishing.{published, pending}
use Rattle.cells.proofs.Listing.{unlisted_one}
use Rattle.cells.proofs.publishing.append_one.Goals as goal

pub returns-then-not-follows-clause-refused : goal.returns-then-not-follows-clause-refused
returns-then-not-follows-clause-refused c =
    let p = c.args.publisher.now in
    let no : Follows c.closed.result c.args.item → ⊥ = c.if-not-follows.ensures in
    unlisted_one (published p ++ pending p) c.args.item (subst (λ (t : Option ℕ). Follows t c.args.item → ⊥) c.closed.ensures no)
