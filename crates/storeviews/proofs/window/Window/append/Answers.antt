use Rattle.std.proofs.Common.{◌≡◌, ◌++◌, ◌∷◌, ◌+◌, [], ◌∙◌, arith, rules}
use Rattle.journal.specs.Digests.{next_digest}
use Rattle.history.specs.declared.item.Item.TheVariants.{Applied}
use Rattle.view.specs.Publishing.{published, pending}
use Rattle.storeviews.specs.Listing.{listed}
use Rattle.storeviews.proofs.Listing.{joined, counted_one, digested_one}
use Rattle.storeviews.proofs.window.Window.append.Goals as goal

pub invariant_of-self-2 : goal.invariant_of-self-2
invariant_of-self-2 c =
    let old = c.args.self.now in
    let new = c.append.new.self in
    let longer : listed new ≡ listed old.publisher ++ Applied c.args.mark c.args.entry ∷ [] =
    joined (published old.publisher) (pending old.publisher) (published new) (pending new) (Applied c.args.mark c.args.entry ∷ []) c.append.ensures.same.2 c.in_ok-append.ensures.pending in
    let more : c.in-Some.count ≡ old.count + 1 = first_of (search rules, omega (arith, c.in-Some.ensures)) in
    let made : c.in_ok-digest.digest ≡ next_digest old.digest c.args.entry = c.in_ok-digest.ensures in
    record {
      counted = more ∙ counted_one old.count (listed old.publisher) (listed new) c.args.mark c.args.entry longer old.counted;
      digested = made ∙ digested_one old.digest (listed old.publisher) (listed new) c.args.mark c.args.entry longer old.digested;
    }
