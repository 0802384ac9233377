use Rattle.std.proofs.Common.{◌≡◌, ◌∙◌, [], ◌∷◌, ◌+◌, length, ap, arith}
use Rattle.std.proofs.lemmas.List.{length-append}
use Rattle.current.specs.Touched.{removed_of, added_of}
use Rattle.current.specs.Places.{rows_at}
use Rattle.current.proofs.Joined.{none_pushed}
use Rattle.current.proofs.touched.Touched.with_room.Goals as goal

pub loop-preserved : goal.loop-preserved
loop-preserved c =
    let old = c.loop.tables.items in
    let items = c.in_ok-push.ensures.items in
    let long : length c.push.new.self.items ≡ length old + 1 = ap length items ∙ length-append old (c.none.result ∷ []) in
    let was = c.loop.invariant.long in
    record {
      long = omega (arith, long, was);
      removed = λ n. ap (λ xs. rows_at removed_of xs n) items ∙ none_pushed removed_of old c.none.result c.none.ensures.removed n ∙ c.loop.invariant.removed n;
      added = λ n. ap (λ xs. rows_at added_of xs n) items ∙ none_pushed added_of old c.none.result c.none.ensures.added n ∙ c.loop.invariant.added n;
    }
