use Rattle.std.proofs.Common.{◌∙◌, [], ◌∷◌, length, ap, arith}
use Rattle.std.proofs.lemmas.List.{length-append}
use Rattle.current.specs.Touched.{removed_of, added_of}
use Rattle.current.specs.Places.{rows_at}
use Rattle.current.proofs.Tabled.{none_more}
use Rattle.current.proofs.touched.Touched.none.Goals as goal

pub loop-preserved : goal.loop-preserved
loop-preserved c =
    let old = c.loop.tables.items in
    let items = c.in_ok-push.ensures.items in
    let long = ap length items ∙ length-append old (c.none.result ∷ []) in
    let was = c.loop.invariant.long in
    record {
      long = omega (arith, long, was);
      removed = λ n. ap (λ xs. rows_at removed_of xs n) items ∙ none_more removed_of old c.none.result c.none.ensures.removed c.loop.invariant.removed n;
      added = λ n. ap (λ xs. rows_at added_of xs n) items ∙ none_more added_of old c.none.result c.none.ensures.added c.loop.invariant.added n;
    }

pub returns-clause-removed : goal.returns-clause-removed
returns-clause-removed c n = ap (λ xs. rows_at removed_of xs n) c.in_ok-push-2.ensures.items ∙ none_more removed_of c.loop.tables.items c.none-2.result c.none-2.ensures.removed c.loop.invariant.removed n

pub returns-clause-added : goal.returns-clause-added
returns-clause-added c n = ap (λ xs. rows_at added_of xs n) c.in_ok-push-2.ensures.items ∙ none_more added_of c.loop.tables.items c.none-2.result c.none-2.ensures.added c.loop.invariant.added n
