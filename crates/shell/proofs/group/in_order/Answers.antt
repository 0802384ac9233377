use Rattle.std.proofs.Common.{◌≡◌, ◌≢◌, ◌+◌, ◌<◌, ◌≤◌, ap, ◌∙◌, ◌++◌, ◌∷◌, [], inr, refl, rules, length, length-append, arith}
use Rattle.std.specs.Prelude.{IsPermutation, slice_index_or}
use Rattle.std.specs.List.{All}
use Rattle.std.proofs.lemmas.List.{length_push}
use Rattle.std.proofs.lemmas.List.Sorted.{IsPermutation-swap_remove, length_permutation}
use Rattle.flight.specs.declared.flight.Flight.{Flight as Held}
use Rattle.shell.proofs.Groups.{lacks_node, in_order_more, taken, none_left}
use Rattle.shell.proofs.group.in_order.Goals as goal

pub returns-in_default-clause-err : goal.returns-in_default-clause-err
returns-in_default-clause-err c =
    let inv = c.loop-at.invariant in
    let none : All (λ (f : Held). f.node ≢ c.loop-at.at + 1) c.loop-at.left.items = rw c.deref.ensures.value at c.in_default.ensures in
    inr (refl, lacks_node c.args.flights.items c.loop-at.ordered.items c.loop-at.left.items c.loop-at.at inv.moved inv.ordered inv.count (search rules) none)

pub loop-at-preserved : goal.loop-at-preserved
loop-at-preserved c =
    let inv = c.loop-at.invariant in
    let left = c.loop-at.left.items in
    let done = c.loop-at.ordered.items in
    let place = c.in-Some.place in
    let x : Held = c.swap_remove.result in
    let found : (place < length left) × ((d : Held) → (slice_index_or left place d).node ≡ c.loop-at.at + 1) = rw c.deref.ensures.value at c.in-Some.ensures in
    let its : x.node ≡ c.loop-at.at + 1 = ap (λ (f : Held). f.node) c.swap_remove.ensures.value ∙ found.1 x in
    let moved : IsPermutation c.args.flights.items ((done ++ x ∷ []) ++ c.swap_remove.new.self.items) =
    taken c.args.flights.items done left c.swap_remove.new.self.items place x inv.moved found.0 c.swap_remove.ensures.value (rw c.swap_remove.ensures.items (IsPermutation-swap_remove left place x found.0 c.swap_remove.ensures.value)) in
    rw c.in_ok-push.ensures.items (record {
      moved = moved;
      ordered = in_order_more done x inv.ordered (rw inv.count its);
      count = length_push done x ∙ ap (λ n. n + 1) inv.count;
      end = inv.end;
    })

pub returns-clause-ok : goal.returns-clause-ok
returns-clause-ok c =
    let inv = c.loop-at.invariant in
    let all : length c.loop-at.ordered.items ≡ length c.args.flights.items = let most : length c.loop-at.ordered.items ≤ length c.args.flights.items = omega (arith, length_permutation c.args.flights.items (c.loop-at.ordered.items ++ c.loop-at.left.items) inv.moved, length-append c.loop-at.ordered.items c.loop-at.left.items) in omega (arith, most, inv.count, inv.end, c.loop-at-test.false) in
    (none_left c.args.flights.items c.loop-at.ordered.items c.loop-at.left.items inv.moved all, inv.ordered)
