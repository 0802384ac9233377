use Rattle.std.proofs.Common.{◌∙◌, ◌+◌, ◌<◌, List, length, take, sym, subst, arith}
use Rattle.std.specs.Prelude.{Option}
use Rattle.model.specs.Agreement.{longest}
use Rattle.model.specs.Members.{Node}
use Rattle.model.specs.declared.entry.Entry.{Entry}
use Rattle.world.specs.Run.{member_of, now_of}
use Rattle.world.specs.View.{if_up}
use Rattle.report.specs.Deciding.{longer_at, GoesAlong}
use Rattle.report.proofs.Growing.{from_front, goes_along, longest_at}
use Rattle.report.proofs.Same.{same_member, same_on}
use Rattle.report.proofs.settled.add_all.Goals as goal

pub add_applied-requires-clause-along : goal.add_applied-requires-clause-along
add_applied-requires-clause-along c =
    let old = c.args.world.now in
    let nodes = (now_of old).nodes in
    let list = c.args.list.now.items in
    let place = c.loop-place.place in
    let inv = c.loop-place.invariant in
    let P : List Entry → Type 0 = λ l. GoesAlong l (if_up (member_of c.loop-place.world (place + 1))) in
    let Q : Option Node → Type 0 = λ o. GoesAlong (longest list (take place nodes)) (if_up o) in
    subst P (sym inv.list) (subst Q (sym (same_member old c.loop-place.world (place + 1) inv.same)) (goes_along list nodes place (place + 1) c.requires.along (from_front nodes place)))

pub loop-place-preserved : goal.loop-place-preserved
loop-place-preserved c =
    let old = c.args.world.now in
    let world = c.loop-place.world in
    let nodes = (now_of old).nodes in
    let list = c.args.list.now.items in
    let place = c.loop-place.place in
    let inv = c.loop-place.invariant in
    let same = same_member old world (place + 1) inv.same in
    let less : place < length nodes = omega (arith, c.loop-place-test.true, c.requires.size) in
    record {
      same = same_on old world c.add_applied.new.world inv.same c.in_ok-add_applied.ensures.same;
      list = c.in_ok-add_applied.ensures.list ∙ ((λ i. longer_at (inv.list i) (if_up (same i))) ∙ longest_at list nodes place c.requires.blank less);
    }
