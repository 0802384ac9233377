use Rattle.std.proofs.Common.{◌≡◌, ◌∙◌, ◌+◌, ◌≤◌, List, length, map, ap, sym, subst, arith}
use Rattle.std.specs.Prelude.{Some, option_and_then, option_map}
use Rattle.model.specs.Lists.{nth}
use Rattle.model.specs.Members.{Node}
use Rattle.model.specs.declared.entry.Entry.{Entry}
use Rattle.world.specs.Run.{member_of}
use Rattle.world.specs.View.{entry_in, event_of, if_up}
use Rattle.report.proofs.Filling.{Filled, fill_ends, fill_more}
use Rattle.report.proofs.Same.{same_member, same_then}
use Rattle.report.proofs.settled.add_applied.Goals as goal

pub loop-place-preserved : goal.loop-place-preserved
loop-place-preserved c =
    let old = c.args.world.now in
    let world = c.loop-place.world in
    let list = c.args.list.now.items in
    let place = c.loop-place.place in
    let entry = c.in-Some-2.entry in
    let member = if_up (member_of old c.args.member) in
    let inv = c.loop-place.invariant in
    let told = c.in_ok-entry.ensures in
    let from : length list ≤ place = omega (arith, c.loop-place.auto.place, c.len-place.ensures, c.args.list.now.ok.0) in
    let at : Some entry ≡ option_and_then (λ (x : Node). nth x.log (place + 1)) member = sym c.in-Some-2.is ∙ (told.found ∙ ap (entry_in (place + 1)) (same_member old world c.args.member inv.same)) in
    let F : List Entry → Type 0 = λ l. Filled list member (place + 1) l in
    record {
      same = same_then old world c.entry.new.self inv.same (ap (map event_of) told.kept) told.tables told.same.1 told.ok.1;
      list = subst F (sym c.in_ok-push.ensures.items) (fill_more list member place c.loop-place.list.items entry inv.list from at);
      bound = λ _. omega (arith, c.loop-place-test.true);
    }

pub returns-clause-list : goal.returns-clause-list
returns-clause-list c =
    let list = c.args.list.now.items in
    let place = c.loop-place.place in
    let member = if_up (member_of c.args.world.now c.args.member) in
    let inv = c.loop-place.invariant in
    let from : length list ≤ place = omega (arith, c.loop-place.auto.place, c.len-place.ensures, c.args.list.now.ok.0) in
    let at : Some c.in-Some.commit ≡ option_map (λ (x : Node). x.commit) member = rw c.requires.live at c.in-Some.ensures in
    fill_ends list member place c.in-Some.commit c.loop-place.list.items inv.list at c.requires.along from c.loop-place-test.false inv.bound
