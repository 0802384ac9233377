use Rattle.std.proofs.Common.{List, sym, subst}
use Rattle.model.specs.declared.entry.Entry.{Entry}
use Rattle.world.specs.Run.{now_of}
use Rattle.report.specs.Deciding.{AreAlong}
use Rattle.report.proofs.Growing.{along_next, went_on}
use Rattle.report.proofs.Seats.{blank_down}
use Rattle.report.proofs.settled.go_on.Goals as goal

pub add_all-requires-clause-along : goal.add_all-requires-clause-along
add_all-requires-clause-along c =
    let ran = c.in_ok-step.ensures in
    let P : List Entry → Type 0 = λ l. AreAlong l (now_of c.step.new.self).nodes in
    subst P (sym c.requires.list) (along_next c.args.world.now c.step.new.self _ ran.same.0 ran.same.1 ran.kept (c.agreement.ensures.new _ _ _))

pub add_all-requires-clause-blank : goal.add_all-requires-clause-blank
add_all-requires-clause-blank c = blank_down c.step.new.self (c.step.new.self.whole c.in_ok-step.ensures.ok.1)

pub returns-clause-list : goal.returns-clause-list
returns-clause-list c =
    let ran = c.in_ok-step.ensures in
    went_on c.add_all.result c.args.world.now c.step.new.self c.add_all.new.world _ c.args.list.now.items c.add_all.new.list.items ran.same.0 ran.same.1 ran.kept c.requires.list c.add_all.ensures.list c.add_all.ensures.same
