use Rattle.std.proofs.Common.{rules, refl, ap, length}
use Rattle.std.specs.Prelude.{IfErr}
use Rattle.moments.specs.Behind.{Evidence, IsBehind}
use Rattle.moments.specs.Faults.{IsFaultAt, IsNo, Lacks}
use Rattle.moments.specs.View.{past_of}
use Rattle.world.specs.Run.{tables_in, members_in}
use Rattle.adopt.specs.declared.deeds.Sight.{Sight}
use Rattle.adopt.proofs.Placing.{told_so, same_fault}
use Rattle.adopt.proofs.telling.Telling.tell.Goals as goal

pub returns-in_err-follow-clause-fault : goal.returns-in_err-follow-clause-fault
returns-in_err-follow-clause-fault c =
    let m = c.args.moment.now in
    let one = c.stored_before.new.self in
    let r : Evidence = record { version = c.args.version; tables = tables_in one.replay.world; lives = c.args.lives.now; answers = c.args.answers.now } in
    let said : IfErr c.from_residual-in_err-follow.result (IsNo (Lacks (IsFaultAt c.args.lives.now (past_of one.replay) m) (IsBehind r (members_in one.replay.world) (past_of one.replay) m))) = search rules in
    same_fault c.from_residual-in_err-follow.result c.args.version c.args.lives.now c.args.answers.now c.args.self.now.replay one.replay m c.in_ok-before.ensures.same.run said

pub returns-clause-ok : goal.returns-clause-ok
returns-clause-ok c =
    let m = c.args.moment.now in
    let one = c.stored_before.new.self in
    let s : Sight = record { taken = c.in_ok-taken.taken; before = c.in_ok-before.before; after = c.in_ok-after.after; started = c.in_ok-started.started } in
    told_so c.args.version c.args.lives.now c.args.answers.now c.args.self.now one (record one { replay = c.follow.new.self }) c.stored_after.new.self _ m s (length c.events-count.result.now)
    c.in_ok-before.ensures.same c.in_ok-follow.ensures.ok refl refl c.in_ok-after.ensures.same (ap length c.events-count.ensures) c.in_ok-taken.ensures c.in_ok-before.ensures.found c.in_ok-after.ensures.found c.in_ok-started.ensures
    c.in_ok-put_deed.ensures c.noted_by-self.ensures refl
