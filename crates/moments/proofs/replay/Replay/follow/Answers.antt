use Rattle.std.proofs.Common.{◌+◌, Option, Some, None, length, refl, subst}
use Rattle.std.specs.Prelude.{IfErr}
use Rattle.std.proofs.lemmas.Option.{slice_get_read, slice_get_past}
use Rattle.world.specs.Run.{tables_in, members_in}
use Rattle.flight.specs.declared.life.Life.{Life}
use Rattle.moments.specs.Behind.{Evidence, life_at, IsCut}
use Rattle.moments.specs.Faults.{IsEndFault, IsNo, Lacks}
use Rattle.moments.specs.View.{past_of}
use Rattle.moments.proofs.Following.{step_found, taken_fault, none_taken, copied_at, cut_fault, answered_so, answered_fault, none_answered}
use Rattle.moments.proofs.replay.Replay.follow.Goals as goal

pub returns-in-Some-get-clause-fault : goal.returns-in-Some-get-clause-fault
returns-in-Some-get-clause-fault c =
    let m = c.args.moment.now in
    let old = c.args.self.now in
    let r : Evidence = record { version = c.args.version; tables = tables_in old.world; lives = c.args.lives.now; answers = c.args.answers.now } in
    let s = c.in-Some-get.taken.now in
    let h = c.in-Some-get.ensures.lookup in
    let at = slice_get_read c.deref.result.now (length c.deref.result.now) c.in-Takes.step s refl h.3.0 h.1 in
    let found = step_found (life_at r.lives m.node c.in-Takes.life) c.in-Some-life_of.found.now c.in-Takes.step c.deref.result.now (Some s) c.in-Some-life_of.ensures c.deref.ensures.value at in
    taken_fault r (members_in old.world) (past_of old) m c.in-Takes.life c.in-Takes.step s c.take.result c.in-Takes.is found c.take.ensures.fault

pub returns-in-None-get-clause-fault : goal.returns-in-None-get-clause-fault
returns-in-None-get-clause-fault c =
    let m = c.args.moment.now in
    let old = c.args.self.now in
    let r : Evidence = record { version = c.args.version; tables = tables_in old.world; lives = c.args.lives.now; answers = c.args.answers.now } in
    let at = slice_get_past c.deref.result.now c.in-Takes.step c.in-None-get.ensures.lookup.3 in
    let found = step_found (life_at r.lives m.node c.in-Takes.life) c.in-Some-life_of.found.now c.in-Takes.step c.deref.result.now None c.in-Some-life_of.ensures c.deref.ensures.value at in
    none_taken r (members_in old.world) (past_of old) m c.in-Takes.life c.in-Takes.step c.in-Takes.is found

pub returns-in-Some-get-2-clause-ok : goal.returns-in-Some-get-2-clause-ok
returns-in-Some-get-2-clause-ok c =
    let m = c.args.moment.now in
    let old = c.args.self.now in
    let r : Evidence = record { version = c.args.version; tables = tables_in old.world; lives = c.args.lives.now; answers = c.args.answers.now } in
    let a = c.in-Some-get-2.recorded.now in
    let h = c.in-Some-get-2.ensures.lookup in
    let found = slice_get_read r.answers (length r.answers) c.in-Answers.answer a refl h.3.0 h.1 in
    answered_so r (members_in old.world) (past_of old) m c.in-Answers.answer a c.answer_marked.result old c.answer_marked.new.self c.in-Answers.is found c.answer_marked.ensures.ok

pub returns-in-Some-get-2-clause-fault : goal.returns-in-Some-get-2-clause-fault
returns-in-Some-get-2-clause-fault c =
    let m = c.args.moment.now in
    let old = c.args.self.now in
    let r : Evidence = record { version = c.args.version; tables = tables_in old.world; lives = c.args.lives.now; answers = c.args.answers.now } in
    let a = c.in-Some-get-2.recorded.now in
    let h = c.in-Some-get-2.ensures.lookup in
    let found = slice_get_read r.answers (length r.answers) c.in-Answers.answer a refl h.3.0 h.1 in
    answered_fault r (members_in old.world) (past_of old) m c.in-Answers.answer a c.answer_marked.result c.in-Answers.is found c.answer_marked.ensures.fault

pub returns-in-None-get-2-clause-fault : goal.returns-in-None-get-2-clause-fault
returns-in-None-get-2-clause-fault c =
    let m = c.args.moment.now in
    let old = c.args.self.now in
    let r : Evidence = record { version = c.args.version; tables = tables_in old.world; lives = c.args.lives.now; answers = c.args.answers.now } in
    let found = slice_get_past r.answers c.in-Answers.answer c.in-None-get-2.ensures.lookup.3 in
    none_answered r (members_in old.world) (past_of old) m c.in-Answers.answer c.in-Answers.is found

pub returns-in-Some-life_of-2-clause-fault : goal.returns-in-Some-life_of-2-clause-fault
returns-in-Some-life_of-2-clause-fault c =
    let m = c.args.moment.now in
    let old = c.args.self.now in
    let r : Evidence = record { version = c.args.version; tables = tables_in old.world; lives = c.args.lives.now; answers = c.args.answers.now } in
    let life = c.in-Some-life_of-2.found.now in
    let next = copied_at c.life_of-in-Some-life_of-2.result (life_at r.lives m.node (c.in-Tears.life + 1)) c.life_of-in-Some-life_of-2.ensures in
    let Q : Option Life → Type 0 = λ o. IfErr c.tear.result (IsNo (Lacks (IsEndFault (past_of old) m.node m.mark life.ending) (IsCut (past_of old) m.node o life.ending))) in
    cut_fault r (members_in old.world) (past_of old) m c.in-Tears.life life c.tear.result c.in-Tears.is c.in-Some-life_of-2.ensures (subst Q next c.tear.ensures.fault)
