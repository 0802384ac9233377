use Rattle.std.proofs.Common.{◌≡◌, Option, length, rules, subst, arith}
use Rattle.std.specs.Prelude.{vec_len}
use Rattle.node.specs.Recall.{IsNoted}
use Rattle.node.specs.declared.recall.Applied.{Applied}
use Rattle.node.proofs.Recalled.{past_noted}
use Rattle.node.proofs.recall.note.Goals as goal

pub returns-in-Ok : goal.returns-in-Ok
returns-in-Ok c = λ schema old new noted first applied.
    let a = c.in-Some.applied in
    let past = subst (λ (o : Option Applied). IsNoted schema o old) c.in-Some.is noted in
    let long : vec_len a.entries ≡ length a.entries.items = search rules in
    let is : c.args.before ≡ length a.entries.items = omega (arith, long) in
    c.all.ensures schema new (past_noted schema a.entries.items c.args.entries.now _ a.told.items c.args.told.now _ c.args.before old new (c.in-Ok.ensures.entries first) c.in-Ok.ensures.told is past applied)
