use Rattle.std.proofs.Common.{ap, arith, subst, sym, List, []}
use Rattle.std.specs.List.{All}
use Rattle.std.proofs.lemmas.List.Elements.{All-cons, All-nil}
use Rattle.world.specs.declared.output.Output.{Output}
use Rattle.world.specs.declared.output.Output.TheVariants as outputs
use Rattle.std.proofs.lemmas.Result.{IfOk-weaker}
use Rattle.sqlread.specs.Meaning.{language_of}
use Rattle.sqlread.specs.Shapes.{query_of}
use Rattle.world.specs.View.{node_in, outputs_of, HasColumns}
use Rattle.world.proofs.Asking.{answered, refused}
use Rattle.world.proofs.Placing.{IsPlaced, here, seat}
use Rattle.world.proofs.group.Group.ask.Goals as goal

pub returns-in-Ok-clause-given : goal.returns-in-Ok-clause-given
returns-in-Ok-clause-given c =
    let self = c.args.self.now in
    let s = c.index.result.now in
    let placed : IsPlaced self.schema self.members self.seats.items c.args.member c.in-Some.place c.index.result.now = record { next = c.in-Some.ensures.0; within = omega (arith, self.seats.ok.0, c.in-Some.ensures.1); at = c.index.ensures; group = c.requires.group } in
    let sits = seat placed in
    let there = here placed in
    let asked = c.in-Ok.ensures.asked self.schema self.members c.args.member sits in
    IfOk-weaker c.single.result _ _ (λ outs e. answered (language_of self.schema) c.args.member (query_of c.args.query.now) (node_in s) _ c.in-Ok.answer (outputs_of outs.items) there asked (ap outputs_of e)) c.single.ensures

pub returns-in-Err-clause-given : goal.returns-in-Err-clause-given
returns-in-Err-clause-given c =
    let self = c.args.self.now in
    let s = c.index.result.now in
    let placed : IsPlaced self.schema self.members self.seats.items c.args.member c.in-Some.place c.index.result.now = record { next = c.in-Some.ensures.0; within = omega (arith, self.seats.ok.0, c.in-Some.ensures.1); at = c.index.ensures; group = c.requires.group } in
    let sits = seat placed in
    let there = here placed in
    let asked = c.in-Err.ensures.asked self.schema self.members c.args.member sits in
    IfOk-weaker c.refused.result _ _ (λ outs e. refused (language_of self.schema) c.args.member (query_of c.args.query.now) (node_in s) _ c.in-Err.refusal (outputs_of outs.items) there asked e.1 (ap outputs_of e.0)) c.refused.ensures

pub returns-in-Ok-clause-columns : goal.returns-in-Ok-clause-columns
returns-in-Ok-clause-columns c =
    let self = c.args.self.now in
    let placed : IsPlaced self.schema self.members self.seats.items c.args.member c.in-Some.place c.index.result.now = record { next = c.in-Some.ensures.0; within = omega (arith, self.seats.ok.0, c.in-Some.ensures.1); at = c.index.ensures; group = c.requires.group } in
    let P : Output → Type 0 = HasColumns self.schema c.args.query.now.table in
    let shows = c.in-Ok.ensures.columns self.schema self.members c.args.member (seat placed) in
    let Q : List Output → Type 0 = λ xs. All P xs in
    IfOk-weaker c.single.result _ _ (λ outs e. subst Q (sym e) (All-cons P (outputs.Answered c.args.member c.in-Ok.answer) [] shows (All-nil P))) c.single.ensures
