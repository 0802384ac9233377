use Rattle.std.proofs.Common.{ap, refl, ◌∙◌}
use Rattle.std.proofs.lemmas.Result.{IfOk-weaker}
use Rattle.answer.specs.Answers.{columns_in}
use Rattle.sqlchecks.specs.Columns.{Tables}
use Rattle.sqlread.specs.Shapes.{query_of}
use Rattle.node.specs.Member.{member_of}
use Rattle.world.specs.View.{node_in, occupant, occupant_of}
use Rattle.world.proofs.Seating.{asked_there, member}
use Rattle.world.proofs.seat.Seat.ask.Goals as goal

pub returns-in-Up-clause-asked : goal.returns-in-Up-clause-asked
returns-in-Up-clause-asked c t n m seat =
    let x = c.in-Up.node in
    asked_there t n m c.args.self.now (occupant_of x) (ap occupant c.in-Up.is) (member_of x) refl (ap node_in c.in-Up.is) seat (query_of c.args.query.now) c.ask.result (λ up. c.ask.ensures.asked up tt)

pub returns-in-Up-clause-columns : goal.returns-in-Up-clause-columns
returns-in-Up-clause-columns c =
    let x = c.in-Up.node in
    IfOk-weaker c.ask.result _ _ (λ a h t n m seat. h ∙ ap (λ (s : Tables). columns_in s c.args.query.now.table) (member t n m c.args.self.now (occupant_of x) (ap occupant c.in-Up.is) (member_of x) refl (ap node_in c.in-Up.is) seat).schema) c.ask.ensures.columns
