use Rattle.std.proofs.Common.{subst, arith}
use Rattle.rowlaws.specs.Rows.{Has}
use Rattle.rowlaws.proofs.RowFacts.{both}
use Rattle.current.specs.Suspects.{rows_by}
use Rattle.current.proofs.Looking.{looks_none, ok_looks}
use Rattle.current.proofs.suspects.Search.came_row.Goals as goal

pub returns-then-not-stands-clause-looks : goal.returns-then-not-stands-clause-looks
returns-then-not-stands-clause-looks c =
    let s = c.args.self.now in
    looks_none s _ _ (λ r w. both (c.stands.ensures.each (subst (Has (rows_by s s.place)) w.0 w.1)) c.if-not-stands.true)

pub returns-then-not-stands-clause-few : goal.returns-then-not-stands-clause-few
returns-then-not-stands-clause-few c digits short = let few = c.stands.ensures.few digits short in omega (arith, few)

pub row-requires : goal.row-requires
row-requires c = c.stands.ensures.stands c.if-not-stands.false

pub returns-clause-looks : goal.returns-clause-looks
returns-clause-looks c = ok_looks c.args.self.now _ _ _ c.row.result c.row.ensures.looks (λ r w. w.0)

pub returns-clause-few : goal.returns-clause-few
returns-clause-few c digits short =
    let stands = c.stands.ensures.few digits short in
    let judged = c.row.ensures.few digits short in
    omega (arith, stands, judged)
