use Rattle.std.proofs.Common.{◌≡◌, List, ℕ, ap, sym, true, arith}
use Rattle.fault.specs.declared.refusal.Refusal.TheVariants.{UnknownTable}
use Rattle.schema.specs.Name.{same_name}
use Rattle.schema.specs.Shape.{TableShape}
use Rattle.sqlchecks.specs.Answering.{or_refuse}
use Rattle.sqlchecks.specs.Columns.{table_named}
use Rattle.sqlchecks.proofs.Firsts.{first_at, none_at_all}
use Rattle.sqlchecks.proofs.column.find_table.Goals as goal

pub returns-then-same_name-clause-found : goal.returns-then-same_name-clause-found
unfolding table_named
returns-then-same_name-clause-found c =
    let name = c.args.name.now in
    let at = c.table.result in
    let pass : same_name name at.0.now ≡ true = cc in
    sym (ap (or_refuse UnknownTable) (first_at (same_name name) (λ (t : List ℕ × TableShape). t.0) c.args.schema.now c.loop-place.place (at.0.now, at.1.now) c.table.ensures.table pass c.loop-place.invariant.1))

pub returns-clause-found : goal.returns-clause-found
unfolding table_named
returns-clause-found c =
    sym (ap (or_refuse UnknownTable) (none_at_all (same_name c.args.name.now) (λ (t : List ℕ × TableShape). t.0) c.args.schema.now c.loop-place.place (omega arith) c.loop-place.invariant.1))
