use Rattle.std.proofs.Common.{◌≡◌, List, ℕ, ap, sym, ◌∙◌, true, arith}
use Rattle.std.specs.Option.{option_and_then, option_map}
use Rattle.fault.specs.declared.refusal.Refusal.TheVariants.{UnknownColumn}
use Rattle.schema.specs.declared.table.Kind.{Kind}
use Rattle.schema.specs.Name.{same_name}
use Rattle.sqlchecks.specs.Answering.{or_refuse}
use Rattle.sqlchecks.specs.Columns.{column_at, column_named}
use Rattle.sqlchecks.proofs.Firsts.{first_at, none_at_all}
use Rattle.sqlchecks.proofs.column.find_column.Goals as goal

pub returns-then-same_name-clause-found : goal.returns-then-same_name-clause-found
unfolding column_named
returns-then-same_name-clause-found c =
    let name = c.args.name.now in
    let table = c.args.table.now in
    let place = c.loop-place.place in
    let at = c.column-kind.result in
    let pass : same_name name at.0.now ≡ true = cc in
    sym (
    ap (λ o. or_refuse UnknownColumn (option_and_then (column_at table) o)) (first_at (same_name name) (λ (k : List ℕ × Kind). k.0) table.columns place (at.0.now, at.1) c.column-kind.ensures pass c.loop-place.invariant.1)
    ∙ ap (λ o. or_refuse UnknownColumn (option_map (λ (k : List ℕ × Kind). (place, k.1)) o)) c.column-kind.ensures
    )

pub returns-clause-found : goal.returns-clause-found
unfolding column_named
returns-clause-found c =
    let table = c.args.table.now in
    sym (ap (λ o. or_refuse UnknownColumn (option_and_then (column_at table) o)) (none_at_all (same_name c.args.name.now) (λ (k : List ℕ × Kind). k.0) table.columns c.loop-place.place (omega arith) c.loop-place.invariant.1))
