use Rattle.std.proofs.Common.{◌≡◌, ◌∙◌, true, ap, sym, subst, arith}
use Rattle.model.specs.Tables.{Row}
use Rattle.rowlaws.specs.Rows.{Has}
use Rattle.rowlaws.proofs.RowFacts.{both}
use Rattle.sqlread.specs.Meaning.{values_at}
use Rattle.current.specs.Rows.{row_of}
use Rattle.current.specs.Suspects.{refers_among}
use Rattle.current.proofs.Looking.{looks_none, ok_looks, key_found, key_among, key_among_test}
use Rattle.current.proofs.suspects.Search.referring_row.Goals as goal

pub returns-then-not-contains-clause-looks : goal.returns-then-not-contains-clause-looks
returns-then-not-contains-clause-looks c =
    let s = c.args.self.now in
    let key = λ (r : Row). values_at s.table.now c.args.columns.now r.key r.values in
    looks_none s _ _ (λ r w.
    let there : Has c.args.keys.now.keys c.in_ok-key.key = subst (Has c.args.keys.now.keys) (ap key w.0 ∙ sym c.in_ok-key.ensures) w.1 in
    both (c.contains.ensures ∙ key_found c.in_ok-key.key c.args.keys.now.keys there) c.if-not-contains.true)

pub returns-clause-looks : goal.returns-clause-looks
returns-clause-looks c = ok_looks c.args.self.now _ _ _ c.row.result c.row.ensures.looks (λ r w. w.0)

pub returns-clause-few : goal.returns-clause-few
returns-clause-few c digits short =
    let s = c.args.self.now in
    let few = c.row.ensures.few digits short in
    let refers : refers_among s.table.now c.args.columns.now c.args.keys.now.keys (row_of c.args.row.now) ≡ true =
    key_among _ c.args.keys.now.keys ∙ ap (λ k. key_among_test k c.args.keys.now.keys) (sym c.in_ok-key.ensures) ∙ sym c.contains.ensures ∙ c.if-not-contains.false in
    rw refers (omega (arith, few))
