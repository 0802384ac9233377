use Rattle.std.proofs.Common.{◌≡◌, ◌≤◌, ◌∙◌, true, ap, sym, subst, List, inl, inr}
use Rattle.std.specs.BTreeSet.{insert_key}
use Rattle.std.specs.Prelude.{IfSome}
use Rattle.model.specs.declared.value.Value.{Value}
use Rattle.model.specs.Tables.{Row}
use Rattle.model.specs.Values.{key_cmp}
use Rattle.rowlaws.specs.Rows.{Has}
use Rattle.rowlaws.specs.Losing.{has_lost_day}
use Rattle.rowlaws.proofs.Members.{has_map}
use Rattle.current.specs.Rows.{row_of}
use Rattle.current.specs.Places.{rows_at}
use Rattle.current.specs.Table.{rows_of_table}
use Rattle.current.specs.Suspects.{IsIn}
use Rattle.current.proofs.Looking.{lost_day_free, put_key, kept_key, put_or_kept}
use Rattle.current.proofs.suspects.Lost.with.Goals as goal

pub returns-in_default-clause-row : goal.returns-in_default-clause-row
returns-in_default-clause-row c d h =
    let x = lost_day_free (rows_at rows_of_table c.args.tables.now c.args.table) (row_of c.args.row.now) d h in
    absurd (subst (λ o. IsIn o d) c.in_default.is (c.in_ok-more.ensures.free d x.0 x.1))

pub returns-clause-before : goal.returns-clause-before
returns-clause-before c key d h =
    let keys = c.args.self.keys.keys in
    let own = c.args.row.now.key in
    let put : c.insert.new.self.keys ≡ insert_key key_cmp keys own = c.in_ok-insert.ensures.keys ∙ ap (insert_key key_cmp keys) c.in_ok-key.ensures.cases in
    (subst (λ (ks : List (List Value)). Has ks key) (sym put) (kept_key own key keys h.0), c.joined.ensures.first d h.1)

pub returns-clause-row : goal.returns-clause-row
returns-clause-row c d h =
    let keys = c.args.self.keys.keys in
    let own = c.args.row.now.key in
    let put : c.insert.new.self.keys ≡ insert_key key_cmp keys own = c.in_ok-insert.ensures.keys ∙ ap (insert_key key_cmp keys) c.in_ok-key.ensures.cases in
    let x = lost_day_free (rows_at rows_of_table c.args.tables.now c.args.table) (row_of c.args.row.now) d h in
    let day = subst (λ o. IsIn o d) c.in-Some.is (c.in_ok-more.ensures.free d x.0 x.1) in
    (subst (λ (ks : List (List Value)). Has ks own) (sym put) (put_key own keys), c.joined.ensures.second d day.0 day.1)

pub returns-clause-of_lost : goal.returns-clause-of_lost
returns-clause-of_lost c rows of there =
    let keys = c.args.self.keys.keys in
    let own = c.args.row.now.key in
    let row = row_of c.args.row.now in
    let put : c.insert.new.self.keys ≡ insert_key key_cmp keys own = c.in_ok-insert.ensures.keys ∙ ap (insert_key key_cmp keys) c.in_ok-key.ensures.cases in
    let p = c.args.row.now.period in
    let more = c.in-Some.more in
    let within : (p.start.number ≤ more.start.number) × (more.end.number ≤ p.end.number) × (has_lost_day (rows_at rows_of_table c.args.tables.now c.args.table) row ≡ true) =
    subst (λ o. IfSome o (λ x. (p.start.number ≤ x.start.number) × (x.end.number ≤ p.end.number) × (has_lost_day (rows_at rows_of_table c.args.tables.now c.args.table) row ≡ true))) c.in-Some.is c.in_ok-more.ensures.within in
    let lost : Has rows row = there within.2 in (
      (λ key h. elim (put_or_kept own key keys (subst (λ (ks : List (List Value)). Has ks key) put h)) [
        | inl same ↦ subst (Has _) (sym same) (has_map (λ (r : Row). r.key) rows row lost)
        | inr kept ↦ of.0 key kept
      ]),
      c.joined.ensures.across rows of.1 ((row, lost, within.0), (row, lost, within.1)),
    )
