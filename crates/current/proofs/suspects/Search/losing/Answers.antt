use Rattle.std.proofs.Common.{◌∙◌, ℕ, ap, sym, subst, List, map, arith}
use Rattle.model.specs.Periods.{period_of}
use Rattle.rowlaws.specs.Rows.{Has}
use Rattle.rowlaws.specs.Losing.{lost_days, has_lost_day}
use Rattle.std.specs.Prelude.{filter}
use Rattle.sqlread.specs.Meaning.{reference_of, values_at}
use Rattle.current.specs.Rows.{row_of}
use Rattle.current.specs.Reads.{total, searching}
use Rattle.current.specs.Suspects.{IsIn, IsOfLost, rows_by, references_by}
use Rattle.current.proofs.Seeking.{losing_most}
use Rattle.current.proofs.Looking.{ok_looks, looks_none, losing_parts, in_span}
use Rattle.current.proofs.suspects.Search.losing.Goals as goal

pub returns-in-Some-clause-looks : goal.returns-in-Some-clause-looks
returns-in-Some-clause-looks c =
    let s = c.args.self.now in
    let f = c.args.reference.now in
    ok_looks s _ _ _ c.spanned.result c.spanned.ensures.looks (λ r w.
    let p = losing_parts (reference_of s.place s.table.now f) (rows_by s s.place) (rows_by s f.parent) w.0 r w.2 in
    let lost = c.in_ok-lost.ensures.each w.0 p.2 w.1 (subst (λ (n : ℕ). Has (lost_days (rows_by s n) w.0) p.2) (sym c.parent.ensures) p.3) in
    let day = subst (λ o. IsIn o p.2) c.in-Some.is lost.1 in
    let refers = ap (λ (columns : List ℕ). values_at s.table.now columns r.key r.values) c.columns.ensures ∙ p.1 in
    let span = in_span (period_of c.in-Some.span) r p.2 day p.4 p.5 in
    (p.0, subst (Has c.in_ok-lost.lost.keys.keys) (sym refers) lost.0, span.0, span.1))

pub returns-clause-looks : goal.returns-clause-looks
returns-clause-looks c =
    let s = c.args.self.now in
    let f = c.args.reference.now in
    looks_none s _ _ (λ r w.
    let p = losing_parts (reference_of s.place s.table.now f) (rows_by s s.place) (rows_by s f.parent) w.0 r w.2 in
    let lost = c.in_ok-lost.ensures.each w.0 p.2 w.1 (subst (λ (n : ℕ). Has (lost_days (rows_by s n) w.0) p.2) (sym c.parent.ensures) p.3) in
    subst (λ o. IsIn o p.2) c.in-None.is lost.1)

pub returns-in-Some-clause-few : goal.returns-in-Some-clause-few
returns-in-Some-clause-few c digits short =
    let s = c.args.self.now in
    let f = c.args.reference.now in
    let removed = map row_of c.args.removed.now in
    let looked = ap (λ (n : ℕ). total (λ q. searching digits q.key q.period (rows_by s n)) removed) c.parent.ensures in
    let of = subst (λ (n : ℕ). IsOfLost (filter (has_lost_day (rows_by s n)) removed) c.in_ok-lost.lost) c.parent.ensures c.in_ok-lost.ensures.of_lost in
    let most = losing_most digits (rows_by s) (references_by s) s.place s.table.now f c.columns.result.now c.columns.ensures (filter (has_lost_day (rows_by s f.parent)) removed) c.in_ok-lost.lost of c.in-Some.span c.in-Some.is in
    let lost = c.lost_with.ensures.few digits short in
    let few = c.spanned.ensures.few digits short in
    omega (arith, looked, most, lost, few)

pub returns-clause-few : goal.returns-clause-few
returns-clause-few c digits short =
    let looked = ap (λ (n : ℕ). total (λ q. searching digits q.key q.period (rows_by c.args.self.now n)) (map row_of c.args.removed.now)) c.parent.ensures in
    let lost = c.lost_with.ensures.few digits short in
    omega (arith, looked, lost)

pub returns-in_err-lost-clause-few : goal.returns-in_err-lost-clause-few
returns-in_err-lost-clause-few c digits short =
    let looked = ap (λ (n : ℕ). total (λ q. searching digits q.key q.period (rows_by c.args.self.now n)) (map row_of c.args.removed.now)) c.parent.ensures in
    let lost = c.lost_with.ensures.few digits short in
    omega (arith, looked, lost)
