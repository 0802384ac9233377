use Rattle.std.proofs.Common.{◌≡◌, ◌∙◌, ap, map, true, option_map}
use Rattle.model.specs.Periods.{period_of, is_free}
use Rattle.period.specs.declared.day.Day.{Day}
use Rattle.rowlaws.specs.Covering.{periods_of}
use Rattle.current.specs.Places.{rows_at}
use Rattle.current.specs.Table.{rows_of_table}
use Rattle.current.proofs.Placed.{days_of_row}
use Rattle.current.proofs.Meeting.{find_alike}
use Rattle.current.proofs.Looking.{none_free, from_first, period_made, day_found, period_within}
use Rattle.current.proofs.references.free_span.Goals as goal

pub returns-in_default-clause-free : goal.returns-in_default-clause-free
returns-in_default-clause-free c d h free =
    let p = period_of c.args.period in
    let all = periods_of (rows_at rows_of_table c.args.tables.now c.args.table) c.args.key.now in
    let alike = find_alike (is_free (map days_of_row c.rows_sharing-rows.result.now)) (is_free all) p c.args.period.ordered c.rows_sharing-rows.ensures.free in
    none_free (is_free all) p d _ (c.in_ok-start.ensures ∙ alike) (ap (option_map (λ (x : Day). x.number)) c.in_default.is) h free

pub returns-clause-free : goal.returns-clause-free
returns-clause-free c d h free =
    let p = period_of c.args.period in
    let all = periods_of (rows_at rows_of_table c.args.tables.now c.args.table) c.args.key.now in
    let alike = find_alike (is_free (map days_of_row c.rows_sharing-rows.result.now)) (is_free all) p c.args.period.ordered c.rows_sharing-rows.ensures.free in
    let from = from_first (is_free all) p d c.in-Some.start.number _ (c.in_ok-start.ensures ∙ alike) (ap (option_map (λ (x : Day). x.number)) c.in-Some.is) h free in
    let met : is_free (map days_of_row c.rows_sharing-rows.result.now) d ≡ true = c.rows_sharing-rows.ensures.free d from.1 from.2 ∙ free in
    period_made c.new.result c.ok.result c.in-Some.start c.free_before.result d c.ok.ensures.value c.new.ensures.succeeds c.new.ensures.value from.0 (c.free_before.ensures.free d from.2 met)

pub returns-clause-within : goal.returns-clause-within
returns-clause-within c =
    let p = period_of c.args.period in
    let all = periods_of (rows_at rows_of_table c.args.tables.now c.args.table) c.args.key.now in
    let alike = find_alike (is_free (map days_of_row c.rows_sharing-rows.result.now)) (is_free all) p c.args.period.ordered c.rows_sharing-rows.ensures.free in
    let first = day_found (is_free all) p c.args.period.ordered c.in-Some.start.number _ (c.in_ok-start.ensures ∙ alike) (ap (option_map (λ (x : Day). x.number)) c.in-Some.is) in
    period_within c.new.result c.ok.result c.in-Some.start c.free_before.result c.args.period (is_free all) c.ok.ensures.value c.new.ensures.value first.0 c.free_before.ensures.within first.1
