use Rattle.std.proofs.Common.{◌≡◌, ◌∙◌, ◌<◌, ◌^◌, List, [], map, length, ap, sym, subst, arith}
use Rattle.std.specs.Option.{option_map_or}
use Rattle.std.specs.BTreeMap.{get}
use Rattle.model.specs.Values.{key_cmp}
use Rattle.model.specs.Tables.{Row}
use Rattle.model.specs.Periods.{period_of, is_free}
use Rattle.overlaps.specs.Items.{items_of}
use Rattle.rowlaws.specs.Covering.{periods_of}
use Rattle.current.specs.Reads.{is_of, searching}
use Rattle.current.specs.Places.{rows_at}
use Rattle.current.specs.Table.{rows_of_table}
use Rattle.current.proofs.Meeting.{twice, met_apart, met_free}
use Rattle.current.proofs.OfKey.{strand_periods}
use Rattle.current.proofs.Placed.{strand_items}
use Rattle.current.proofs.Reading.{no_more}
use Rattle.current.proofs.Tabled.{rows_at-got}
use Rattle.current.proofs.references.rows_sharing.Goals as goal

pub returns-in-Some-clause-free : goal.returns-in-Some-clause-free
returns-in-Some-clause-free c d a b =
    let t = c.in-Some.rows.now in
    let key = c.args.key.now in
    let items = items_of t.index.strands key in
    let same : rows_of_table t ≡ rows_at rows_of_table c.args.tables.now c.args.table = ap (λ o. option_map_or rows_of_table o []) c.in-Some.ensures ∙ sym (rows_at-got rows_of_table c.args.tables.now c.args.table) in
    let periods = sym (twice items) ∙ ap (map (λ (r : Row). r.period)) (sym (strand_items (get key_cmp t.index.strands key))) ∙ strand_periods t.index.strands t.ordered t.in_strands key ∙ ap (λ rows. periods_of rows key) same in
    met_free c.sharing_is_overlap.ensures (period_of c.args.period) c.args.period.ordered items c.sharing.result.1.now c.sharing.result.0 c.sharing.ensures.found d a b ∙ ap (λ ps. is_free ps d) periods

pub returns-in-Some-clause-apart : goal.returns-in-Some-clause-apart
returns-in-Some-clause-apart c =
    let t = c.in-Some.rows.now in
    let key = c.args.key.now in
    met_apart c.sharing_is_overlap.ensures (period_of c.args.period) c.args.period.ordered (items_of t.index.strands key) c.sharing.result.1.now c.sharing.result.0 c.sharing.ensures.found (t.index.apart key)

pub returns-in-Some-clause-few : goal.returns-in-Some-clause-few
returns-in-Some-clause-few c digits short =
    let t = c.in-Some.rows.now in
    let key = c.args.key.now in
    let same : rows_of_table t ≡ rows_at rows_of_table c.args.tables.now c.args.table = ap (λ o. option_map_or rows_of_table o []) c.in-Some.ensures ∙ sym (rows_at-got rows_of_table c.args.tables.now c.args.table) in
    let of_key = no_more (is_of key) (rows_of_table t) in
    let all : length (rows_of_table t) < 2 ^ digits = subst (λ (rows : List Row). length rows < 2 ^ digits) (sym same) (short c.args.table) in
    let few = c.sharing.ensures.few digits (omega (arith, of_key, all)) in
    let cost = ap (searching digits key (period_of c.args.period)) same in
    omega (arith, few, cost)

pub returns-in-None-clause-free : goal.returns-in-None-clause-free
returns-in-None-clause-free c d a b =
    let none = ap (λ o. option_map_or rows_of_table o []) c.in-None.ensures ∙ sym (rows_at-got rows_of_table c.args.tables.now c.args.table) in
    ap (λ rows. is_free (periods_of rows c.args.key.now) d) none
