use Rattle.std.proofs.Common.{◌∙◌, ap, sym}
use Rattle.std.specs.Prelude.{is_some}
use Rattle.model.specs.Periods.{period_of}
use Rattle.overlaps.specs.Index.{shares_day}
use Rattle.overlaps.specs.Items.{items_of}
use Rattle.current.proofs.Moves.{any_strand}
use Rattle.current.proofs.Placed.{days_of_row, found_any, copied_some, strand_clashes}
use Rattle.current.proofs.Reading.{few_to_find}
use Rattle.current.proofs.table.TableRows.has_clash.Goals as goal

pub returns-clause-strand : goal.returns-clause-strand
returns-clause-strand c =
    let t = c.args.self.now in
    let row = c.args.row.now in
    let p = period_of row.period in
    let clashing = strand_clashes c.sharing_is_overlap.ensures t.index.strands row.key p row.period.ordered (t.in_strands row.key) in
    c.is_some.ensures ∙ copied_some c.find.result ∙ ap is_some c.find.ensures.item ∙ found_any (λ r. shares_day p (days_of_row r)) (items_of t.index.strands row.key) ∙ sym clashing

pub returns-clause-rows : goal.returns-clause-rows
returns-clause-rows c =
    let t = c.args.self.now in
    let row = c.args.row.now in
    let p = period_of row.period in
    let clashing = strand_clashes c.sharing_is_overlap.ensures t.index.strands row.key p row.period.ordered (t.in_strands row.key) in
    c.is_some.ensures ∙ copied_some c.find.result ∙ ap is_some c.find.ensures.item ∙ found_any (λ r. shares_day p (days_of_row r)) (items_of t.index.strands row.key) ∙ sym clashing ∙ any_strand t.index.strands t.ordered t.in_strands row.key p

pub returns-clause-few : goal.returns-clause-few
returns-clause-few c = let t = c.args.self.now in few_to_find t.index.strands t.ordered t.in_strands c.args.row.now.key c.args.count.now c.find.new.count c.find.ensures.few
