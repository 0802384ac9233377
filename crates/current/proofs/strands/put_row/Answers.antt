use Rattle.std.proofs.Common.{◌≡◌, ◌∙◌, ◌<◌, ◌^◌, None, ap, length, subst, sym}
use Rattle.std.specs.Prelude.{find}
use Rattle.model.specs.Periods.{period_of}
use Rattle.overlaps.specs.Index.{shares_day, with_item, changed_at}
use Rattle.overlaps.specs.Items.{items_of}
use Rattle.current.proofs.Placed.{days_of_row, none_found, strand_clashes, put_strands}
use Rattle.current.proofs.Changed.{on_ok}
use Rattle.current.proofs.Reading.{items_long}
use Rattle.current.proofs.strands.put_row.Goals as goal

pub insert-requires : goal.insert-requires
insert-requires c =
    let row = c.args.row in
    let m = c.args.index.now.strands in
    let clashes = strand_clashes c.sharing_is_overlap.ensures m row.key (period_of row.period) row.period.ordered c.requires.in_strand in
    let none : find (λ r. shares_day (days_of_row row) (days_of_row r)) (items_of m row.key) ≡ None = none_found (λ r. shares_day (days_of_row row) (days_of_row r)) (items_of m row.key) (sym clashes ∙ c.requires.free) in
    subst (λ key. find (λ r. shares_day (days_of_row row) (days_of_row r)) (items_of m key) ≡ None) (sym c.in_ok-key.ensures.cases) none

pub returns-clause-ok : goal.returns-clause-ok
returns-clause-ok c =
    let row = c.args.row in
    let m = c.args.index.now.strands in
    let n = c.insert.new.self.strands in
    on_ok c.insert.result (λ e. put_strands m n row (subst (λ key. items_of n ≡ changed_at key (with_item days_of_row row) (items_of m)) c.in_ok-key.ensures.cases e)) c.insert.ensures.ok

pub returns-clause-few : goal.returns-clause-few
returns-clause-few c digits short =
    let m = c.args.index.now.strands in
    let long = items_long m c.args.row.key ∙ ap (λ key. length (items_of m key)) (sym c.in_ok-key.ensures.cases) in
    c.insert.ensures.few digits (subst (λ n. n < 2 ^ digits) long short)
