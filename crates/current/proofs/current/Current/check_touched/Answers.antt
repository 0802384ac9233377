use Rattle.std.proofs.Common.{ap, option_map, subst, sym, inr}
use Rattle.model.specs.Transactions.{State}
use Rattle.sqlread.specs.Meaning.{language_of}
use Rattle.rowlaws.specs.Whole.{ComesFromWhole}
use Rattle.rowlaws.specs.Statements.{AllListed}
use Rattle.current.specs.Orphans.{place_of}
use Rattle.current.specs.Reads.{FewToCheck}
use Rattle.current.specs.Places.{rows_at}
use Rattle.current.specs.Table.{rows_of_table}
use Rattle.current.specs.Touched.{removed_in, added_in}
use Rattle.current.proofs.Checked.{none_touched, one_touched}
use Rattle.current.proofs.current.Current.check_touched.Goals as goal

pub returns-in_ok-no_parent-in-Some-clause-err : goal.returns-in_ok-no_parent-in-Some-clause-err
returns-in_ok-no_parent-in-Some-clause-err c =
    let schema = c.args.self.now.schema in
    let touched = c.args.touched.now in
    let tables = c.as_slice-tables.ensures.value in
    inr (λ whole. one_touched schema (rows_at rows_of_table c.args.self.now.tables.items) _
    (λ (state : State) (listed : AllListed (rows_at rows_of_table c.args.self.now.tables.items) state). c.in_ok-place.ensures.first
    (subst (λ ts. ComesFromWhole (language_of schema) (rows_at rows_of_table ts) (removed_in touched) (added_in touched)) (sym tables) whole) state (subst (λ ts. AllListed (rows_at rows_of_table ts) state) (sym tables) listed))
    (place_of c.in-Some.place) c.in_ok-no_parent-in-Some.field-0 (ap (option_map place_of) c.in-Some.is) c.in_ok-no_parent-in-Some.ensures)

pub returns-in-None-clause-ok : goal.returns-in-None-clause-ok
returns-in-None-clause-ok c = λ whole.
    let schema = c.args.self.now.schema in
    let touched = c.args.touched.now in
    let tables = c.as_slice-tables.ensures.value in
    none_touched schema (rows_at rows_of_table c.args.self.now.tables.items) _
    (λ (state : State) (listed : AllListed (rows_at rows_of_table c.args.self.now.tables.items) state). c.in_ok-place.ensures.first
    (subst (λ ts. ComesFromWhole (language_of schema) (rows_at rows_of_table ts) (removed_in touched) (added_in touched)) (sym tables) whole) state (subst (λ ts. AllListed (rows_at rows_of_table ts) state) (sym tables) listed))
    (ap (option_map place_of) c.in-None.is)

pub returns-in_err-place-clause-few : goal.returns-in_err-place-clause-few
returns-in_err-place-clause-few c =
    let self = c.args.self.now in
    let touched = c.args.touched.now in
    subst (λ ts. FewToCheck self.schema (rows_at rows_of_table ts) (removed_in touched) (added_in touched) c.args.count.now c.first_touched_orphan.new.count) c.as_slice-tables.ensures.value c.first_touched_orphan.ensures.few

pub returns-in_err-no_parent-in-Some-clause-few : goal.returns-in_err-no_parent-in-Some-clause-few
returns-in_err-no_parent-in-Some-clause-few c =
    let self = c.args.self.now in
    let touched = c.args.touched.now in
    subst (λ ts. FewToCheck self.schema (rows_at rows_of_table ts) (removed_in touched) (added_in touched) c.args.count.now c.first_touched_orphan.new.count) c.as_slice-tables.ensures.value c.first_touched_orphan.ensures.few

pub returns-in_ok-no_parent-in-Some-clause-few : goal.returns-in_ok-no_parent-in-Some-clause-few
returns-in_ok-no_parent-in-Some-clause-few c =
    let self = c.args.self.now in
    let touched = c.args.touched.now in
    subst (λ ts. FewToCheck self.schema (rows_at rows_of_table ts) (removed_in touched) (added_in touched) c.args.count.now c.first_touched_orphan.new.count) c.as_slice-tables.ensures.value c.first_touched_orphan.ensures.few

pub returns-in-None-clause-few : goal.returns-in-None-clause-few
returns-in-None-clause-few c =
    let self = c.args.self.now in
    let touched = c.args.touched.now in
    subst (λ ts. FewToCheck self.schema (rows_at rows_of_table ts) (removed_in touched) (added_in touched) c.args.count.now c.first_touched_orphan.new.count) c.as_slice-tables.ensures.value c.first_touched_orphan.ensures.few
