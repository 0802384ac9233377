-- What is found over rows is what the definitions say of days.
use Rattle.std.proofs.Common.{◌≡◌, List, Option, Some, None, Ok, Err, sym, ap, ◌∙◌}
use Rattle.fault.specs.declared.refusal.Refusal.{Refusal}
use Rattle.fault.specs.declared.refusal.Refusal.TheVariants.{NoParent}
use Rattle.model.specs.Texts.{key_text, day_text}
use Rattle.model.specs.Transactions.{State, Place, first_orphan, unless_orphan}
use Rattle.rowlaws.specs.Statements.{Rows, AllListed}
use Rattle.rowlaws.specs.Covering.{OrphanOnRows, rows_orphan}
use Rattle.sqlchecks.specs.Columns.{Tables}
use Rattle.sqlread.specs.Meaning.{name_of, language_of}
use Rattle.current.specs.declared.table.TableRows.{TableRows}
use Rattle.current.specs.Places.{rows_at}
use Rattle.current.specs.Table.{rows_of_table}
use Rattle.current.proofs.Orphans.{all_in_order}

module _ (law : OrphanOnRows) (ts : Tables) (tables : List TableRows) where
  found_is : (found : Option Place) → found ≡ rows_orphan (language_of ts) (rows_at rows_of_table tables) → (state : State) → AllListed (rows_at rows_of_table tables) state
      → unless_orphan (language_of ts) state (first_orphan (language_of ts) state) ≡ unless_orphan (language_of ts) state found
  found_is found e state listed = ap (unless_orphan (language_of ts) state) (sym (law (language_of ts) (rows_at rows_of_table tables) state listed (all_in_order tables)) ∙ sym e)

  pub none_found : None ≡ rows_orphan (language_of ts) (rows_at rows_of_table tables) → (state : State) → AllListed (rows_at rows_of_table tables) state → unless_orphan (language_of ts) state (first_orphan (language_of ts) state) ≡ Ok state
  none_found e state listed = found_is None e state listed

  pub one_found : (p : Place) (refusal : Refusal) → refusal ≡ NoParent (name_of ts p.table) (key_text p.key) (day_text p.day) → Some p ≡ rows_orphan (language_of ts) (rows_at rows_of_table tables)
      → (state : State) → AllListed (rows_at rows_of_table tables) state → unless_orphan (language_of ts) state (first_orphan (language_of ts) state) ≡ Err refusal
  unfolding language_of
  one_found p refusal is e state listed = found_is (Some p) e state listed ∙ ap Err (sym is)

-- the same of what is found where a transaction touched
module _ (ts : Tables) (rows : Rows) (found : Option Place) (first : (state : State) → AllListed rows state → found ≡ first_orphan (language_of ts) state) where
  touched_is : (state : State) → AllListed rows state → unless_orphan (language_of ts) state (first_orphan (language_of ts) state) ≡ unless_orphan (language_of ts) state found
  touched_is state listed = ap (unless_orphan (language_of ts) state) (sym (first state listed))

  pub none_touched : found ≡ None → (state : State) → AllListed rows state → unless_orphan (language_of ts) state (first_orphan (language_of ts) state) ≡ Ok state
  none_touched e state listed = touched_is state listed ∙ ap (unless_orphan (language_of ts) state) e

  pub one_touched : (p : Place) (refusal : Refusal) → found ≡ Some p → refusal ≡ NoParent (name_of ts p.table) (key_text p.key) (day_text p.day)
      → (state : State) → AllListed rows state → unless_orphan (language_of ts) state (first_orphan (language_of ts) state) ≡ Err refusal
  unfolding language_of
  one_touched p refusal e is state listed = touched_is state listed ∙ ap (unless_orphan (language_of ts) state) e ∙ ap Err (sym is)
