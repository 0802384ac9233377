-- How far a transaction raises the count of rows that are read.
use Rattle.std.proofs.Common.{◌≡◌, ◌≤◌, ◌⊎◌, ℕ, List, [], ◌∷◌, ◌++◌, length, refl, subst, inl, inr, arith}
use Rattle.fault.specs.declared.refusal.Refusal.{Refusal}
use Rattle.fault.specs.declared.refusal.Refusal.TheVariants as refusals
use Rattle.model.specs.Tables.{Row}
use Rattle.model.specs.Transactions.{State}
use Rattle.rowlaws.specs.Rows.{Has, EachListed}
use Rattle.rowlaws.specs.Statements.{Rows, AllListed}
use Rattle.sqlchecks.specs.Columns.{Tables}
use Rattle.sqlread.specs.Shapes.{StatementShape, Insert, Update, Delete}
use Rattle.sqlread.specs.Meaning.{meaning, table_of}
use Rattle.current.specs.declared.current.Current.{Current}
use Rattle.current.specs.Current.{rows_of, most_columns, AreNarrow}
use Rattle.current.specs.Laws.{KeysWithin, OfSomeState}
use Rattle.current.specs.Reads.{FewReads, FewToUndo}
use Rattle.current.specs.Run.{IsRun}
use Rattle.apply.specs.Executing.{AreBack}
use Rattle.apply.specs.Reads.{FewToRun, FewReadsEach}

-- keys may have more columns
wider_reads : (s : StatementShape) (columns more : ℕ) (rows : List Row) (old new : ℕ) → columns ≤ more → FewReads s columns rows old new → FewReads s more rows old new
wider_reads (Insert s) columns more rows old new h few = few
wider_reads (Update s) columns more rows old new h few = ((λ key named each enough. few.0 key named each (omega arith)), few.1)
wider_reads (Delete s) columns more rows old new h few = ((λ key named each enough. few.0 key named each (omega arith)), few.1)

nothing_read : (s : StatementShape) (columns : ℕ) (rows : List Row) (n : ℕ) → FewReads s columns rows n n
nothing_read (Insert s) columns rows n = λ digits h. omega arith
nothing_read (Update s) columns rows n = ((λ key named each enough digits h. omega arith), (λ digits h. omega arith))
nothing_read (Delete s) columns rows n = ((λ key named each enough digits h. omega arith), (λ digits h. omega arith))

-- none has run
pub few_none : (schema : Tables) (columns : ℕ → ℕ) (t : ℕ) (ss : List StatementShape) (went came rows : Rows) (n : ℕ) (state : State) → AllListed rows state → FewReadsEach schema columns t ss went came state n n
few_none schema columns t [] went came rows n state listed = (rows, listed, λ digits h. omega arith)
few_none schema columns t (s ∷ ss) went came rows n state listed = (n, (rows, listed, nothing_read s (columns (table_of s)) (rows (table_of s)) n), inl refl)

-- the rows that a statement takes away are no wider than those of its tables
pub removed_within : EachListed → KeysWithin → OfSomeState → (t : ℕ) (s : StatementShape) (current : Current) (mid removed added : Rows) → IsRun t (meaning s) (rows_of current) mid removed added
    → (n : ℕ) (r : Row) → Has (removed n) r → length r.key ≤ most_columns current n
removed_within listed within some t s current mid removed added run n r has =
    let start = some current in
    let next = run start.0 start.1 in
    within current n r (listed (rows_of current n) (start.0 n) r (start.1 n) ((next.3 n).went r has).0)

module _ (schema : Tables) (columns : ℕ → ℕ) (t : ℕ) (s : StatementShape) (ss : List StatementShape) (went came : Rows) (current : Current) (narrow : AreNarrow columns current) (old reads : ℕ)
    (few : FewReads s (most_columns current (table_of s)) (rows_of current (table_of s)) old reads) where
  ran : (state : State) → AllListed (rows_of current) state → FewToRun columns s state old reads
  ran state listed = (rows_of current, listed, wider_reads s (most_columns current (table_of s)) (columns (table_of s)) (rows_of current (table_of s)) old reads (narrow (table_of s)) few)

  -- the first one has run, and no other
  pub few_first : (state : State) → AllListed (rows_of current) state → FewReadsEach schema columns t (s ∷ ss) went came state old reads
  few_first state listed = (reads, ran state listed, inl refl)

  module _ (mid removed added all_went all_came : Rows) (new : ℕ) (run : IsRun t (meaning s) (rows_of current) mid removed added)
      (gone : (n : ℕ) → all_went n ≡ went n ++ removed n) (more : (n : ℕ) → all_came n ≡ came n ++ added n)
      (rest : (state : State) → AllListed mid state → FewReadsEach schema columns t ss all_went all_came state reads new) where
    all_rest : (state : State) → AllListed mid state → FewReadsEach schema columns t ss (λ n. went n ++ removed n) (λ n. came n ++ added n) state reads new
    all_rest state listed =
        let a : all_went ≡ (λ (n : ℕ). went n ++ removed n) = λ i n. gone n i in
        let b : all_came ≡ (λ (n : ℕ). came n ++ added n) = λ i n. more n i in
        subst (λ x. FewReadsEach schema columns t ss x (λ n. came n ++ added n) state reads new) a (subst (λ x. FewReadsEach schema columns t ss all_went x state reads new) b (rest state listed))

    -- others have run after it
    pub few_more : (state : State) → AllListed (rows_of current) state → FewReadsEach schema columns t (s ∷ ss) went came state old new
    few_more state listed =
        let next = run state listed in
        (reads, ran state listed, inr (next.0, removed, added, next.1, next.3, new, all_rest next.0 next.2, inl refl))

    -- and it was undone
    pub few_undone : (r : Refusal) (back : Rows) (last : ℕ) → (r ≡ refusals.NoMemory → ⊥) → (r ≡ refusals.NoMemory) ⊎ AreBack mid back → FewToUndo (length schema) back removed added new last
        → (state : State) → AllListed (rows_of current) state → FewReadsEach schema columns t (s ∷ ss) went came state old last
    few_undone r back last n (inl e) undo state listed = absurd (n e)
    few_undone r back last n (inr are) undo state listed =
        let next = run state listed in
        (reads, ran state listed, inr (next.0, removed, added, next.1, next.3, new, all_rest next.0 next.2, inr (back, are next.0 next.2, undo)))
