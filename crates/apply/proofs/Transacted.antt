-- A transaction, statement by statement.
use Rattle.std.specs.Result.{result_unwrap_or}
use Rattle.std.proofs.Common.{◌≡◌, ℕ, zero, suc, ◌<◌, ◌≤◌, ◌⊎◌, inl, inr, List, [], ◌∷◌, ◌++◌, map, filter, length, None, Result, Ok, Err, refl, sym, ap, ◌∙◌, subst, arith}
use Rattle.std.specs.Prelude.{slice_get}
use Rattle.std.specs.Option.{option_map_or}
use Rattle.std.proofs.lemmas.Bool.{cases_lt}
use Rattle.fault.specs.declared.refusal.Refusal.{Refusal}
use Rattle.fault.specs.declared.refusal.Refusal.TheVariants as refusals
use Rattle.model.specs.Transactions.{State, Statement, Language, and_then, run_statement, run_statements, first_orphan, unless_orphan, transacted, executed_text}
use Rattle.model.specs.Logs.{outcome_at}
use Rattle.rowlaws.specs.Changes.{IsFine}
use Rattle.rowlaws.specs.Touching.{removed_both, added_both}
use Rattle.rowlaws.specs.Statements.{Rows, AllListed, AllFollow}
use Rattle.rowlaws.specs.Transactions.{TransactionsFollow}
use Rattle.rowlaws.specs.Whole.{ComesFromWhole, WholeThen}
use Rattle.versionlaws.specs.ByKey.{is_of, SameByKey}
use Rattle.versionlaws.specs.Committing.{committed}
use Rattle.current.specs.Touched.{removed_in, added_in}
use Rattle.current.specs.declared.touched.Touched.{Touched}
use Rattle.current.specs.Run.{IsRun, IsRefused, AllUndoable, IsUndone}
use Rattle.current.specs.Laws.{NothingBeyond}
use Rattle.sysversion.specs.declared.Versions.{Versions}
use Rattle.sysversion.specs.Versions.{versions_of, versions_of_table, table_count}
use Rattle.sqlchecks.specs.Columns.{Tables}
use Rattle.sqlread.specs.declared.statement.Statement.{Statement as Read}
use Rattle.sqlread.specs.Shapes.{StatementShape, statement_of}
use Rattle.sqlread.specs.Meaning.{meaning, meanings, language_of}
use Rattle.sqlread.specs.Texts.{transaction_in}
use Rattle.apply.specs.Executing.{IsTurned, IsTransacted, IsRefusedWhole, AreBack, IsExecuted}
use Rattle.apply.proofs.Turned.{stays, turned_both}

-- ---- the definitions, statement by statement

and_ok : {A B E : Type 0} (r : Result A E) (a : A) (f : A → Result B E) → r ≡ Ok a → and_then r f ≡ f a
and_ok r a f h = rw h refl

and_err : {A B E : Type 0} (r : Result A E) (e : E) (f : A → Result B E) → r ≡ Err e → and_then r f ≡ Err e
and_err r e f h = rw h refl

none_is : (language : Language) (t : ℕ) (state : State) → transacted language t [] state ≡ unless_orphan language state (first_orphan language state)
unfolding transacted
none_is language t state = refl

more_is : (language : Language) (t : ℕ) (s : Statement) (ss : List Statement) (state next : State) → run_statement t s state ≡ Ok next → transacted language t (s ∷ ss) state ≡ transacted language t ss next
unfolding transacted
more_is language t s ss state next e = ap (λ (r : Result State Refusal). and_then r (λ x. unless_orphan language x (first_orphan language x))) (and_ok (run_statement t s state) next (run_statements t ss) e)

stopped_is : (language : Language) (t : ℕ) (s : Statement) (ss : List Statement) (state : State) (r : Refusal) → run_statement t s state ≡ Err r → transacted language t (s ∷ ss) state ≡ Err r
unfolding transacted
stopped_is language t s ss state r e = ap (λ (x : Result State Refusal). and_then x (λ y. unless_orphan language y (first_orphan language y))) (and_err (run_statement t s state) r (run_statements t ss) e)

plain : Language
plain = record { tables = 0; name = λ n. []; references = []; reads = λ text. Ok [] }

no_orphan : (state : State) → unless_orphan plain state (first_orphan plain state) ≡ Ok state
unfolding first_orphan plain
no_orphan state = refl

-- each row after a statement was there before, or is born with it
follows_one : TransactionsFollow → (t : ℕ) (s : Statement) (rows : Rows) (state next : State) → IsFine s.action → AllListed rows state → run_statement t s state ≡ Ok next → AllFollow t state next
follows_one follows t s rows state next fine listed e = follows plain t (s ∷ []) rows state next (fine, tt) listed (more_is plain t s [] state next e ∙ none_is plain t next ∙ no_orphan next)

-- ---- transact

pub no_items : {A : Type 0} (xs : List A) → length xs ≡ 0 → xs ≡ []
no_items [] h = refl
no_items (x ∷ xs) h = absurd (omega arith)

pub checked : (language : Language) (t : ℕ) (rows : Rows) (removed added : Rows) → ((n : ℕ) → removed n ≡ []) → ((n : ℕ) → added n ≡ []) → ((state : State) → AllListed rows state → unless_orphan language state (first_orphan language state) ≡ Ok state) → IsTransacted language t [] rows rows removed added
checked language t rows removed added g c ok state listed =
    (state, none_is language t state ∙ ok state listed, listed, (λ n. subst (λ x. IsTurned t (state n) (state n) x (added n)) (sym (g n)) (subst (λ x. IsTurned t (state n) (state n) [] x) (sym (c n)) (stays t (state n)))))

pub unchecked : (P : Type 0) (language : Language) (t : ℕ) (rows : Rows) (r : Refusal) → (r ≡ refusals.NoMemory) ⊎ (P → (state : State) → AllListed rows state → unless_orphan language state (first_orphan language state) ≡ Err r) → P → IsRefusedWhole language t [] rows rows r
unchecked P language t rows r (inl e) p = inl e
unchecked P language t rows r (inr h) p = inr (λ state listed. (none_is language t state ∙ h p state listed, listed))

-- what one more statement touches is joined to what was touched before
pub whole_more : WholeThen → (language : Language) (t : ℕ) (s : Statement) (rows mid removed added later_removed later_added all_removed all_added : Rows) → ComesFromWhole language rows removed added → IsRun t s rows mid later_removed later_added
    → ((n : ℕ) → all_removed n ≡ removed n ++ later_removed n) → ((n : ℕ) → all_added n ≡ added n ++ later_added n) → ComesFromWhole language mid all_removed all_added
whole_more law language t s rows mid removed added later_removed later_added all_removed all_added whole run g c =
    let r : (λ (n : ℕ). removed n ++ later_removed n) ≡ all_removed = λ i n. sym (g n) i in
    let a : (λ (n : ℕ). added n ++ later_added n) ≡ all_added = λ i n. sym (c n) i in
    let both' = law language rows mid removed added later_removed later_added whole (λ state listed. let x = run state listed in (x.0, x.2, x.3)) in
    subst (λ x. ComesFromWhole language mid x all_added) r (subst (λ x. ComesFromWhole language mid (λ n. removed n ++ later_removed n) x) a both')

pub then_rest : TransactionsFollow → (language : Language) (t : ℕ) (s : Statement) (ss : List Statement) (rows mid more removed added later_removed later_added both_removed both_added : Rows) → IsFine s.action
    → IsRun t s rows mid removed added → IsTransacted language t ss mid more later_removed later_added
    → ((n : ℕ) → both_removed n ≡ removed_both (removed n) (added n) (later_removed n)) → ((n : ℕ) → both_added n ≡ added_both (added n) (later_removed n) (later_added n))
    → IsTransacted language t (s ∷ ss) rows more both_removed both_added
then_rest follows language t s ss rows mid more removed added later_removed later_added both_removed both_added fine run later g c state listed =
    let r = run state listed in
    let b : State = r.0 in
    let l = later b r.2 in
    let next : State = l.0 in
    let f = follows_one follows t s rows state b fine listed r.1 in (
      next,
      more_is language t s ss state b r.1 ∙ l.1,
      l.2,
      (λ n.
          let turned = turned_both t (state n) (b n) (next n) (removed n) (added n) (later_removed n) (later_added n) (r.3 n) (f n) (l.3 n) in
          subst (λ x. IsTurned t (state n) (next n) x (both_added n)) (sym (g n)) (subst (λ x. IsTurned t (state n) (next n) (removed_both (removed n) (added n) (later_removed n)) x) (sym (c n)) turned)),
    )

pub stopped : (language : Language) (t : ℕ) (s : Statement) (ss : List Statement) (rows more : Rows) (r : Refusal) → more ≡ rows → IsRefused t s rows r → IsRefusedWhole language t (s ∷ ss) rows more r
stopped language t s ss rows more r e (inl h) = inl h
stopped language t s ss rows more r e (inr h) = inr (λ state listed. (stopped_is language t s ss state r (h state listed), subst (λ x. AllListed x state) (sym e) listed))

pub undoable : (t : ℕ) (s : Statement) (rows mid more removed added : Rows) (r : Refusal) → (r ≡ refusals.NoMemory → ⊥) → (state : State) × AllListed rows state → IsRun t s rows mid removed added → (r ≡ refusals.NoMemory) ⊎ AreBack mid more → AllUndoable more removed added
undoable t s rows mid more removed added r n start run (inl e) = absurd (n e)
undoable t s rows mid more removed added r n start run (inr h) = let x = run start.0 start.1 in (start.0, x.0, rows, start.1, h x.0 x.2, x.3)

pub undone : (language : Language) (t : ℕ) (s : Statement) (ss : List Statement) (rows mid more back removed added : Rows) (r : Refusal) → IsRun t s rows mid removed added → IsRefusedWhole language t ss mid more r → IsUndone more back removed added → IsRefusedWhole language t (s ∷ ss) rows back r
undone language t s ss rows mid more back removed added r run (inl e) undo = inl e
undone language t s ss rows mid more back removed added r run (inr h) undo = inr (λ state listed.
    let x = run state listed in
    let y = h x.0 x.2 in
    (more_is language t s ss state x.0 x.1 ∙ y.0, undo state x.0 rows listed y.1 x.3))

pub back_again : (t : ℕ) (s : Statement) (rows mid more back removed added : Rows) (r : Refusal) → IsRun t s rows mid removed added → (r ≡ refusals.NoMemory) ⊎ AreBack mid more → IsUndone more back removed added → (r ≡ refusals.NoMemory) ⊎ AreBack rows back
back_again t s rows mid more back removed added r run (inl e) undo = inl e
back_again t s rows mid more back removed added r run (inr h) undo = inr (λ state listed. let x = run state listed in undo state x.0 rows listed (h x.0 x.2) x.3)

-- ---- execute

none_beyond : {A : Type 0} (xs : List A) (n : ℕ) → length xs ≤ n → slice_get xs n ≡ None
none_beyond [] n h = refl
none_beyond (x ∷ xs) zero h = absurd (omega arith)
none_beyond (x ∷ xs) (suc n) h = none_beyond xs n (omega arith)

beyond : (v : Versions) (n : ℕ) → table_count v ≤ n → versions_of v n ≡ []
beyond v n h = ap (λ o. option_map_or versions_of_table o []) (none_beyond v.tables.items n (omega (arith, h, v.counted)))

nothing_committed : (t : ℕ) → committed t [] [] [] ≡ []
unfolding committed
nothing_committed t = refl

all_committed : NothingBeyond → (t : ℕ) (touched : Touched) (old new : Versions) → table_count new ≡ table_count old → length touched.tables.items ≤ table_count old
    → ((n : ℕ) → n < table_count old → SameByKey (versions_of new n) (committed t (removed_in touched n) (added_in touched n) (versions_of old n)))
    → (n : ℕ) → SameByKey (versions_of new n) (committed t (removed_in touched n) (added_in touched n) (versions_of old n))
all_committed nothing t touched old new count few each n = elim (cases_lt n (table_count old)) [
  | inl l ↦ each n l
  | inr g ↦
      let a : versions_of old n ≡ [] = beyond old n g in
      let b : versions_of new n ≡ [] = beyond new n (omega arith) in
      let (c, d) = nothing touched n (omega arith) in
      let e : committed t (removed_in touched n) (added_in touched n) (versions_of old n) ≡ [] =
      ap (λ x. committed t x (added_in touched n) (versions_of old n)) c ∙ ap (λ x. committed t [] x (versions_of old n)) d ∙ ap (λ x. committed t [] [] x) a ∙ nothing_committed t in
      λ key. ap (filter (is_of key)) (b ∙ sym e)
]

text_is : (language : Language) (t : ℕ) (text : List ℕ) (ss : List Statement) (state : State) → ss ≡ result_unwrap_or (language.reads text) [] → transacted language t ss state ≡ executed_text language t text state
unfolding executed_text
text_is language t text ss state e = ap (λ x. transacted language t x state) e

pub accepted : NothingBeyond → (language : Language) (t : ℕ) (text : List ℕ) (ss : List Statement) (rows more : Rows) (touched : Touched) (old new : Versions) (tables : ℕ) → ss ≡ result_unwrap_or (language.reads text) []
    → IsTransacted language t ss rows more (removed_in touched) (added_in touched) → length touched.tables.items ≤ tables → table_count new ≡ table_count old
    → ((n : ℕ) → n < table_count old → SameByKey (versions_of new n) (committed t (removed_in touched n) (added_in touched n) (versions_of old n)))
    → (state : State) → AllListed rows state → table_count old ≡ tables → IsExecuted language t text state more (versions_of old) (versions_of new) (Ok t)
accepted nothing language t text ss rows more touched old new tables e done few count each state listed same =
    let d = done state listed in
    let ok : executed_text language t text state ≡ Ok d.0 = sym (text_is language t text ss state e) ∙ d.1 in
    let next : result_unwrap_or (executed_text language t text state) state ≡ d.0 = ap (λ o. result_unwrap_or o state) ok in
    record {
      is = ap (outcome_at t) (sym ok);
      rows = subst (λ (s : State). AllListed more s) (sym next) d.2;
      committed = λ n. inr (removed_in touched n, added_in touched n, subst (λ (s : State). IsTurned t (state n) (s n) (removed_in touched n) (added_in touched n)) (sym next) (d.3 n), all_committed nothing t touched old new count (omega arith) each n);
    }

pub refused : (language : Language) (t : ℕ) (text : List ℕ) (ss : List Statement) (rows more : Rows) (old : Versions) (r : Refusal) → ss ≡ result_unwrap_or (language.reads text) []
    → IsRefusedWhole language t ss rows more r → (r ≡ refusals.NoMemory → ⊥) → (state : State) → AllListed rows state → IsExecuted language t text state more (versions_of old) (versions_of old) (Err r)
refused language t text ss rows more old r e (inl h) n state listed = absurd (n h)
refused language t text ss rows more old r e (inr h) n state listed =
    let d = h state listed in
    let err : executed_text language t text state ≡ Err r = sym (text_is language t text ss state e) ∙ d.0 in
    let next : result_unwrap_or (executed_text language t text state) state ≡ state = ap (λ o. result_unwrap_or o state) err in
    record {
      is = ap (outcome_at t) (sym err);
      rows = subst (λ (s : State). AllListed more s) (sym next) d.1;
      committed = λ n. inl (ap (λ (s : State). s n) next, refl);
    }

-- ---- texts

pub read_is : (tables : Tables) (text : List ℕ) (items : List Read) → transaction_in tables text ≡ Ok (map statement_of items) → map statement_of items ≡ result_unwrap_or (transaction_in tables text) []
read_is tables text items e = sym (ap (λ r. result_unwrap_or r []) e)

pub unread_is : (tables : Tables) (text : List ℕ) (items : List Read) (r : Refusal) → items ≡ [] → (r ≡ refusals.NoMemory → ⊥) → (r ≡ refusals.NoMemory) ⊎ (transaction_in tables text ≡ Err r) → map statement_of items ≡ result_unwrap_or (transaction_in tables text) []
unread_is tables text items r none n (inl h) = absurd (n h)
unread_is tables text items r none n (inr e) = ap (λ xs. map statement_of xs) none ∙ sym (ap (λ x. result_unwrap_or x []) e)

meanings_are : (r : Result (List StatementShape) Refusal) → map meaning (result_unwrap_or r []) ≡ result_unwrap_or (meanings r) []
meanings_are (Ok ss) = refl
meanings_are (Err r) = refl

pub said_is : (tables : Tables) (text : List ℕ) (ss : List StatementShape) → ss ≡ result_unwrap_or (transaction_in tables text) [] → map meaning ss ≡ result_unwrap_or ((language_of tables).reads text) []
unfolding language_of
said_is tables text ss e = ap (λ xs. map meaning xs) e ∙ meanings_are (transaction_in tables text)
