-- What one more entry makes of tables that are those of a list.
use Rattle.std.specs.Option.{option_map_or}
use Rattle.std.specs.Result.{result_unwrap_or}
use Rattle.std.proofs.Common.{◌≡◌, ℕ, zero, suc, ◌+◌, ◌<◌, ◌≤◌, inl, inr, Bool, true, false, cond, List, [], ◌∷◌, ◌++◌, length, take, reverse, Option, Some, None, option_map, Err, refl, sym, ap, ◌∙◌, subst, arith}
use Rattle.std.specs.Prelude.{◌-◌, ◌==◌, nat_lt, slice_get, unwrap_or, ◌&&◌}
use Rattle.std.proofs.lemmas.Bool.{cases_Bool, eq-eqb, eqb-true}
use Rattle.std.proofs.lemmas.List.{reverse-append}
use Rattle.std.proofs.Math.Logic.{∥∥₁_elim}
use Rattle.std.proofs.lemmas.Grind.{merely}
use Rattle.std.proofs.Props.{props}
use Rattle.fault.specs.declared.refusal.Refusal.TheVariants as refusals
use Rattle.model.specs.Lists.{nth}
use Rattle.model.specs.declared.entry.Request.{Request}
use Rattle.model.specs.declared.entry.Entry.{Entry}
use Rattle.model.specs.Stamps.{above}
use Rattle.model.specs.Tables.{Row, IsRow, empty_table}
use Rattle.model.specs.Transactions.{State, Language, executed_text}
use Rattle.model.specs.Logs.{IsStamped, last_entry, closed, least_stamp, Outcome, executed, state_after, state_at, first_outcome, first_outcomes, kept, outcome, is_first}
use Rattle.rowlaws.specs.Rows.{Lists}
use Rattle.rowlaws.specs.Touching.{IsTouched}
use Rattle.rowlaws.specs.Statements.{AllListed}
use Rattle.rowlaws.specs.Logs.{FineLogs, ReadsFine, LogsOnRows, rows_after}
use Rattle.rowlaws.proofs.RowFacts.{both}
use Rattle.versionlaws.specs.Versions.{Version, Holds, HeldBefore, NoVersions}
use Rattle.versionlaws.specs.ByKey.{HeldByKey}
use Rattle.versionlaws.specs.Committing.{committed, CommitEntry, EntryStays}
use Rattle.current.specs.declared.current.Current.{Current}
use Rattle.current.specs.Current as current
use Rattle.sqlchecks.specs.Columns as columns
use Rattle.sqlread.specs.Meaning.{language_of}
use Rattle.sysversion.specs.declared.Versions.{Versions}
use Rattle.sysversion.specs.Versions as versions
use Rattle.retry.specs.Judging.{Verdict, New, Gap, number_of, outcomes_of, again, judged_by, judged, with_outcome}
use Rattle.apply.specs.declared.tables.Tables.{Tables}
use Rattle.apply.specs.Executing.{IsCommitted, unless_new}
use Rattle.apply.specs.Reads.{FewToApply, FewForAll, AreFew}
use Rattle.apply.specs.View.{AreTables, reads_in}
use Rattle.apply.proofs.Turned.{whole}

-- ---- judging

again_known : (told : Option Outcome) → unless_new (again told) ≡ None → ⊥
again_known None h = cc
again_known (Some o) h = cc

-- a request with no outcome yet has the number after the last one's
pub new_number : (n : ℕ) (outcomes : List Outcome) (number : ℕ) → unless_new (judged_by n outcomes number) ≡ None → (number == n + 1) ≡ true
new_number n outcomes number h = by (number == n + 1) (nat_lt n number) h
  where
    by : (a b : Bool) → unless_new (cond a New (cond b Gap (again (slice_get outcomes (n - number))))) ≡ None → a ≡ true
    by true b g = refl
    by false true g = cc
    by false false g = absurd (again_known (slice_get outcomes (n - number)) g)

-- and one with an outcome has not
pub known_number : (n : ℕ) (outcomes : List Outcome) (number : ℕ) (o : Outcome) → unless_new (judged_by n outcomes number) ≡ Some o → (number == n + 1) ≡ false
known_number n outcomes number o h = by (number == n + 1) (cond (nat_lt n number) Gap (again (slice_get outcomes (n - number)))) h
  where
    by : (a : Bool) (rest : Verdict) → unless_new (cond a New rest) ≡ Some o → a ≡ false
    by true rest g = absurd cc
    by false rest g = refl

abbrev outcome_by : Outcome → ℕ → ℕ → List Outcome → Outcome
outcome_by first n number outcomes = cond (number == n + 1) first (cond (nat_lt n number) (Err refusals.Gap) (unwrap_or (slice_get outcomes (n - number)) (Err refusals.Old)))

known_outcome : (n : ℕ) (outcomes : List Outcome) (number : ℕ) (first o : Outcome) → unless_new (judged_by n outcomes number) ≡ Some o → o ≡ outcome_by first n number outcomes
known_outcome n outcomes number first o h = by (number == n + 1) (nat_lt n number) (slice_get outcomes (n - number)) h
  where
    by : (a b : Bool) (told : Option Outcome) → unless_new (cond a New (cond b Gap (again told))) ≡ Some o → o ≡ cond a first (cond b (Err refusals.Gap) (unwrap_or told (Err refusals.Old)))
    by true b told g = absurd cc
    by false true told g = cc
    by false false None g = cc
    by false false (Some p) g = cc

-- of the latest eight all but the last are the latest seven
take_less : {A : Type 0} (k : ℕ) (xs : List A) → take k (take (suc k) xs) ≡ take k xs
take_less zero xs = refl
take_less (suc k) [] = refl
take_less (suc k) (x ∷ xs) = ap (λ ys. x ∷ ys) (take_less k xs)

-- ---- stamps

got_before : {A : Type 0} (xs ys : List A) (k : ℕ) (x : A) → slice_get xs k ≡ Some x → slice_get (xs ++ ys) k ≡ Some x
got_before [] ys k x h = absurd cc
got_before (y ∷ xs) ys zero x h = h
got_before (y ∷ xs) ys (suc k) x h = got_before xs ys k x h

got_last : {A : Type 0} (xs : List A) (e : A) → slice_get (xs ++ e ∷ []) (length xs) ≡ Some e
got_last [] e = refl
got_last (x ∷ xs) e = got_last xs e

nth_before : (xs ys : List Entry) (k : ℕ) (x : Entry) → nth xs k ≡ Some x → nth (xs ++ ys) k ≡ Some x
nth_before xs ys zero x h = absurd cc
nth_before xs ys (suc k) x h = got_before xs ys k x h

stamped_before : (list more : List Entry) → IsStamped (list ++ more) → IsStamped list
stamped_before list more s = record {
  instants = λ i e h. s.instants i e (nth_before list more i e h);
  rising = λ i j d e l h g. s.rising i j d e l (nth_before list more i d h) (nth_before list more j e g);
}

length_more : (list : List Entry) (e : Entry) → length (list ++ e ∷ []) ≡ suc (length list)
length_more [] e = refl
length_more (x ∷ xs) e = ap suc (length_more xs e)

last_is : (list : List Entry) (e : Entry) → nth (list ++ e ∷ []) (length (list ++ e ∷ [])) ≡ Some e
last_is list e = ap (nth (list ++ e ∷ [])) (length_more list e) ∙ got_last list e

pub closed_more : (list : List Entry) (e : Entry) → closed (list ++ e ∷ []) ≡ Some e.stamp
closed_more list e = ap (λ o. option_map (λ (d : Entry). d.stamp) o) (last_is list e)

bound_less : (list : List Entry) (e : Entry) → IsStamped (list ++ e ∷ []) → least_stamp list ≤ e.stamp
bound_less list e s = by (last_entry list) refl
  where
    by : (o : Option Entry) → last_entry list ≡ o → above (option_map (λ (d : Entry). d.stamp) o) ≤ e.stamp
    by None h = omega arith
    by (Some d) h =
        let l = s.rising (length list) (suc (length list)) d e (omega arith) (nth_before list (e ∷ []) (length list) d h) (got_last list e) in
        omega arith

-- ---- one more entry

module _ (tables : columns.Tables) (list : List Entry) (e : Entry) where
  abbrev language : Language
  language = language_of tables

  abbrev before : List Entry
  before = reverse list

  abbrev all : List Entry
  all = list ++ e ∷ []

  more : reverse all ≡ e ∷ before
  more = reverse-append list (e ∷ [])

  -- what becomes of the state, and of a client's requests
  abbrev after_request : ℕ → Option Request → List Entry → State → State
  after_request t o es state = option_map_or (λ (r : Request). cond (is_first r es) (result_unwrap_or (executed_text language t r.text state) state) state) o state

  abbrev is_request : ℕ → ℕ → Option Request → Bool
  is_request client number o = option_map_or (λ (r : Request). r.client == client && r.number == number) o false

  abbrev outcomes_with : ℕ → ℕ → Option Request → List Entry → List Outcome → List Outcome
  outcomes_with client t o es earlier = option_map_or (λ (r : Request). cond (r.client == client && is_first r es) (first_outcome language t r es ∷ earlier) earlier) o earlier

  state_is : (o : Option Request) → e.request ≡ o → state_after language (reverse all) ≡ after_request e.stamp o before (state_after language before)
  unfolding state_after
  state_is o h = ap (state_after language) more ∙ ap (λ r. after_request e.stamp r before (state_after language before)) h

  executed_is : (o : Option Request) (client : ℕ) → e.request ≡ o → executed client (reverse all) ≡ cond (is_request client (executed client before + 1) o) (executed client before + 1) (executed client before)
  unfolding executed
  executed_is o client h = ap (executed client) more ∙ ap (λ r. cond (is_request client (executed client before + 1) r) (executed client before + 1) (executed client before)) h

  -- the outcomes that are kept for a client after an entry of this request
  abbrev kept_after : Option Request → ℕ → List Outcome
  kept_after o client = take 8 (outcomes_with client e.stamp o before (first_outcomes language client before))

  kept_is : (o : Option Request) (client : ℕ) → e.request ≡ o → kept language client (reverse all) ≡ kept_after o client
  unfolding first_outcomes
  kept_is o client h = ap (kept language client) more ∙ ap (λ r. kept_after r client) h

  module _ (stays_held : EntryStays) (old : Tables) (are : AreTables tables list old) where
    reads_more : (reads : ℕ) → (IsStamped list → FewToApply tables before e (reads_in old) reads) → AreFew tables all reads
    unfolding FewForAll AreFew
    reads_more reads few stamped =
        let s = stamped_before list (e ∷ []) stamped in
        ∥∥₁_elim (are.reads s) (hlevel props) (λ earlier. merely (subst (λ es. FewForAll tables es reads) (sym more) (reads_in old, earlier, few s)))

    -- nothing is executed
    same : (new : Tables) → new.current ≡ old.current → new.versions ≡ old.versions → new.requests ≡ old.requests → new.last ≡ Some e.stamp → reads_in new ≡ reads_in old
        → state_after language (reverse all) ≡ state_after language before → ((c : ℕ) → executed c (reverse all) ≡ executed c before) → ((c : ℕ) → kept language c (reverse all) ≡ kept language c before)
        → AreTables tables all new
    same new c v r l n state numbers outcomes = record {
      rows = subst (λ (s : State). AllListed (current.rows_of new.current) s) (sym state) (subst (λ (x : Current). AllListed (current.rows_of x) (state_after language before)) (sym c) are.rows);
      numbers = λ k. ap (λ x. number_of x k) r ∙ are.numbers k ∙ sym (numbers k);
      outcomes = λ k. ap (λ x. outcomes_of x k) r ∙ are.outcomes k ∙ sym (outcomes k);
      last = l ∙ sym (closed_more list e);
      held = λ s n. subst (λ (x : Versions). Holds (versions.versions_of x n) (λ u. state_at language all u n) (least_stamp all) (state_after language (reverse all) n)) (sym v)
          (stays_held language n list e (versions.versions_of old.versions n) s (are.held (stamped_before list (e ∷ []) s) n) (ap (λ (x : State). x n) state));
      current_schema = ap current.schema_in c ∙ are.current_schema;
      versions_schema = ap versions.schema_in v ∙ are.versions_schema;
      reads = reads_more (reads_in new) (λ s. inl n);
    }

    pub a_close : (new : Tables) → new.current ≡ old.current → new.versions ≡ old.versions → new.requests ≡ old.requests → new.last ≡ Some e.stamp → reads_in new ≡ reads_in old → e.request ≡ None → AreTables tables all new
    a_close new c v r l n h = same new c v r l n (state_is None h) (λ k. executed_is None k h) (λ k. kept_is None k h)

    -- a request that was judged before
    module _ (r : Request) (asks : e.request ≡ Some r) (o : Outcome) (known : unless_new (judged old.requests r.client r.number) ≡ Some o) where
      is_later : (r.number == executed r.client before + 1) ≡ false
      is_later = subst (λ n. (r.number == n + 1) ≡ false) (are.numbers r.client) (known_number (number_of old.requests r.client) (outcomes_of old.requests r.client) r.number o known)

      none_more : (c : ℕ) → cond (is_request c (executed c before + 1) (Some r)) (executed c before + 1) (executed c before) ≡ executed c before
      none_more c = elim (cases_Bool (r.client == c)) [
        | inl y ↦
            let i : r.client ≡ c = eqb-true r.client c y in
            let f : (r.number == executed c before + 1) ≡ false = subst (λ k. (r.number == executed k before + 1) ≡ false) i is_later in
            rw (y, f) refl
        | inr n ↦ rw n refl
      ]

      kept_same : (c : ℕ) → kept_after (Some r) c ≡ kept language c before
      kept_same c = elim (cases_Bool (r.client == c)) [
        | inl y ↦ rw (y, is_later) refl
        | inr n ↦ rw n refl
      ]

      state_same : after_request e.stamp (Some r) before (state_after language before) ≡ state_after language before
      state_same = rw is_later refl

      pub asked_again : (new : Tables) → new.current ≡ old.current → new.versions ≡ old.versions → new.requests ≡ old.requests → new.last ≡ Some e.stamp → reads_in new ≡ reads_in old → AreTables tables all new
      asked_again new c v q l n = same new c v q l n (state_is (Some r) asks ∙ state_same) (λ k. executed_is (Some r) k asks ∙ none_more k) (λ k. kept_is (Some r) k asks ∙ kept_same k)

      pub outcome_again : o ≡ outcome language e.stamp r before
      unfolding outcome
      outcome_again =
          known_outcome (number_of old.requests r.client) (outcomes_of old.requests r.client) r.number (first_outcome language e.stamp r before) o known
          ∙ ap (λ n. outcome_by (first_outcome language e.stamp r before) n r.number (outcomes_of old.requests r.client)) (are.numbers r.client)
          ∙ ap (outcome_by (first_outcome language e.stamp r before) (executed r.client before) r.number) (are.outcomes r.client)

    -- a request that is executed
    module _ (r : Request) (asks : e.request ≡ Some r) (unknown : unless_new (judged old.requests r.client r.number) ≡ None) where
      pub is_next : (r.number == executed r.client before + 1) ≡ true
      is_next = subst (λ n. (r.number == n + 1) ≡ true) (are.numbers r.client) (new_number (number_of old.requests r.client) (outcomes_of old.requests r.client) r.number unknown)

      abbrev next : State
      next = result_unwrap_or (executed_text language e.stamp r.text (state_after language before)) (state_after language before)

      state_next : after_request e.stamp (Some r) before (state_after language before) ≡ next
      state_next = rw is_next refl

      module _ (o : Outcome) (is : o ≡ first_outcome language e.stamp r before) where
        pub outcome_first : o ≡ outcome language e.stamp r before
        unfolding outcome
        outcome_first = rw is_next is

        number_more : (c : ℕ) → cond (c == r.client) r.number (number_of old.requests c) ≡ cond (is_request c (executed c before + 1) (Some r)) (executed c before + 1) (executed c before)
        number_more c = elim (cases_Bool (r.client == c)) [
          | inl y ↦
              let i : r.client ≡ c = eqb-true r.client c y in
              let z : (c == r.client) ≡ true = eq-eqb c r.client (sym i) in
              let f : (r.number == executed c before + 1) ≡ true = subst (λ k. (r.number == executed k before + 1) ≡ true) i is_next in
              rw (y, z, f) (eqb-true r.number (executed c before + 1) f)
          | inr n ↦
              let z : (c == r.client) ≡ false = elim (cases_Bool (c == r.client)) [ inl y ↦ absurd (both (eq-eqb r.client c (sym (eqb-true c r.client y))) n) | inr m ↦ m ] in
              rw (n, z) (are.numbers c)
        ]

        kept_more : (c : ℕ) → cond (c == r.client) (with_outcome o (outcomes_of old.requests r.client)) (outcomes_of old.requests c) ≡ kept_after (Some r) c
        kept_more c = elim (cases_Bool (r.client == c)) [
          | inl y ↦
              let i : r.client ≡ c = eqb-true r.client c y in
              let z : (c == r.client) ≡ true = eq-eqb c r.client (sym i) in
              let first = first_outcome language e.stamp r before in
              rw (y, z, is_next) (
              ap (λ x. with_outcome x (outcomes_of old.requests r.client)) is ∙ ap (with_outcome first) (are.outcomes r.client)
              ∙ ap (λ xs. first ∷ xs) (take_less 7 (first_outcomes language r.client before)) ∙ ap (λ k. take 8 (first ∷ first_outcomes language k before)) i)
          | inr n ↦
              let z : (c == r.client) ≡ false = elim (cases_Bool (c == r.client)) [ inl y ↦ absurd (both (eq-eqb r.client c (sym (eqb-true c r.client y))) n) | inr m ↦ m ] in
              rw (n, z) (are.outcomes c)
        ]

        pub executed_first : CommitEntry → HeldByKey → HeldBefore → FineLogs → ReadsFine language → (new : Tables)
            → AllListed (current.rows_of new.current) next
            → ((n : ℕ) → IsCommitted e.stamp (state_after language before n) (next n) (versions.versions_of old.versions n) (versions.versions_of new.versions n))
            → ((c : ℕ) → number_of new.requests c ≡ cond (c == r.client) r.number (number_of old.requests c))
            → ((c : ℕ) → outcomes_of new.requests c ≡ cond (c == r.client) (with_outcome o (outcomes_of old.requests r.client)) (outcomes_of old.requests c))
            → new.last ≡ Some e.stamp → current.schema_in new.current ≡ current.schema_in old.current → versions.schema_in new.versions ≡ versions.schema_in old.versions
            → (IsStamped list → FewToApply tables before e (reads_in old) (reads_in new)) → AreTables tables all new
        executed_first commit by_key held_before fine reads new rows versioned numbers outcomes last made made' few = record {
          rows = subst (λ (s : State). AllListed (current.rows_of new.current) s) (sym state) rows;
          numbers = λ c. numbers c ∙ number_more c ∙ sym (executed_is (Some r) c asks);
          outcomes = λ c. outcomes c ∙ kept_more c ∙ sym (kept_is (Some r) c asks);
          last = last ∙ sym (closed_more list e);
          held = λ s n. by s n (versioned n);
          current_schema = made ∙ are.current_schema;
          versions_schema = made' ∙ are.versions_schema;
          reads = reads_more (reads_in new) few;
        }
          where
            state : state_after language (reverse all) ≡ next
            state = state_is (Some r) asks ∙ state_next

            by : IsStamped all → (n : ℕ) → IsCommitted e.stamp (state_after language before n) (next n) (versions.versions_of old.versions n) (versions.versions_of new.versions n)
                → Holds (versions.versions_of new.versions n) (λ u. state_at language all u n) (least_stamp all) (state_after language (reverse all) n)
            by s n (inl stays) =
                subst (λ (x : List Version). Holds x (λ u. state_at language all u n) (least_stamp all) (state_after language (reverse all) n)) (sym stays.1)
                (stays_held language n list e (versions.versions_of old.versions n) s (are.held (stamped_before list (e ∷ []) s) n) (ap (λ (x : State). x n) state ∙ stays.0))
            by s n (inr turned) =
                let held = are.held (stamped_before list (e ∷ []) s) n in
                let bound = bound_less list e s in
                let born : (row : Row) → IsRow (state_after language before n) row → row.system_start < e.stamp = λ row h. let b = held_before (versions.versions_of old.versions n) (λ u. state_at language list u n) (least_stamp list) (state_after language before n) row held h in omega arith in
                let touched = whole e.stamp (state_after language before n) (next n) turned.0 turned.1 turned.2 born in
                let now : IsTouched (state_after language before n) (state_after language (reverse all) n) turned.0 turned.1 = subst (λ (x : State). IsTouched (state_after language before n) (x n) turned.0 turned.1) (sym state) touched in
                by_key (committed e.stamp turned.0 turned.1 (versions.versions_of old.versions n)) (versions.versions_of new.versions n) (λ u. state_at language all u n) (least_stamp all) (state_after language (reverse all) n)
                (commit language n list e (versions.versions_of old.versions n) turned.0 turned.1 s (fine language all reads) held now) turned.3

-- ---- before any entry

pub of_no_entry : NoVersions → LogsOnRows → (tables : columns.Tables) (new : Tables) → ((n : ℕ) → current.rows_of new.current n ≡ []) → ((n : ℕ) → versions.versions_of new.versions n ≡ []) → ((c : ℕ) → number_of new.requests c ≡ 0) → ((c : ℕ) → outcomes_of new.requests c ≡ []) → new.last ≡ None
    → current.schema_in new.current ≡ tables → versions.schema_in new.versions ≡ tables → reads_in new ≡ 0 → AreTables tables [] new
unfolding state_after executed first_outcomes rows_after FewForAll AreFew
of_no_entry none logs tables new rows kept' numbers outcomes last made made' no_reads = record {
  rows = λ n. subst (λ (x : List Row). Lists x (state_after (language_of tables) [] n)) (sym (rows n)) (logs (language_of tables) [] tt n);
  numbers = numbers;
  outcomes = outcomes;
  last = last;
  held = λ s n. subst (λ (x : List Version). Holds x (λ u. state_at (language_of tables) [] u n) 0 empty_table) (sym (kept' n)) (none (λ u. state_at (language_of tables) [] u n));
  current_schema = made;
  versions_schema = made';
  reads = λ s. merely no_reads;
}
