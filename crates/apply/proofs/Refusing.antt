-- What the laws of `refused` rest on besides the clauses that they speak of.
use Rattle.std.proofs.Common.{◌≡◌, ◌≢◌, ℕ, ◌==◌, Bool, true, false, if◌then◌else◌, nat_lt, ◌<◌, ◌≤◌, Option, Some, None, option_map, Result, Ok, Err, List, [], ◌∷◌, ◌++◌, reverse, slice_get, refl, sym, ap, ◌∙◌, subst, arith, inl, inr}
use Rattle.std.specs.Prelude.{IfErr, IfOk, IfSome, IsErr}
use Rattle.std.proofs.lemmas.List.{reverse-append}
use Rattle.std.specs.Result.{result_unwrap_or}
use Rattle.fault.specs.declared.refusal.Refusal.{Refusal}
use Rattle.fault.specs.declared.refusal.Refusal.TheVariants.{NoMemory}
use Rattle.model.specs.Tables.{Table}
use Rattle.model.specs.Statements.{insert_overlaps, set_overflows, row_count}
use Rattle.model.specs.Transactions.{State, Language, Statement, Action, Insert, Update, Delete, Place, changed, and_then, within_limit, with_table, run_statement, run_statements, first_orphan, unless_orphan, transacted, executed_text}
use Rattle.model.specs.Answers.{Select, read_at}
use Rattle.model.specs.Logs.{Outcome, outcome_at, is_first, first_outcome, first_outcomes, kept, outcome}
use Rattle.model.specs.declared.entry.Entry.{Entry}
use Rattle.model.specs.declared.entry.Request.{Request}
use Rattle.std.proofs.lemmas.Bool.Decides.{eqb_tells}

-- ---- what comes of a call

pub if_ok : {A E : Type 0} (r : Result A E) (F G : A → Type 0) → IfOk r F → ((a : A) → F a → G a) → IfOk r G
if_ok (Ok a) F G f map = map a f
if_ok (Err e) F G f map = tt

pub if_both : {A E : Type 0} (r : Result A E) (F H G : A → Type 0) → IfOk r F → IfOk r H → ((a : A) → F a → H a → G a) → IfOk r G
if_both (Ok a) F H G f h map = map a f h
if_both (Err e) F H G f h map = tt

pub some_of : {A : Type 0} (o : Option A) (G : A → Type 0) → ((a : A) → o ≡ Some a → G a) → IfSome o G
some_of (Some a) G f = f a refl
some_of None G f = tt

pub if_err : {A E : Type 0} (r : Result A E) (F G : E → Type 0) → IfErr r F → ((e : E) → F e → G e) → IfErr r G
if_err (Ok a) F G f map = tt
if_err (Err e) F G f map = map e f

pub never_ok : {A E : Type 0} (r : Result A E) (F : A → Type 0) → IfOk r F → ((a : A) → F a → ⊥) → IsErr r
never_ok (Ok a) F f none = absurd (none a f)
never_ok (Err e) F f none = refl

-- ---- no transaction is refused for want of memory

abbrev Other : {A : Type 0} → Result A Refusal → Type 0
Other r = r ≡ Err NoMemory → ⊥

chosen : {A : Type 0} (b : Bool) (r s : Result A Refusal) → Other r → Other s → Other (if b then r else s)
chosen true r s p q = p
chosen false r s p q = q

then_other : {A B : Type 0} (r : Result A Refusal) (f : A → Result B Refusal) → Other r → ((a : A) → Other (f a)) → Other (and_then r f)
then_other (Ok a) f p q = q a
then_other (Err e) f p q = λ h. p (let g : e ≡ NoMemory = cc in ap Err g)

other_changed : (c : Action) (t : ℕ) (old : Table) → Other (changed c t old)
unfolding changed
other_changed (Insert key values p) t old = chosen (insert_overlaps key p old) _ _ (λ h. cc) (λ h. cc)
other_changed (Update passes p set) t old = chosen (set_overflows passes p set old) _ _ (λ h. cc) (λ h. cc)
other_changed (Delete passes p) t old = λ h. cc

other_limit : (table : Table) → Other (within_limit table)
other_limit table = chosen (nat_lt 20000 (row_count table)) _ _ (λ h. cc) (λ h. cc)

other_statement : (t : ℕ) (s : Statement) (state : State) → Other (run_statement t s state)
other_statement t s state = then_other (and_then (changed s.action t (state s.table)) within_limit) (λ table. Ok (with_table s.table state table)) (then_other (changed s.action t (state s.table)) within_limit (other_changed s.action t (state s.table)) other_limit) (λ table h. cc)

other_statements : (t : ℕ) (ss : List Statement) (state : State) → Other (run_statements t ss state)
other_statements t [] state = λ h. cc
other_statements t (s ∷ ss) state = then_other (run_statement t s state) (run_statements t ss) (other_statement t s state) (other_statements t ss)

other_orphan : (language : Language) (state : State) (found : Option Place) → Other (unless_orphan language state found)
other_orphan language state None = λ h. cc
other_orphan language state (Some p) = λ h. cc

other_executed : (language : Language) (t : ℕ) (text : List ℕ) (state : State) → Other (executed_text language t text state)
unfolding executed_text transacted
other_executed language t text state =
    let ss = result_unwrap_or (language.reads text) [] in
    then_other (run_statements t ss state) (λ next. unless_orphan language next (first_orphan language next)) (other_statements t ss state) (λ next. other_orphan language next (first_orphan language next))

outcome_other : (t : ℕ) (r : Result State Refusal) → Other r → outcome_at t r ≢ Err NoMemory
outcome_other t (Ok next) p = λ h. cc
outcome_other t (Err e) p = λ h. p (let g : e ≡ NoMemory = cc in ap Err g)

pub no_memory_told : (language : Language) (t : ℕ) (text : List ℕ) (state : State) (o : Outcome) → o ≡ outcome_at t (executed_text language t text state) → o ≢ Err NoMemory
no_memory_told language t text state o is = λ h. outcome_other t (executed_text language t text state) (other_executed language t text state) (sym is ∙ h)

-- ---- what is kept

same_number : (n : ℕ) → (n == n) ≡ true
same_number n = elim (eqb_tells n n) [ inl h ↦ h.0 | inr h ↦ absurd (h.1 refl) ]

first_kept : (language : Language) (e : Entry) (before : List Entry) (r : Request) → e.request ≡ Some r → is_first r before ≡ true → slice_get (kept language r.client (e ∷ before)) 0 ≡ Some (first_outcome language e.stamp r before)
unfolding first_outcomes
first_kept language e before r is first = rw (is, same_number r.client, first) refl

first_told : (language : Language) (t : ℕ) (r : Request) (before : List Entry) → is_first r before ≡ true → outcome language t r before ≡ first_outcome language t r before
unfolding outcome
first_told language t r before first = rw first refl

pub kept_first : (language : Language) (e : Entry) (list : List Entry) (r : Request) (outcomes : List Outcome) (told : Outcome) → outcomes ≡ kept language r.client (reverse (list ++ e ∷ [])) → Some told ≡ option_map (λ r. outcome language e.stamp r (reverse list)) e.request → e.request ≡ Some r → is_first r (reverse list) ≡ true → slice_get outcomes 0 ≡ Some told
kept_first language e list r outcomes told keeps tells is first =
    let back : reverse (list ++ e ∷ []) ≡ e ∷ reverse list = reverse-append list (e ∷ []) in
    let a : slice_get outcomes 0 ≡ Some (first_outcome language e.stamp r (reverse list)) = rw (keeps, back) (first_kept language e (reverse list) r is first) in
    let b : Some told ≡ Some (outcome language e.stamp r (reverse list)) = rw is at tells in
    a ∙ sym (b ∙ ap Some (first_told language e.stamp r (reverse list) first))

-- ---- questions

pub unclosed : (q : Select) (closed : Option ℕ) (t at : ℕ) → closed ≡ Some t → (read_at t q).time.last ≤ t → closed ≡ Some at → at < (read_at at q).time.last → ⊥
unclosed q closed t at is low given later =
    let e : Some t ≡ Some at = sym is ∙ given in
    let same : t ≡ at = cc in
    let less : (read_at at q).time.last ≤ at = subst (λ u. (read_at u q).time.last ≤ u) same low in
    omega (arith, less, later)
