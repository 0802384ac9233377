-- Statements on lists of rows do what they do on days.
use Rattle.std.proofs.Common.{◌≡◌, ℕ, ◌<◌, ◌≤◌, inl, inr, Bool, true, false, cond, ◌==◌, List, [], ◌∷◌, length, Result, Ok, Err, refl, sym, ap, subst, nat_lt}
use Rattle.std.specs.List.{list_any}
use Rattle.std.proofs.lemmas.Bool.{eqb-true}
use Rattle.model.specs.declared.value.Value.{Value}
use Rattle.model.specs.Tables.{days, Period, Table, Row}
use Rattle.model.specs.Statements.{inserted, insert_overlaps, set_overflows, row_count}
use Rattle.rowlaws.specs.Rows.{Lists}
use Rattle.fault.specs.declared.refusal.Refusal.{Refusal}
use Rattle.fault.specs.declared.refusal.Refusal.TheVariants.{KeyOverlap, RowLimit, NumberRange}
use Rattle.model.specs.Transactions.{State, Action, Insert, Update, Delete, Statement, changed, and_then, within_limit, with_table, run_statement, run_statements}
use Rattle.rowlaws.specs.Changes.{IsFine, clashes, overflows, rows_changed, SameResult, Follows, ActionOnRows, ActionFollows, FollowsThen}
use Rattle.rowlaws.specs.Statements.{AreFine, rows_within_limit, Rows, with_rows, run_on_rows, run_all_on_rows, AllListed, AllFollow, StatementOnRows, StatementsOnRows}
use Rattle.rowlaws.proofs.Members.{has_cases}
use Rattle.rowlaws.proofs.Listed.{lists_inserted, count_is, row_listed}
use Rattle.rowlaws.proofs.Updated.{lists_updated, older_updated}
use Rattle.rowlaws.proofs.Deleted.{lists_deleted, older_deleted}
use Rattle.rowlaws.proofs.Tests.{same_overlaps, same_overflows}

-- ---- results that agree

pub agree_then : {A B C D : Type 0} (R : A → B → Type 0) (S : C → D → Type 0) (f : A → Result C Refusal) (g : B → Result D Refusal) (x : Result A Refusal) (y : Result B Refusal) → SameResult R x y → ((a : A) (b : B) → R a b → SameResult S (f a) (g b)) → SameResult S (and_then x f) (and_then y g)
agree_then R S f g (Ok a) (Ok b) h k = k a b h
agree_then R S f g (Ok a) (Err e) h k = absurd h
agree_then R S f g (Err e) (Ok b) h k = absurd h
agree_then R S f g (Err e) (Err d) h k = h

pub agree_if : {A B : Type 0} (R : A → B → Type 0) (b c : Bool) (e : Refusal) (x : A) (y : B) → b ≡ c → (c ≡ false → R x y) → SameResult R (cond b (Err e) (Ok x)) (cond c (Err e) (Ok y))
agree_if R true true e x y q r = refl
agree_if R true false e x y q r = absurd (cc)
agree_if R false true e x y q r = absurd (cc)
agree_if R false false e x y q r = r refl

pub agree_weaker : {A B : Type 0} (R S : A → B → Type 0) (x : Result A Refusal) (y : Result B Refusal) → ((a : A) (b : B) → R a b → S a b) → SameResult R x y → SameResult S x y
agree_weaker R S (Ok a) (Ok b) f h = f a b h
agree_weaker R S (Ok a) (Err e) f h = h
agree_weaker R S (Err e) (Ok b) f h = h
agree_weaker R S (Err e) (Err d) f h = h

-- ---- one table

-- the list has the rows of the new table, each an old one or born at t
abbrev pub Next : ℕ → Table → List Row → Table → Type 0
Next t old rows new = Lists rows new × Follows t old new

follows_inserted : (key values : List Value) (p : Period) (t : ℕ) (rows : List Row) (old : Table) → Lists rows old → p.start < p.end → p.end ≤ days → insert_overlaps key p old ≡ false → Follows t old (inserted key values p t old)
follows_inserted key values p t rows old l le short clear row h =
    let new : Row = record { key = key; period = p; values = values; system_start = t } in
    elim (has_cases rows (new ∷ []) row (row_listed _ _ row (lists_inserted key values p t rows old l le short clear) h)) [
      | inl a ↦ inl (l.each row a)
      | inr b ↦ elim b [ inl e ↦ inr (ap (λ r. r.system_start) e) | inr n ↦ absurd n ]
    ]

pub action_agrees : (c : Action) (t : ℕ) (rows : List Row) (old : Table) → IsFine c → Lists rows old → SameResult (Next t old) (rows_changed c t rows) (changed c t old)
unfolding rows_changed changed
action_agrees (Insert key values p) t rows old fine l =
    agree_if (Next t old) (list_any (clashes key p) rows) (insert_overlaps key p old) KeyOverlap _ _ (sym (same_overlaps rows old l p fine.0 key))
    (λ clear. (lists_inserted key values p t rows old l fine.0 fine.1 clear, follows_inserted key values p t rows old l fine.0 fine.1 clear))
action_agrees (Update passes p set) t rows old fine l =
    agree_if (Next t old) (list_any (overflows passes p set) rows) (set_overflows passes p set old) NumberRange _ _ (sym (same_overflows rows old l p fine passes set))
    (λ clear. (lists_updated passes p set t old fine rows l, older_updated passes p set t old fine rows l))
action_agrees (Delete passes p) t rows old fine l = (lists_deleted passes p t old fine rows l, older_deleted passes p t old fine rows l)

pub action_same : ActionOnRows
action_same c t rows old fine l = agree_weaker (Next t old) Lists (rows_changed c t rows) (changed c t old) (λ a b h. h.0) (action_agrees c t rows old fine l)

next_ok : (t : ℕ) (old new : Table) (x : Result (List Row) Refusal) (y : Result Table Refusal) → SameResult (Next t old) x y → y ≡ Ok new → Follows t old new
next_ok t old new (Ok a) (Ok b) h e = let q : b ≡ new = cc in subst (λ s. Follows t old s) q h.1
next_ok t old new (Ok a) (Err d) h e = absurd h
next_ok t old new (Err d) (Ok b) h e = absurd h
next_ok t old new (Err d) (Err f) h e = absurd (cc)

pub action_next : ActionFollows
action_next c t rows old new fine l e = next_ok t old new (rows_changed c t rows) (changed c t old) (action_agrees c t rows old fine l) e

pub follows_then : FollowsThen
follows_then t a b c f g row h = elim (g row h) [ inl o ↦ f row o | inr e ↦ inr e ]

limit_agrees : (t : ℕ) (old : Table) (rows : List Row) (new : Table) → Next t old rows new → SameResult (Next t old) (rows_within_limit rows) (within_limit new)
limit_agrees t old rows new h = agree_if (Next t old) (nat_lt 20000 (length rows)) (nat_lt 20000 (row_count new)) RowLimit rows new (ap (nat_lt 20000) (sym (count_is rows new h.0))) (λ q. h)

-- ---- all tables

abbrev pub NextAll : ℕ → State → Rows → State → Type 0
NextAll t old all new = AllListed all new × AllFollow t old new

with_agrees : (t n : ℕ) (all : Rows) (state : State) → AllListed all state → (rows : List Row) (table : Table) → Next t (state n) rows table → NextAll t state (with_rows n all rows) (with_table n state table)
with_agrees t n all state l rows table h = ((λ m. by m (m == n) refl), (λ m. older m (m == n) refl))
  where
    by : (m : ℕ) (b : Bool) → (m == n) ≡ b → Lists (cond b rows (all m)) (cond b table (state m))
    by m true e = h.0
    by m false e = l m

    older : (m : ℕ) (b : Bool) → (m == n) ≡ b → Follows t (state m) (cond b table (state m))
    older m true e = subst (λ k. Follows t (state k) table) (sym (eqb-true m n e)) h.1
    older m false e = λ row g. inl g

pub statement_agrees : (t : ℕ) (s : Statement) (all : Rows) (state : State) → IsFine s.action → AllListed all state → SameResult (NextAll t state) (run_on_rows t s all) (run_statement t s state)
statement_agrees t s all state fine l =
    agree_then (Next t (state s.table)) (NextAll t state) _ _ (and_then (rows_changed s.action t (all s.table)) rows_within_limit) (and_then (changed s.action t (state s.table)) within_limit)
    (agree_then (Next t (state s.table)) (Next t (state s.table)) rows_within_limit within_limit (rows_changed s.action t (all s.table)) (changed s.action t (state s.table)) (action_agrees s.action t (all s.table) (state s.table) fine (l s.table)) (limit_agrees t (state s.table)))
    (λ rows table h. with_agrees t s.table all state l rows table h)

pub follow_both : (t : ℕ) (a b c : State) → AllFollow t a b → AllFollow t b c → AllFollow t a c
follow_both t a b c f g n = follows_then t (a n) (b n) (c n) (f n) (g n)

pub statements_agree : (t : ℕ) (ss : List Statement) (all : Rows) (state : State) → AreFine ss → AllListed all state → SameResult (NextAll t state) (run_all_on_rows t ss all) (run_statements t ss state)
statements_agree t [] all state fine l = (l, λ n row h. inl h)
statements_agree t (s ∷ ss) all state fine l =
    agree_then (NextAll t state) (NextAll t state) (run_all_on_rows t ss) (run_statements t ss) (run_on_rows t s all) (run_statement t s state) (statement_agrees t s all state fine.0 l)
    (λ more next h. agree_weaker (NextAll t next) (NextAll t state) _ _ (λ a b g. (g.0, follow_both t state next b h.1 g.1)) (statements_agree t ss more next fine.1 h.0))

pub statements_same : StatementsOnRows
statements_same t ss all state fine l = agree_weaker (NextAll t state) AllListed (run_all_on_rows t ss all) (run_statements t ss state) (λ a b h. h.0) (statements_agree t ss all state fine l)

pub statement_same : StatementOnRows
statement_same t s all state fine l = agree_weaker (NextAll t state) AllListed (run_on_rows t s all) (run_statement t s state) (λ a b h. h.0) (statement_agrees t s all state fine l)
