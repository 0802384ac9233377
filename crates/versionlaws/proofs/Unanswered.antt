-- A question without an answer.
use Rattle.std.proofs.Common.{◌≡◌, ℕ, zero, suc, ◌+◌, ◌-◌, ◌<◌, ◌≤◌, inl, inr, Bool, true, false, List, [], ◌∷◌, length, Some, None, Ok, refl, sym, ap, ◌∙◌, subst, arith}
use Rattle.std.specs.Prelude.{nat_lt, filter, map, find, flat_map, ◌++◌}
use Rattle.std.specs.List.{AllByRecursion, range_with_len}
use Rattle.std.specs.List.Sorted.{IsStrictlySortedBy}
use Rattle.std.specs.declared.cmp.Ordering.TheVariants.{Less, Equal}
use Rattle.std.proofs.lemmas.Bool.{cases_lt, cases_Bool, le-ltb, le-leb}
use Rattle.std.proofs.lemmas.List.{length-map, length-append}
use Rattle.model.specs.declared.entry.Entry.{Entry}
use Rattle.model.specs.declared.value.Value.{Value}
use Rattle.model.specs.Values.{key_cmp, same_key}
use Rattle.model.specs.Lists.{nth}
use Rattle.model.specs.Tables.{days, Period, Table, Row, IsRow, joined, begins, empty_table}
use Rattle.model.specs.Statements.{insert_overlaps, inserted, row_count}
use Rattle.model.specs.Transactions.{State, Place, changed, with_table, transacted, executed_text, first_orphan, is_orphan, places}
use Rattle.model.specs.Logs.{IsStamped, state_at, state_after, executed}
use Rattle.model.specs.Answers.{Answer, IsAnswer, row_cmp, read_at}
use Rattle.rowlaws.specs.Rows.{Has}
use Rattle.rowlaws.proofs.Contents.{contains_has}
use Rattle.versionlaws.specs.Unanswered.{key, period_said, language, said, log, question, NoAnswer}

-- ---- the tables

abbrev whole : Period
whole = record { start = 0; end = 2 }

abbrev none : Period
none = record { start = 1; end = 1 }

abbrev first : Table
first = inserted key [] whole 1 empty_table

abbrev second : Table
second = inserted key [] none 2 first

-- ---- few rows

few : (f : ℕ → Bool) (m : ℕ) → ((d : ℕ) → m ≤ d → f d ≡ false) → (a n : ℕ) → length (filter f (range_with_len a n)) ≤ m - a
few f m stop a zero = omega arith
few f m stop a (suc n) = let rest = few f m stop (a + 1) n in elim (cases_lt a m) [
  | inl l ↦ elim (cases_Bool (f a)) [ inl hit ↦ rw hit (omega arith) | inr miss ↦ rw miss (omega arith) ]
  | inr g ↦ rw (stop a g) (omega arith)
]

abbrev of_key : Table → List Value → List (List Value × ℕ)
of_key table k = map (λ d. (k, d)) (filter (begins table k) (range_with_len 0 days))

few_rows : (table : Table) → table.keys ≡ key ∷ [] → ((d : ℕ) → 2 ≤ d → begins table key d ≡ false) → nat_lt 20000 (row_count table) ≡ false
unfolding row_count
few_rows table keys stop =
    let found : List ℕ = filter (begins table key) (range_with_len 0 days) in
    let pairs : List (List Value × ℕ) = map (λ d. (key, d)) found in
    let is : row_count table ≡ length (pairs ++ []) = ap (λ ks. length (flat_map (of_key table) ks)) keys in
    let joined : length (pairs ++ []) ≡ length pairs + 0 = length-append pairs [] in
    let mapped : length pairs ≡ length found = length-map found (λ d. (key, d)) in
    let less : length found ≤ 2 - 0 = few (begins table key) 2 stop 0 days in
    le-ltb 20000 (row_count table) (omega arith)

empty_day : (table : Table) (d : ℕ) → table.fact key d ≡ None → begins table key d ≡ false
empty_day table d e = rw e refl

first_fact : (d : ℕ) → 2 ≤ d → first.fact key d ≡ None
unfolding inserted same_key key_cmp empty_table
first_fact d h = rw (le-ltb d 2 h, le-leb 0 d (omega arith)) refl

second_fact : (d : ℕ) → 2 ≤ d → second.fact key d ≡ None
unfolding inserted same_key key_cmp empty_table
second_fact d h = rw (le-ltb d 1 (omega arith), le-leb 1 d (omega arith)) (first_fact d h)

-- ---- the states

no_one : (f : Place → Bool) (xs : List Place) → ((x : Place) → f x ≡ false) → find f xs ≡ None
no_one f [] h = refl
no_one f (x ∷ xs) h = rw (h x) (no_one f xs h)

no_orphan : (state : State) → first_orphan language state ≡ None
unfolding first_orphan
no_orphan state = no_one (is_orphan language state) (places language state) (λ x. refl)

ran : (t : ℕ) (text : List ℕ) (state : State) → insert_overlaps key (period_said text) (state 0) ≡ false → nat_lt 20000 (row_count (inserted key [] (period_said text) t (state 0))) ≡ false →
    executed_text language t text state ≡ Ok (with_table 0 state (inserted key [] (period_said text) t (state 0)))
unfolding executed_text transacted changed
ran t text state o few = rw (o, few, no_orphan (with_table 0 state (inserted key [] (period_said text) t (state 0)))) refl

abbrev state1 : State
state1 = with_table 0 (λ n. empty_table) first

keys_of : first.keys ≡ key ∷ []
unfolding inserted empty_table
keys_of = refl

second_keys : second.keys ≡ key ∷ []
unfolding inserted key_cmp empty_table
second_keys = refl

free : insert_overlaps key whole empty_table ≡ false
unfolding insert_overlaps empty_table
free = refl

free_again : insert_overlaps key none first ≡ false
unfolding insert_overlaps
free_again = refl

after_first : state_after language (said 1 (84 ∷ []) ∷ []) ≡ state1
unfolding state_after executed
after_first = rw (ran 1 (84 ∷ []) (λ n. empty_table) free (few_rows first keys_of (λ d h. empty_day first d (first_fact d h)))) refl

after_second : state_after language (said 2 [] ∷ said 1 (84 ∷ []) ∷ []) ≡ with_table 0 state1 second
unfolding state_after executed
after_second =
    rw (ran 1 (84 ∷ []) (λ n. empty_table) free (few_rows first keys_of (λ d h. empty_day first d (first_fact d h)))) (
    rw (ran 2 [] state1 free_again (few_rows second second_keys (λ d h. empty_day second d (second_fact d h)))) refl)

-- ---- the rows

abbrev row : ℕ → Row
row end = record { key = key; period = record { start = 0; end = end }; values = []; system_start = 1 }

first_row : IsRow first (row 2)
unfolding inserted same_key key_cmp empty_table
first_row = record { some = omega arith; filled = filled; whole = goes; first = refl; last = refl }
  where
    filled : (d : ℕ) → 0 ≤ d → d < 2 → first.fact key d ≡ Some (record { values = []; system_start = 1 })
    filled zero a b = refl
    filled (suc zero) a b = refl
    filled (suc (suc d)) a b = absurd (omega arith)

    goes : (d : ℕ) → 0 < d → d < 2 → joined first key d ≡ true
    goes zero a b = absurd (omega arith)
    goes (suc zero) a b = refl
    goes (suc (suc d)) a b = absurd (omega arith)

second_row : IsRow second (row 1)
unfolding inserted same_key key_cmp empty_table
second_row = record { some = omega arith; filled = filled; whole = λ d a b. absurd (omega arith); first = refl; last = refl }
  where
    filled : (d : ℕ) → 0 ≤ d → d < 1 → second.fact key d ≡ Some (record { values = []; system_start = 1 })
    filled zero a b = refl
    filled (suc d) a b = absurd (omega arith)

-- ---- no order

of_all : {A : Type 0} (P : A → Type 0) (xs : List A) → AllByRecursion P xs → (x : A) → Has xs x → P x
of_all P [] a x h = absurd h
of_all P (y ∷ xs) a x (inl e) = subst P (sym e) a.0
of_all P (y ∷ xs) a x (inr h) = of_all P xs a.1 x h

two : (xs : List Row) → IsStrictlySortedBy row_cmp xs → (a b : Row) → Has xs a → Has xs b → (row_cmp a b ≡ Less → ⊥) → (row_cmp b a ≡ Less → ⊥) → a ≡ b
unfolding IsStrictlySortedBy
two [] s a b h g n m = absurd h
two (x ∷ xs) s a b (inl e) (inl f) n m = e ∙ sym f
two (x ∷ xs) s a b (inl e) (inr g) n m = absurd (n (subst (λ y. row_cmp y b ≡ Less) (sym e) (of_all (λ y. row_cmp x y ≡ Less) xs s.0 b g)))
two (x ∷ xs) s a b (inr h) (inl f) n m = absurd (m (subst (λ y. row_cmp y a ≡ Less) (sym f) (of_all (λ y. row_cmp x y ≡ Less) xs s.0 a h)))
two (x ∷ xs) s a b (inr h) (inr g) n m = two xs s.1 a b h g n m

tied : (row_cmp (row 2) (row 1) ≡ Less → ⊥) × (row_cmp (row 1) (row 2) ≡ Less → ⊥)
unfolding key_cmp
tied = (λ (h : Equal ≡ Less). absurd cc, λ (h : Equal ≡ Less). absurd cc)

-- ---- the log

at_index : (i : ℕ) (e : Entry) → nth log i ≡ Some e → (e.stamp ≡ i) × (i ≤ 2)
at_index zero e h = absurd cc
at_index (suc zero) e h = let s : said 1 (84 ∷ []) ≡ e = cc in (sym (ap (λ x. x.stamp) s), omega arith)
at_index (suc (suc zero)) e h = let s : said 2 [] ≡ e = cc in (sym (ap (λ x. x.stamp) s), omega arith)
at_index (suc (suc (suc i))) e h = absurd cc

stamped : IsStamped log
stamped = record {
  instants = λ i e h. let a = at_index i e h in let x = a.0 in let y = a.1 in omega arith;
  rising = λ i j d e less h g. let x = (at_index i d h).0 in let y = (at_index j e g).0 in omega arith;
}

first_at : state_at language log 1 ≡ state_after language (said 1 (84 ∷ []) ∷ [])
unfolding state_at
first_at = refl

second_at : state_at language log 2 ≡ state_after language (said 2 [] ∷ said 1 (84 ∷ []) ∷ [])
unfolding state_at
second_at = refl

pub unanswered : NoAnswer
unanswered = (stamped, (2, refl, omega arith), none_is)
  where
    at_first : IsRow (state_at language log 1 0) (row 2)
    at_first = subst (λ (s : State). IsRow (s 0) (row 2)) (sym (first_at ∙ after_first)) first_row

    at_second : IsRow (state_at language log 2 0) (row 1)
    at_second = subst (λ (s : State). IsRow (s 0) (row 1)) (sym (second_at ∙ after_second)) second_row

    none_is : (a : Answer) → IsAnswer language (read_at 2 question) log a → ⊥
    none_is a is =
        let rows : List Row = map (λ s. s.row) a.rows in
        let long : Has rows (row 2) = contains_has rows (row 2) ((is.rows (row 2)).1 (refl, (1, (omega arith, omega arith), at_first))) in
        let short : Has rows (row 1) = contains_has rows (row 1) ((is.rows (row 1)).1 (refl, (2, (omega arith, omega arith), at_second))) in
        let same : row 2 ≡ row 1 = two rows is.order (row 2) (row 1) long short tied.0 tied.1 in
        let ends : (row 2).period.end ≡ (row 1).period.end = ap (λ (r : Row). r.period.end) same in
        absurd (omega (arith, ends))
