-- Rows that form a log, and the log that they form.
use Rattle.std.proofs.Common.{drop-cons, add-one, ◌≡◌, ◌↔◌, ℕ, suc, ◌+◌, ◌<◌, ◌≤◌, Bool, true, false, ◌&&◌, nat_lt, nat_le, Option, Some, None, option_map, is_ok, Result, Ok, Err, List, [], ◌∷◌, ◌++◌, length, drop, get_or, arith, refl, sym, ap, subst, ◌∙◌}
use Rattle.std.specs.List.{list_all}
use Rattle.std.proofs.lemmas.Bool.Decides.{nat_tests}
use Rattle.std.proofs.lemmas.List.{append_assoc}
use Rattle.sqlite.specs.Order.{Row}
use Rattle.fault.specs.declared.refusal.Refusal.{Refusal}
use Rattle.model.specs.declared.entry.Entry.{Entry}
use Rattle.model.specs.Stamps.{above}
use Rattle.model.specs.Transactions.{Language, Statement, misreading}
use Rattle.model.specs.Members.{term_of}
use Rattle.model.specs.Steps.{go_on}
use Rattle.keep.specs.Log.{is_numbered, is_entry}
use Rattle.durable.specs.Contents.{item_of, items_of, entry_in}
use Rattle.durable.specs.Rows.{entry_values, shown_log}
use Rattle.durable.specs.Stored.{AreTexts}
use Rattle.durable.specs.Judging.{Follows, Go, Forms}
use Rattle.durable.proofs.Offering.{both, entry_numbered}
use Rattle.durable.proofs.Queries.{same_item}

-- a text that is not misread is read
pub spelled : (r : Result (List Statement) Refusal) (b : Bool) → ((b ≡ true) ↔ (misreading r ≡ None)) → b ≡ is_ok r
spelled (Ok x) true h = refl
spelled (Ok x) false h = h.1 refl
spelled (Err e) true h = absurd (let no = h.0 refl in cc)
spelled (Err e) false h = refl

-- one row shows one entry
pub same_entry : (i j : ℕ) (a b : Entry) → entry_values i (item_of a) ≡ entry_values j (item_of b) → is_numbered a.request ≡ true → is_numbered b.request ≡ true → a ≡ b
same_entry i j a b is p q = sym (entry_numbered a p) ∙ ap entry_in (same_item i j (item_of a) (item_of b) is) ∙ entry_numbered b q

le_true : (m n : ℕ) → m ≤ n → nat_le m n ≡ true
le_true m n h = grind (arith, nat_tests)

lt_true : (m n : ℕ) → m < n → nat_lt m n ≡ true
lt_true m n h = grind (arith, nat_tests)

le_from : (m n : ℕ) → nat_le m n ≡ true → m ≤ n
le_from m n h = grind (arith, nat_tests)

lt_from : (m n : ℕ) → nat_lt m n ≡ true → m < n
lt_from m n h = grind (arith, nat_tests)

-- ---- one step of the loop

dropped : (i : ℕ) (rows : List Row) (r : Row) → i < length rows → r ≡ get_or rows i r → drop i rows ≡ r ∷ drop (i + 1) rows
dropped i rows r low is = drop-cons rows i r low ∙ ap (λ x. x ∷ drop (suc i) rows) (sym is) ∙ ap (λ n. r ∷ drop n rows) (sym (add-one i))

-- the entries so far, and those that the other rows show
pub shown_next : (tables : Language) (top at term least i : ℕ) (rows : List Row) (r : Row) (e : Entry) (log es : List Entry) → i < length rows → r ≡ get_or rows i r → r ≡ entry_values at (item_of e) → Follows tables top term least e
    → ((rest : List Entry) → drop i rows ≡ shown_log at (items_of rest) → Go tables top term least rest → (rows ≡ shown_log 1 (items_of (log ++ rest))) × Go tables top 0 0 (log ++ rest))
    → drop (i + 1) rows ≡ shown_log (at + 1) (items_of es) → Go tables top e.term (e.stamp + 1) es → (rows ≡ shown_log 1 (items_of ((log ++ e ∷ []) ++ es))) × Go tables top 0 0 ((log ++ e ∷ []) ++ es)
shown_next tables top at term least i rows r e log es low is shown fits known later go =
    let here = dropped i rows r low is ∙ ap (λ x. x ∷ drop (i + 1) rows) shown ∙ ap (λ xs. entry_values at (item_of e) ∷ xs) later in
    subst (λ all. (rows ≡ shown_log 1 (items_of all)) × Go tables top 0 0 all) (sym (append_assoc log (e ∷ []) es)) (known (e ∷ es) here (fits, go))

pub forms_rest : (tables : Language) (top at term least i : ℕ) (rows : List Row) (r : Row) (e : Entry) → i < length rows → r ≡ get_or rows i r → r ≡ entry_values at (item_of e) → Follows tables top term least e
    → Forms tables top at term least (drop i rows) → Forms tables top (at + 1) e.term (e.stamp + 1) (drop (i + 1) rows)
forms_rest tables top at term least i rows r e low is shown fits all =
    let both_rows = subst (Forms tables top at term least) (dropped i rows r low is) all in
    let same : both_rows.0 ≡ e = same_entry at at both_rows.0 e (sym both_rows.1 ∙ shown) both_rows.2.in_range fits.in_range in
    subst (λ x. Forms tables top (at + 1) x.term (x.stamp + 1) (drop (i + 1) rows)) same both_rows.3

-- ---- the log that they form

pub forms_of : (tables : Language) (top at term least : ℕ) (rows : List Row) (es : List Entry) → rows ≡ shown_log at (items_of es) → Go tables top term least es → Forms tables top at term least rows
forms_of tables top at term least [] [] is go = tt
forms_of tables top at term least [] (e ∷ es) is go = absurd cc
forms_of tables top at term least (r ∷ rs) [] is go = absurd cc
forms_of tables top at term least (r ∷ rs) (e ∷ es) is go =
    let here : r ≡ entry_values at (item_of e) = cc in
    let later : rs ≡ shown_log (at + 1) (items_of es) = cc in
    (e, here, go.0, forms_of tables top (at + 1) e.term (e.stamp + 1) rs es later go.1)

all_true : (a b : Bool) → a ≡ true → b ≡ true → (a && b) ≡ true
all_true true b p q = q
all_true false b p q = p

pub goes : (tables : Language) (top : ℕ) (prev : Option Entry) (es : List Entry) → Go tables top (term_of prev) (above (option_map (λ d. d.stamp) prev)) es → go_on prev top es ≡ true
goes tables top prev [] go = refl
goes tables top prev (e ∷ es) go =
    let f = go.0 in
    all_true _ _ (all_true _ _ (all_true _ _ (all_true _ _ (lt_true _ _ f.first) (le_true _ _ f.falls_not)) (le_true _ _ f.below)) (le_true _ _ f.later)) (goes tables top (Some e) es go.1)

pub all_entries : (tables : Language) (top term least : ℕ) (es : List Entry) → Go tables top term least es → (list_all (is_entry tables) es ≡ true) × AreTexts es
all_entries tables top term least [] go = (refl, tt)
all_entries tables top term least (e ∷ es) go =
    let f = go.0 in
    let rest = all_entries tables top e.term (e.stamp + 1) es go.1 in
    (all_true _ _ (all_true _ _ (le_true _ _ f.instant) (all_true _ _ f.in_range f.reads)) rest.0, (f.text, rest.1))

pub go_from : (tables : Language) (top : ℕ) (prev : Option Entry) (es : List Entry) → go_on prev top es ≡ true → list_all (is_entry tables) es ≡ true → AreTexts es → Go tables top (term_of prev) (above (option_map (λ d. d.stamp) prev)) es
go_from tables top prev [] rises entries texts = tt
go_from tables top prev (e ∷ es) rises entries texts =
    let r = both _ _ rises in
    let r4 = both _ _ r.0 in
    let r3 = both _ _ r4.0 in
    let r2 = both _ _ r3.0 in
    let n = both _ _ entries in
    let m = both _ _ n.0 in
    let k = both _ _ m.1 in (
      record { first = lt_from _ _ r2.0; falls_not = le_from _ _ r2.1; below = le_from _ _ r3.1; later = le_from _ _ r4.1; instant = le_from _ _ m.0; in_range = k.0; reads = k.1; text = texts.0 },
      go_from tables top (Some e) es r.1 n.1 texts.1,
    )
