-- All tables as they were before a statement.
use Rattle.std.proofs.Common.{◌≡◌, ℕ, zero, suc, ◌<◌, ◌≤◌, List, [], ◌∷◌, ◌++◌, length, get_or, ◌+◌, ◌==◌, eq-eqb, refl, sym, ap, ◌∙◌, subst, inl, inr, arith}
use Rattle.std.proofs.lemmas.Bool.{cases_lt, cases_Bool, eqb-true}
use Rattle.model.specs.Tables.{Row}
use Rattle.rowlaws.specs.Rows.{Apart, Lists, SameRows}
use Rattle.rowlaws.specs.Touching.{rows_without, Undo}
use Rattle.rowlaws.specs.Statements.{Rows}
use Rattle.current.specs.declared.table.TableRows.{TableRows}
use Rattle.current.specs.declared.strand.Changes.{Changes}
use Rattle.current.specs.Places.{rows_at}
use Rattle.current.specs.Table.{rows_of_table, HaveSame}
use Rattle.current.specs.Touched.{removed_of, added_of}
use Rattle.current.specs.Run.{IsUndone}
use Rattle.std.proofs.Math.ListN.{set}
use Rattle.rowlaws.proofs.RowFacts.{both}
use Rattle.current.proofs.Tabled.{rows_at-is, rows_at-set}
use Rattle.current.proofs.Joined.{rows_at-beyond}
use Rattle.current.proofs.Statements.{table_apart}

all_apart : (tables : List TableRows) (n : ℕ) → Apart (rows_at rows_of_table tables n)
all_apart [] n = tt
all_apart (t ∷ ts) zero = table_apart t
all_apart (t ∷ ts) (suc n) = all_apart ts n

nothing : (rows added : List Row) → rows ≡ [] → rows_without rows added ≡ []
unfolding rows_without
nothing rows added h = rw h refl

pub tables_undone : Undo → SameRows → (tables more : List TableRows) (changes : List Changes) → length more ≡ length tables → length changes ≤ length tables
    → ((n : ℕ) → n < length tables → HaveSame (rows_without (rows_at rows_of_table tables n) (rows_at added_of changes n) ++ rows_at removed_of changes n) (rows_at rows_of_table more n))
    → IsUndone (rows_at rows_of_table tables) (rows_at rows_of_table more) (rows_at removed_of changes) (rows_at added_of changes)
tables_undone undo same_rows tables more changes long few each state next before listed after touched n =
    let back = undo (before n) (rows_at rows_of_table tables n) (state n) (next n) (rows_at removed_of changes n) (rows_at added_of changes n) (listed n) (after n) (touched n) in
    elim (cases_lt n (length tables)) [
      | inl l ↦ same_rows _ (rows_at rows_of_table more n) (state n) back (all_apart more n) (each n l)
      | inr g ↦
          let none : rows_at rows_of_table tables n ≡ [] = rows_at-beyond rows_of_table tables n g in
          let none' : rows_at rows_of_table more n ≡ [] = rows_at-beyond rows_of_table more n (omega arith) in
          let removed : rows_at removed_of changes n ≡ [] = rows_at-beyond removed_of changes n (omega arith) in
          let all : rows_without (rows_at rows_of_table tables n) (rows_at added_of changes n) ++ rows_at removed_of changes n ≡ rows_at rows_of_table more n = ap (λ rs. rs ++ rows_at removed_of changes n) (nothing _ (rows_at added_of changes n) none) ∙ removed ∙ sym none' in
          subst (λ rs. Lists rs (state n)) all back
    ]

-- ---- one table after another

pub table_before : (tables : List TableRows) (n : ℕ) (x : TableRows) → n < length tables → x ≡ get_or tables n x → rows_of_table x ≡ rows_at rows_of_table tables n
table_before tables n x l at = ap rows_of_table at ∙ sym (rows_at-is rows_of_table tables n x l)

module _ (old tables : List TableRows) (n : ℕ) (y : TableRows) (removed added : Rows) (l : n < length tables) where
  abbrev new : List TableRows
  new = set tables n y

  abbrev Done : ℕ → List Row → Type 0
  Done m rows = HaveSame (rows_without (rows_at rows_of_table old m) (added m) ++ removed m) rows

  pub done_more : ((m : ℕ) → m < n → Done m (rows_at rows_of_table tables m)) → Done n (rows_of_table y) → (m : ℕ) → m < n + 1 → Done m (rows_at rows_of_table new m)
  done_more h here m k = subst (λ rows. Done m rows) (sym (rows_at-set rows_of_table tables n y m l)) (elim (cases_Bool (m == n)) [
    | inl same ↦ rw same (subst (λ j. Done j (rows_of_table y)) (sym (eqb-true m n same)) here)
    | inr other ↦ rw other (h m (elim (cases_lt m n) [ inl b ↦ b | inr g ↦ let e : m ≡ n = omega arith in absurd (both (eq-eqb m n e) other) ]))
  ])

  pub left_more : ((m : ℕ) → n ≤ m → rows_at rows_of_table tables m ≡ rows_at rows_of_table old m) → (m : ℕ) → n + 1 ≤ m → rows_at rows_of_table new m ≡ rows_at rows_of_table old m
  left_more h m k = rows_at-set rows_of_table tables n y m l ∙ elim (cases_Bool (m == n)) [
    | inl same ↦ let e = eqb-true m n same in absurd (omega (arith, e, k))
    | inr other ↦ rw other (h m (omega arith))
  ]
