-- Rows that pass a WHERE have the key that it names, and it names one key of so many columns.
use Rattle.std.proofs.Common.{◌≡◌, ℕ, zero, suc, ◌<◌, ◌≤◌, ◌==◌, Bool, true, false, cond, List, [], ◌∷◌, length, Option, Some, None, refl, sym, ap, ◌∙◌, arith}
use Rattle.std.specs.Prelude.{slice_get}
use Rattle.std.specs.List.{list_all}
use Rattle.std.proofs.lemmas.Bool.{and_parts, eqb-true}
use Rattle.model.specs.declared.value.Value.{Value}
use Rattle.model.specs.Tables.{Row}
use Rattle.sqlsyntax.specs.declared.forms.Operator.{Operator}
use Rattle.sqlsyntax.specs.declared.forms.Operator.TheVariants as operator
use Rattle.sqlchecks.specs.declared.comparison.Comparison.{Comparison}
use Rattle.sqlchecks.specs.declared.field.Field.{Field}
use Rattle.sqlchecks.specs.declared.field.Field.TheVariants as field
use Rattle.sqlchecks.specs.Comparisons.{compares, passes_all}
use Rattle.std.specs.Option.{option_or}
use Rattle.current.specs.Named.{equal_at, said_at, IsNamed}
use Rattle.current.proofs.Naming.{said}

-- ---- places of lists

some_at : (xs : List Value) (i : ℕ) → i < length xs → (x : Value) × (slice_get xs i ≡ Some x)
some_at [] i l = absurd (omega arith)
some_at (x ∷ xs) zero l = (x, refl)
some_at (x ∷ xs) (suc i) l = some_at xs i (omega arith)

not_some : (x : Value) → None ≡ Some x → ⊥
not_some x e = cc

one : (x y : Value) → Some x ≡ Some y → x ≡ y
one x y e = cc

same_places : (xs ys : List Value) → length xs ≤ length ys → ((i : ℕ) → i < length ys → slice_get xs i ≡ slice_get ys i) → xs ≡ ys
same_places [] [] le h = refl
same_places [] (y ∷ ys) le h = absurd (not_some y (h 0 (omega arith)))
same_places (x ∷ xs) [] le h = absurd (omega (arith, le))
same_places (x ∷ xs) (y ∷ ys) le h =
    let head : x ≡ y = one x y (h 0 (omega arith)) in
    let rest = same_places xs ys (omega (arith, le)) (λ i l. h (suc i) (omega (arith, l))) in
    λ i. head i ∷ rest i

-- ---- what conditions say

equal_says : (place : ℕ) (o : Operator) (f : Field) (v w : Value) → equal_at place o f v ≡ Some w → (o ≡ operator.Equal) × (f ≡ field.Key place) × (v ≡ w)
equal_says place operator.Equal (field.Key column) v w h = by (column == place) refl h
  where
    by : (b : Bool) → (column == place) ≡ b → cond b (Some v) None ≡ Some w → (operator.Equal ≡ operator.Equal) × (field.Key column ≡ field.Key place) × (v ≡ w)
    by true e g = (refl, ap field.Key (eqb-true column place e), one v w g)
    by false e g = absurd (not_some w g)
equal_says place operator.Equal (field.Value column) v w h = absurd (not_some w h)
equal_says place operator.NotEqual (field.Key column) v w h = absurd (not_some w h)
equal_says place operator.NotEqual (field.Value column) v w h = absurd (not_some w h)
equal_says place operator.Less (field.Key column) v w h = absurd (not_some w h)
equal_says place operator.Less (field.Value column) v w h = absurd (not_some w h)
equal_says place operator.LessEqual (field.Key column) v w h = absurd (not_some w h)
equal_says place operator.LessEqual (field.Value column) v w h = absurd (not_some w h)
equal_says place operator.Greater (field.Key column) v w h = absurd (not_some w h)
equal_says place operator.Greater (field.Value column) v w h = absurd (not_some w h)
equal_says place operator.GreaterEqual (field.Key column) v w h = absurd (not_some w h)
equal_says place operator.GreaterEqual (field.Value column) v w h = absurd (not_some w h)

where_says : (place : ℕ) (cs : List Comparison) (w : Value) → said_at place cs ≡ Some w → (row : Row) → list_all (λ c. compares c row.key row.values) cs ≡ true → slice_get row.key place ≡ Some w
where_says place [] w h row passes = absurd (not_some w h)
where_says place (c ∷ cs) w h row passes = by (equal_at place c.operator c.field c.value) refl h (λ g. where_says place cs w g row parts.1)
  where
    parts : (compares c row.key row.values ≡ true) × (list_all (λ s. compares s row.key row.values) cs ≡ true)
    parts = and_parts (compares c row.key row.values) (list_all (λ s. compares s row.key row.values) cs) passes

    by : (o : Option Value) → equal_at place c.operator c.field c.value ≡ o → option_or o (said_at place cs) ≡ Some w → (said_at place cs ≡ Some w → slice_get row.key place ≡ Some w) → slice_get row.key place ≡ Some w
    by None e g more = more g
    by (Some v) e g more = let says = equal_says place c.operator c.field c.value w (e ∙ g) in said c place says.0 says.1 row parts.0 ∙ ap Some says.2

-- a row that passes has the key that is named
pub named_only : (cs : List Comparison) (key : List Value) (columns : ℕ) → length key ≡ columns → IsNamed cs key → (row : Row) → passes_all cs row ≡ true → length row.key ≤ columns → row.key ≡ key
unfolding passes_all
named_only cs key columns long named row passes le =
    same_places row.key key (omega (arith, long, le)) (λ i l. let s = some_at key i l in where_says i cs s.0 (named i l ∙ s.1) row passes ∙ sym s.1)

-- keys of as many columns that are named are one
pub one_named : (cs : List Comparison) (key other : List Value) → length key ≡ length other → IsNamed cs key → IsNamed cs other → key ≡ other
one_named cs key other long named is = same_places key other (omega (arith, long)) (λ i l. sym (named i (omega (arith, l, long))) ∙ is i l)

-- none is named that has a place of which nothing is said
pub none_named : (cs : List Comparison) (key : List Value) (place : ℕ) → place < length key → said_at place cs ≡ None → IsNamed cs key → ⊥
none_named cs key place l none named = let s = some_at key place l in not_some s.0 (sym none ∙ named place l ∙ s.1)
