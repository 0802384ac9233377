-- The tables of a schema keep each of their columns.
use Rattle.std.proofs.Common.{◌≡◌, ℕ, zero, suc, ◌+◌, ◌<◌, Bool, true, false, List, [], ◌∷◌, ◌++◌, length, slice_get, eqb, cond, Option, Some, None, refl, sym, ap, subst, ◌∙◌, arith, inl, inr}
use Rattle.std.specs.Prelude.{◌⊎◌, ◌==◌, ◌||◌, not, position, option_map, if◌then◌else◌}
use Rattle.std.specs.List.{list_any, position_or_len}
use Rattle.std.proofs.lemmas.Bool.{eqb-true, ne_eqb, lt-ltb}
use borrow.Author.Tests.{eqb-false}
use Rattle.std.proofs.lemmas.List.{length-map}
use Rattle.std.proofs.lemmas.List.Folds.{list_any-append}
use Rattle.schema.specs.declared.syntax.CreateTable.{CreateTable}
use Rattle.schema.specs.Shape.{TableShape}
use Rattle.schema.specs.Tables.{numbers_below, is_one_of, entry_of, shape_of, tables_after, schema_of}
use Rattle.namesyntax.specs.Names.{Bytes}
use Rattle.std.specs.Option.{option_or}
use Rattle.sqlchecks.specs.declared.field.Field.{Field}
use Rattle.sqlchecks.specs.declared.field.Field.TheVariants as fields
use Rattle.sqlchecks.specs.Columns.{field_at}
use Rattle.rowtext.specs.Again.{KeepsColumns, AllKeepColumns}
use Rattle.rowtext.proofs.Steps.{decided, none_true}

module _ {A : Type 0} (p : A → Bool) where
  any_stands : (xs : List A) → list_any p xs ≡ true → position_or_len p xs < length xs
  any_stands [] e = absurd (let never : false ≡ true = e in cc)
  any_stands (x ∷ xs) e = by (p x) (any_stands xs) e where
    by : (b : Bool) → (list_any p xs ≡ true → position_or_len p xs < length xs) → (b || list_any p xs) ≡ true → cond (not b) (1 + position_or_len p xs) 0 < length (x ∷ xs)
    by true rest f = omega arith
    by false rest f = let lt = rest f in omega arith

  any_position : (xs : List A) → list_any p xs ≡ true → (i : ℕ) × (position p xs ≡ Some i)
  any_position xs e =
      (position_or_len p xs, ap (λ (b : Bool). cond b (Some (position_or_len p xs)) None) (lt-ltb (position_or_len p xs) (length xs) (any_stands xs e)))

  none_any : (xs : List A) → position p xs ≡ None → list_any p xs ≡ false
  none_any xs none = by (decided (list_any p xs)) where
    by : (list_any p xs ≡ true) ⊎ (list_any p xs ≡ false) → list_any p xs ≡ false
    by (inl h) = let found = (any_position xs h).1 in let never = sym found ∙ none in absurd cc
    by (inr h) = h

either_true : (a b : Bool) → (a ≡ true) ⊎ (b ≡ true) → (a || b) ≡ true
either_true true b h = refl
either_true false b (inl h) = absurd cc
either_true false b (inr h) = h

-- a number that passes is among those below another
below_any : (passes : ℕ → Bool) (n c : ℕ) → c < n → passes c ≡ true → is_one_of (numbers_below n passes) c ≡ true
below_any passes zero c lt e = absurd (omega arith)
below_any passes (suc n) c lt e = by (decided (eqb n c)) (below_any passes n c) where
  last : List ℕ
  last = if passes n then n ∷ [] else []

  by : (eqb n c ≡ true) ⊎ (eqb n c ≡ false) → (c < n → passes c ≡ true → is_one_of (numbers_below n passes) c ≡ true) → is_one_of (numbers_below n passes ++ (if passes n then n ∷ [] else [])) c ≡ true
  by (inl h) rest =
      let own : passes n ≡ true = ap passes (eqb-true n c h) ∙ e in
      let there : is_one_of (if passes n then n ∷ [] else []) c ≡ true = rw (own, h) refl in
      list_any-append (λ p. p == c) (numbers_below n passes) (if passes n then n ∷ [] else []) ∙ either_true (is_one_of (numbers_below n passes) c) (is_one_of (if passes n then n ∷ [] else []) c) (inr there)
  by (inr h) rest =
      let other = eqb-false n c h in
      list_any-append (λ p. p == c) (numbers_below n passes) (if passes n then n ∷ [] else []) ∙ either_true (is_one_of (numbers_below n passes) c) (is_one_of (if passes n then n ∷ [] else []) c) (inl (rest (omega (arith, other)) e))

turned : (a b : ℕ) → (a == b) ≡ false → (b == a) ≡ false
turned a b e = ne_eqb b a (λ same. eqb-false a b e (sym same))

-- a column in the key, or else among the values
kept_field : (key values : List ℕ) (c : ℕ) (k : Option ℕ) → position (λ d. d == c) key ≡ k → (list_any (λ d. d == c) key ≡ false → list_any (λ d. d == c) values ≡ true)
    → (f : Field) × (option_or (option_map fields.Key k) (option_map fields.Value (position (λ d. d == c) values)) ≡ Some f)
kept_field key values c (Some i) at rest = (fields.Key i, refl)
kept_field key values c None at rest =
    let found = any_position (λ d. d == c) values (rest (none_any (λ d. d == c) key at)) in
    (fields.Value found.0, ap (option_map fields.Value) found.1)

-- no end of a period, and not in the key: among the values
unkept : (a b c d : Bool) (key : Bool) → a ≡ false → b ≡ false → c ≡ false → d ≡ false → key ≡ false → not ((a || (b || (c || (d || false)))) || key) ≡ true
unkept a b c d key e f g h k = rw (e, f, g, h, k) refl

shape_keeps : (earlier : List (List ℕ)) (t : CreateTable) → KeepsColumns (shape_of earlier t)
unfolding shape_of field_at
shape_keeps earlier t c lt system start end =
    let shape = shape_of earlier t in
    let within : c < length t.columns.items = rw (length-map t.columns.items entry_of) at lt in
    let parts = none_true (c == shape.system_start) (c == shape.system_end) system in
    kept_field shape.key shape.values c (position (λ d. d == c) shape.key) refl
    (λ none. below_any (λ d. not (is_one_of (shape.start ∷ shape.end ∷ shape.system_start ∷ shape.system_end ∷ []) d || is_one_of shape.key d)) (length t.columns.items) c within
    (unkept (shape.start == c) (shape.end == c) (shape.system_start == c) (shape.system_end == c) (is_one_of shape.key c) (turned c shape.start start) (turned c shape.end end) (turned c shape.system_start parts.0) (turned c shape.system_end parts.1) none))

tables_keep : (earlier : List (List ℕ)) (written : List CreateTable) (place : ℕ) (entry : Bytes × TableShape) → slice_get (tables_after earlier written) place ≡ Some entry → KeepsColumns entry.1
tables_keep earlier [] place entry at = absurd cc
tables_keep earlier (t ∷ written) zero entry at =
    let same : (t.name, shape_of earlier t) ≡ entry = cc in
    subst (λ (e : Bytes × TableShape). KeepsColumns e.1) same (shape_keeps earlier t)
tables_keep earlier (t ∷ written) (suc place) entry at = tables_keep (earlier ++ t.name ∷ []) written place entry at

pub schema_keeps : (written : List CreateTable) → AllKeepColumns (schema_of written)
schema_keeps written = tables_keep [] written
