-- Names that are the same but for their case: one is a name where the other is, and both find the same table and column.
use Rattle.std.proofs.Common.{◌≡◌, ℕ, suc, ◌+◌, ◌<◌, ◌≤◌, Bool, true, false, List, [], ◌∷◌, length, map, slice_get, cond, Option, Some, None, refl, sym, ap, ◌∙◌, arith}
use Rattle.std.specs.Prelude.{position, option_and_then, ◌&&◌, nat_le, not}
use Rattle.std.specs.Char.{is_ascii_alphabetic, to_ascii_lowercase}
use Rattle.std.specs.Str.{str_eq_ignore_ascii_case, bytes_eq}
use Rattle.std.specs.List.{list_all, position_or_len}
use Rattle.std.proofs.lemmas.Bool.{ltb-true, leb-true, le-leb}
use Rattle.std.proofs.lemmas.Bool.Decides.{nat_tests}
use Rattle.std.proofs.lemmas.List.{length-map}
use Rattle.std.proofs.lemmas.Option.{cond_some}
use Rattle.std.proofs.lemmas.Slice.Eq.{bytes_eq-Decides}
use Rattle.fault.specs.declared.refusal.Refusal.TheVariants.{UnknownTable, UnknownColumn}
use Rattle.sqltokens.specs.declared.token.TheConstants.{KEYWORDS}
use Rattle.schema.specs.Name.{same_name}
use Rattle.schema.specs.Shape.{TableShape}
use Rattle.sqltokens.specs.declared.token.Keyword.{Keyword}
use Rattle.sqltokens.specs.What.{Name}
use Rattle.sqltokens.specs.Lexing.{is_word_byte, keyword_in, keyword_of, word_or_name, token_of}
use Rattle.namesyntax.specs.Names.{Bytes}
use Rattle.namesyntax.specs.Words.{begins_with_letter, is_name_text}
use Rattle.sqlchecks.specs.Columns.{Tables, table_named, column_named, column_at}
use Rattle.sqlchecks.specs.Answering.{or_refuse}
use Rattle.rowtext.specs.Again.{IsWritten}
use Rattle.rowtext.proofs.Steps.{both_true}
use Rattle.rowtext.proofs.Lexing.{word_parts}

abbrev pub lower : Bytes → Bytes
lower n = map to_ascii_lowercase n

-- ---- letters

letter_lower : (b : ℕ) → is_ascii_alphabetic (to_ascii_lowercase b) ≡ is_ascii_alphabetic b
letter_lower b = grind (arith, nat_tests)

byte_lower : (b : ℕ) → is_word_byte (to_ascii_lowercase b) ≡ is_word_byte b
byte_lower b = grind (arith, nat_tests)

bytes_lower : (n : Bytes) → list_all is_word_byte (lower n) ≡ list_all is_word_byte n
bytes_lower [] = refl
bytes_lower (b ∷ n) = rw (byte_lower b, bytes_lower n) refl

begins_lower : (n : Bytes) → begins_with_letter (lower n) ≡ begins_with_letter n
begins_lower [] = refl
begins_lower (b ∷ n) = letter_lower b

name_lower : (n : Bytes) → is_name_text (lower n) ≡ is_name_text n
name_lower n = rw (begins_lower n, bytes_lower n, length-map n to_ascii_lowercase) refl

-- ---- names

pub same_lower : (n m : Bytes) → same_name n m ≡ true → lower n ≡ lower m
same_lower n m e = (bytes_eq-Decides (lower n) (lower m)).0 e

pub same_self : (n : Bytes) → same_name n n ≡ true
same_self n = (bytes_eq-Decides (lower n) (lower n)).1 refl

module _ (n m : Bytes) (same : lower n ≡ lower m) where
  pub names_again : is_name_text n ≡ true → is_name_text m ≡ true
  names_again e = sym (name_lower m) ∙ ap is_name_text (sym same) ∙ name_lower n ∙ e

  keyword_same : (ks : List (Bytes × Keyword)) → keyword_in ks n ≡ keyword_in ks m
  keyword_same [] = refl
  keyword_same (k ∷ ks) =
      ap (λ (l : Bytes). cond (bytes_eq (lower k.0) l) (Some k.1) (keyword_in ks n)) same
      ∙ ap (λ (o : Option Keyword). cond (str_eq_ignore_ascii_case k.0 m) (Some k.1) o) (keyword_same ks)

  keyword_of_same : keyword_of n ≡ keyword_of m
  unfolding keyword_of
  keyword_of_same = keyword_same (map (λ k. (k.0.now, k.1)) KEYWORDS)

  pub finds_same : same_name n ≡ same_name m
  finds_same = ap (λ (l : Bytes). λ (x : Bytes). bytes_eq l (lower x)) same

  pub column_same : (table : TableShape) → column_named table n ≡ column_named table m
  unfolding column_named
  column_same table =
      ap (λ (p : Bytes → Bool). or_refuse UnknownColumn (option_and_then (column_at table) (position p (map (λ c. c.0) table.columns)))) finds_same

  pub table_same : (tables : Tables) → table_named tables n ≡ table_named tables m
  unfolding table_named
  table_same tables = ap (λ (p : Bytes → Bool). or_refuse UnknownTable (position p (map (λ t. t.0) tables))) finds_same

no_keyword : (n : Bytes) (o : Option Keyword) → keyword_of n ≡ o → word_or_name o n ≡ Name n → keyword_of n ≡ None
no_keyword n None found is = found
no_keyword n (Some k) found is = absurd cc

name_is : (b : ℕ) (bs : Bytes) → is_name_text (b ∷ bs) ≡ true → IsWritten (Name (b ∷ bs)) → keyword_of (b ∷ bs) ≡ None
name_is b bs name written =
    let letter = (both_true (is_ascii_alphabetic b) (list_all is_word_byte (b ∷ bs)) (both_true (is_ascii_alphabetic b && list_all is_word_byte (b ∷ bs)) (nat_le (length (b ∷ bs)) 32) name).0).0 in
    no_keyword (b ∷ bs) (keyword_of (b ∷ bs)) refl (word_parts b bs (Name (b ∷ bs)) letter written).2

name_found : (b : ℕ) (bs : Bytes) → is_name_text (b ∷ bs) ≡ true → keyword_of (b ∷ bs) ≡ None → IsWritten (Name (b ∷ bs))
unfolding token_of
name_found b bs name none =
    let parts = both_true (is_ascii_alphabetic b && list_all is_word_byte (b ∷ bs)) (nat_le (length (b ∷ bs)) 32) name in
    let bytes = both_true (is_ascii_alphabetic b) (list_all is_word_byte (b ∷ bs)) parts.0 in
    let others = both_true (is_word_byte b) (list_all is_word_byte bs) bytes.1 in
    let short : length (b ∷ bs) ≤ 32 = leb-true (length (b ∷ bs)) 32 parts.1 in
    let few : nat_le (length bs) 31 ≡ true = le-leb (length bs) 31 (omega arith) in
    rw (bytes.0, others.1, few, none) refl

-- a name is written where one that differs by case alone is
pub name_again : (n m : Bytes) → same_name n m ≡ true → is_name_text n ≡ true → IsWritten (Name n) → (is_name_text m ≡ true) × IsWritten (Name m)
name_again [] m same name written = absurd cc
name_again (b ∷ bs) [] same name written = let never = ap (λ (l : Bytes). length l) (same_lower (b ∷ bs) [] same) in absurd (omega (arith, never))
name_again (b ∷ bs) (c ∷ cs) same name written =
    let lowers = same_lower (b ∷ bs) (c ∷ cs) same in
    let again = names_again (b ∷ bs) (c ∷ cs) lowers name in
    (again, name_found c cs again (sym (keyword_of_same (b ∷ bs) (c ∷ cs) lowers) ∙ name_is b bs name written))

-- ---- the first that has a name

module _ {A : Type 0} (p : A → Bool) where
  stands : (xs : List A) → position_or_len p xs < length xs → (x : A) × (slice_get xs (position_or_len p xs) ≡ Some x) × (p x ≡ true)
  stands [] lt = absurd (omega arith)
  stands (x ∷ xs) lt = by (p x) refl (stands xs) lt where
    by : (b : Bool) → p x ≡ b → (position_or_len p xs < length xs → (y : A) × (slice_get xs (position_or_len p xs) ≡ Some y) × (p y ≡ true)) → cond (not b) (1 + position_or_len p xs) 0 < length (x ∷ xs)
        → (y : A) × (slice_get (x ∷ xs) (cond (not b) (1 + position_or_len p xs) 0) ≡ Some y) × (p y ≡ true)
    by true e rest l = (x, refl, e)
    by false e rest l =
        let found = rest (omega arith) in
        let one : 1 + position_or_len p xs ≡ suc (position_or_len p xs) = omega arith in
        (found.0, ap (slice_get (x ∷ xs)) one ∙ found.1, found.2)

  pub position_is : (xs : List A) (i : ℕ) → position p xs ≡ Some i → (x : A) × (slice_get xs i ≡ Some x) × (p x ≡ true)
  position_is xs i e =
      let both = cond_some _ (position_or_len p xs) i e in
      let found = stands xs (ltb-true (position_or_len p xs) (length xs) both.0) in
      (found.0, ap (slice_get xs) (sym both.1) ∙ found.1, found.2)
