-- A literal that is read as a value, and the literal that is written of the value.
use Rattle.std.proofs.Common.{◌≡◌, ℕ, ℤ, pos, negsuc, zero, suc, ◌+◌, ◌^◌, ◌<◌, ◌≤◌, Bool, true, false, [], ◌∷◌, ◌++◌, length, find, eqb, Option, Some, None, Ok, refl, sym, ap, subst, ◌∙◌, arith, inl, inr}
use Rattle.std.specs.Prelude.{◌⊎◌, decimal, nat_lt, nat_le, bytes_eq}
use Rattle.std.specs.Char.{is_ascii_digit, is_ascii_alphabetic}
use Rattle.std.specs.List.{list_all, range_with_len}
use Rattle.std.specs.Str.Parse.{digits_value, AllDigits}
use Rattle.std.proofs.lemmas.Bool.{eqb-true, ltb-true, leb-true, lt-ltb, le-leb}
use Rattle.std.proofs.lemmas.Bool.Decides.{nat_tests}
use Rattle.std.proofs.lemmas.Fmt.{decimal_is_IsNumeral}
use Rattle.std.proofs.lemmas.Str.Parse.{digit_from_value}
use Rattle.std.proofs.lemmas.Slice.Eq.{bytes_eq-Decides}
use Rattle.fault.specs.declared.refusal.Refusal.TheVariants.{OutOfRange}
use Rattle.period.specs.Day.{day_text}
use Rattle.model.specs.declared.value.Value.{Value as RowValue}
use Rattle.model.specs.declared.value.Value.TheVariants as value
use Rattle.model.specs.Texts.{doubled}
use Rattle.schema.specs.declared.table.Kind.{Kind}
use Rattle.schema.specs.declared.table.Kind.TheVariants as kind
use Rattle.sqltokens.specs.declared.token.Sign.TheVariants as sign
use Rattle.sqltokens.specs.What.{Digits, Text}
use Rattle.sqltokens.specs.Classes.{digits, texts}
use Rattle.sqltokens.specs.Lexing.{is_printable, closes, token_of}
use Rattle.namesyntax.specs.Names.{Bytes}
use Rattle.sqlsyntax.specs.Shared.{LiteralForm, literal}
use Rattle.sqlchecks.specs.Answering.{◌>>=◌}
use Rattle.sqlchecks.specs.Literals.{signed, named, day_named, undoubled, text_within, literal_in}
use Rattle.rowtext.specs.Transactions.{literal_of}
use Rattle.rowtext.specs.Again.{IsWritten, IsReadAs, ReadsLiterals}
use Rattle.rowtext.proofs.Steps.{decided, both_true, ok_is, after_ok, some_of}
use Rattle.rowtext.proofs.Tokens.{sign_written}
use Rattle.rowtext.proofs.Lexing.{text_parts}

-- ---- days

found_below : (p : ℕ → Bool) (n from k : ℕ) → find p (range_with_len from n) ≡ Some k → (p k ≡ true) × (k < from + n)
found_below p zero from k e = absurd cc
found_below p (suc n) from k e = by (decided (p from)) (found_below p n (from + 1) k) where
  by : (p from ≡ true) ⊎ (p from ≡ false) → (find p (range_with_len (from + 1) n) ≡ Some k → (p k ≡ true) × (k < from + 1 + n)) → (p k ≡ true) × (k < from + suc n)
  by (inl h) rest =
      let here : Some from ≡ Some k = rw h at e in
      let same : from ≡ k = cc in
      (subst (λ (i : ℕ). p i ≡ true) same h, omega arith)
  by (inr h) rest = let found = rest (rw h at e) in (found.0, omega arith)

named_is : (text_of : ℕ → Bytes) (n : ℕ) (text : Bytes) (k : ℕ) → named text_of n text ≡ Some k → (text_of k ≡ text) × (k < n)
unfolding named
named_is text_of n text k e =
    let found = found_below (λ j. bytes_eq (text_of j) text) n 0 k e in
    ((bytes_eq-Decides (text_of k) text).0 found.0, omega arith)

-- a day that was read has a date, and that is its text
pub day_is : (text : Bytes) (d : ℕ) → day_named text ≡ Ok d → (day_text d ≡ text) × (d ≤ 3_652_058)
unfolding day_named
day_is text d e =
    let found = named_is day_text 3_652_059 text d (some_of OutOfRange (named day_text 3_652_059 text) d e) in
    (found.0, omega arith)

pub day_literal : (d : ℕ) → d ≤ 3_652_058 → literal_of (value.Day d) ≡ inl (day_text d)
day_literal d le = rw (le-leb d 3_652_058 le) refl

-- ---- texts

closed_again : (s : Bytes) → closes (s ++ 39 ∷ []) ≡ true → doubled (undoubled s) ≡ s
unfolding closes undoubled
closed_again [] e = refl
closed_again (b ∷ []) e = go (decided (eqb b 39)) where
  go : (eqb b 39 ≡ true) ⊎ (eqb b 39 ≡ false) → doubled (b ∷ []) ≡ b ∷ []
  go (inl h) = let never = rw h at e in absurd cc
  go (inr h) = rw h refl
closed_again (b ∷ c ∷ bs) e = by (decided (eqb b 39)) (closed_again bs) (closed_again (c ∷ bs)) where
  by : (eqb b 39 ≡ true) ⊎ (eqb b 39 ≡ false) → (closes (bs ++ 39 ∷ []) ≡ true → doubled (undoubled bs) ≡ bs) → (closes (c ∷ bs ++ 39 ∷ []) ≡ true → doubled (undoubled (c ∷ bs)) ≡ c ∷ bs)
      → doubled (undoubled (b ∷ c ∷ bs)) ≡ b ∷ c ∷ bs
  by (inl h) two one =
      let both = both_true (eqb c 39) (closes (bs ++ 39 ∷ [])) (rw h at e) in
      rw (h, both.0) (
      ap (λ (l : Bytes). 39 ∷ 39 ∷ l) (two both.1)
      ∙ ap (λ (q : ℕ). q ∷ 39 ∷ bs) (sym (eqb-true b 39 h))
      ∙ ap (λ (q : ℕ). b ∷ q ∷ bs) (sym (eqb-true c 39 both.0)))
  by (inr h) two one =
      let both = both_true (is_printable b) (closes (c ∷ bs ++ 39 ∷ [])) (rw h at e) in
      rw (h, h) (ap (λ (l : Bytes). b ∷ l) (one both.1))

-- ---- numbers

digit_is : (c : ℕ) → 48 ≤ c → c < 58 → (is_ascii_digit c ≡ true) × (is_ascii_alphabetic c ≡ false)
digit_is c lo hi = (grind (arith, nat_tests), grind (arith, nat_tests))

all_digits : (ds : Bytes) → AllDigits 10 ds → list_all is_ascii_digit ds ≡ true
all_digits [] all = refl
all_digits (c ∷ cs) all = let r = digit_from_value c all.0 in rw ((digit_is c (omega arith) (omega arith)).0, all_digits cs all.1) refl

numeral_written : (ds : Bytes) → 0 < length ds → AllDigits 10 ds → IsWritten (Digits ds)
unfolding token_of
numeral_written [] some all = absurd (omega arith)
numeral_written (c ∷ cs) some all =
    let r = digit_from_value c all.0 in
    let first = digit_is c (omega arith) (omega arith) in
    rw (first.1, first.0, all_digits cs all.1) refl

pub decimal_written : (n : ℕ) → n < 2 ^ 64 → IsWritten (Digits (decimal n))
decimal_written n lt = let own = decimal_is_IsNumeral n lt in numeral_written (decimal n) own.0.0 own.0.1

pub decimal_value : (n : ℕ) → n < 2 ^ 64 → digits_value 10 (decimal n) ≡ n
decimal_value n lt = (decimal_is_IsNumeral n lt).1

-- ---- literals

signed_plain : (m : ℕ) → m < 9_223_372_036_854_775_808 → signed None m ≡ Ok (pos m)
unfolding signed
signed_plain m lt = rw (lt-ltb m 9_223_372_036_854_775_808 lt) refl

signed_minus : (m : ℕ) → suc m ≤ 9_223_372_036_854_775_808 → signed (Some tt) (suc m) ≡ Ok (negsuc m)
unfolding signed
signed_minus m le = rw (le-leb (suc m) 9_223_372_036_854_775_808 le) refl

-- a number that signed lets through, written in decimal
abbrev IsAgain : ℤ → Type 0
IsAgain n = IsReadAs literal (literal_in kind.Integer) (literal_of (value.Number n)) (value.Number n)

plain_again : (m : ℕ) → m < 9_223_372_036_854_775_808 → IsAgain (pos m)
unfolding literal literal_in digits
plain_again m lt = record {
  fits = (tt, tt);
  written = (decimal_written m (omega arith), tt);
  let_through = rw (decimal_value m (omega arith), signed_plain m lt) refl;
}

below_again : (m : ℕ) → suc m ≤ 9_223_372_036_854_775_808 → IsAgain (negsuc m)
unfolding literal literal_in digits
below_again m le = record {
  fits = (tt, tt);
  written = (sign_written sign.Minus, (decimal_written (suc m) (omega arith), tt));
  let_through = rw (decimal_value (suc m) (omega arith), signed_minus m le) refl;
}

number_again : (minus : Option (Unit {0})) (m : ℕ) (n : ℤ) → signed minus m ≡ Ok n → IsAgain n
unfolding signed
number_again None m n e = by (decided (nat_lt m 9_223_372_036_854_775_808)) where
  by : (nat_lt m 9_223_372_036_854_775_808 ≡ true) ⊎ (nat_lt m 9_223_372_036_854_775_808 ≡ false) → IsAgain n
  by (inl h) = subst IsAgain (ok_is (pos m) n (rw h at e)) (plain_again m (ltb-true m 9_223_372_036_854_775_808 h))
  by (inr h) = let never = rw h at e in absurd cc
number_again (Some minus) zero n e = subst IsAgain (ok_is (pos 0) n e) (plain_again 0 (omega arith))
number_again (Some minus) (suc m) n e = by (decided (nat_le (suc m) 9_223_372_036_854_775_808)) where
  by : (nat_le (suc m) 9_223_372_036_854_775_808 ≡ true) ⊎ (nat_le (suc m) 9_223_372_036_854_775_808 ≡ false) → IsAgain n
  by (inl h) = subst IsAgain (ok_is (negsuc m) n (rw h at e)) (below_again m (leb-true (suc m) 9_223_372_036_854_775_808 h))
  by (inr h) = let never = rw h at e in absurd cc

-- ---- literals

date_form : (form : Bytes) (v : RowValue) → (day_named form >>= λ d. Ok (value.Day d)) ≡ Ok v → literal_of v ≡ inl form
date_form form v e =
    let day = after_ok (day_named form) (λ d. Ok (value.Day d)) v e in
    let is = day_is form day.0 day.1 in
    ap literal_of (sym (ok_is (value.Day day.0) v day.2)) ∙ day_literal day.0 is.1 ∙ ap (λ (t : Bytes). inl t) is.0

closing : (text : Bytes) → IsWritten (Text text) → closes (text ++ 39 ∷ []) ≡ true
closing text written = (text_parts (text ++ 39 ∷ []) (Text text) written).0

within_is : (most : ℕ) (text t : Bytes) → text_within most text ≡ Ok t → text ≡ t
unfolding text_within
within_is most text t e = by (decided (nat_le (length text) most)) where
  by : (nat_le (length text) most ≡ true) ⊎ (nat_le (length text) most ≡ false) → text ≡ t
  by (inl h) = ok_is text t (rw h at e)
  by (inr h) = let never = rw h at e in absurd cc

text_form : (most : ℕ) (form : Bytes) (v : RowValue) → IsWritten (Text form) → (text_within most (undoubled form) >>= λ t. Ok (value.Text t)) ≡ Ok v → literal_of v ≡ inr (inl form)
text_form most form v written e =
    let text = after_ok (text_within most (undoubled form)) (λ t. Ok (value.Text t)) v e in
    ap literal_of (sym (ok_is (value.Text text.0) v text.2))
    ∙ ap (λ (t : Bytes). inr (inl (doubled t))) (sym (within_is most (undoubled form) text.0 text.1))
    ∙ ap (λ (t : Bytes). inr (inl t)) (closed_again form (closing form written))

same_form : (k : Kind) (form : LiteralForm) (v : RowValue) → literal_of v ≡ form → IsReadAs literal (literal_in k) form v → IsReadAs literal (literal_in k) (literal_of v) v
same_form k form v e r = subst (λ (f : LiteralForm). IsReadAs literal (literal_in k) f v) (sym e) r

pub literals_again : ReadsLiterals
unfolding literal literal_in texts
literals_again kind.Integer (inl t) v r = let never = r.let_through in absurd cc
literals_again kind.Integer (inr (inl t)) v r = let never = r.let_through in absurd cc
literals_again kind.Integer (inr (inr (minus, ds))) v r =
    let n = after_ok (signed minus (digits_value 10 ds)) (λ m. Ok (value.Number m)) v r.let_through in
    subst (λ (w : RowValue). IsReadAs literal (literal_in kind.Integer) (literal_of w) w) (ok_is (value.Number n.0) v n.2) (number_again minus (digits_value 10 ds) n.0 n.1)
literals_again (kind.Varchar most) (inl t) v r = let never = r.let_through in absurd cc
literals_again (kind.Varchar most) (inr (inl t)) v r = same_form (kind.Varchar most) (inr (inl t)) v (text_form most t v r.written.0 r.let_through) r
literals_again (kind.Varchar most) (inr (inr (minus, ds))) v r = let never = r.let_through in absurd cc
literals_again kind.Date (inl t) v r = same_form kind.Date (inl t) v (date_form t v r.let_through) r
literals_again kind.Date (inr (inl t)) v r = let never = r.let_through in absurd cc
literals_again kind.Date (inr (inr (minus, ds))) v r = let never = r.let_through in absurd cc
literals_again kind.SystemStart (inl t) v r = let never = r.let_through in absurd cc
literals_again kind.SystemStart (inr (inl t)) v r = let never = r.let_through in absurd cc
literals_again kind.SystemStart (inr (inr (minus, ds))) v r = let never = r.let_through in absurd cc
literals_again kind.SystemEnd (inl t) v r = let never = r.let_through in absurd cc
literals_again kind.SystemEnd (inr (inl t)) v r = let never = r.let_through in absurd cc
literals_again kind.SystemEnd (inr (inr (minus, ds))) v r = let never = r.let_through in absurd cc
