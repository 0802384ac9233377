-- Which bytes are ASCII.
use Rattle.std.proofs.Common.{◌≡◌, ℕ, zero, suc, ◌<◌, ◌≤◌, true, ◌-◌, List, [], ◌∷◌, length, take, Result, Ok, Err, get_or, eqb, refl, sym, subst, ◌∙◌, arith, inl, inr}
use Rattle.std.specs.Prelude.{◌&&◌}
use Rattle.std.specs.Char.{is_ascii_digit}
use Rattle.std.specs.List.{list_all}
use Rattle.std.specs.Result.{IsOk, MatchResult}
use Rattle.std.specs.Str.{IsAscii}
use Rattle.std.proofs.lemmas.Bool.Decides.{nat_tests}
use Rattle.sqltokens.specs.Lexing.{is_printable, closes}
use Rattle.std.proofs.lemmas.List.{take-take}
use Rattle.sqltokens.specs.Lexing.{longest_text}
use Rattle.phrase.proofs.Laws.{if_true, if_false}
use Rattle.sqltokens.proofs.Texts.{decide, and_parts, closing}
use Rattle.sqltokens.proofs.Lexemes.{all_true}

pub ok_where : {T E : Type 0} (r : Result T E) (P : T → Type 0) (U : Type 0) (Q : E → Type 0) → MatchResult r P (λ e. (U → ⊥) × Q e) → U → IsOk r
ok_where (Ok x) P U Q h u = refl
ok_where (Err e) P U Q h u = absurd (h.0 u)

ascii_cons : (b : ℕ) (bs : List ℕ) → b < 128 → IsAscii bs → IsAscii (b ∷ bs)
ascii_cons b bs lt rest zero = lt
ascii_cons b bs lt rest (suc k) = rest k

ascii_nil : IsAscii []
ascii_nil k = omega arith

ascii_take : (k : ℕ) (bs : List ℕ) → IsAscii bs → IsAscii (take k bs)
ascii_take zero bs h = ascii_nil
ascii_take (suc k) [] h = ascii_nil
ascii_take (suc k) (b ∷ bs) h = ascii_cons b (take k bs) (h 0) (ascii_take k bs (λ i. h (suc i)))

quote_low : (b : ℕ) → eqb b 39 ≡ true → b < 128
quote_low b e = grind (arith, nat_tests)

printable_low : (b : ℕ) → is_printable b ≡ true → b < 128
printable_low b e = grind (arith, nat_tests)

-- what closes a text is ASCII
closes_ascii : (bs : List ℕ) → closes bs ≡ true → IsAscii bs
unfolding closes
closes_ascii [] e = ascii_nil
closes_ascii (b ∷ []) e = ascii_cons b [] (quote_low b e) ascii_nil
closes_ascii (b ∷ c ∷ bs) e = elim (decide (eqb b 39)) [
  | inl h ↦
      let k = and_parts (eqb c 39) (closes bs) (sym (if_true (eqb b 39) (eqb c 39 && closes bs) (is_printable b && closes (c ∷ bs)) h) ∙ e) in
      ascii_cons b (c ∷ bs) (quote_low b h) (ascii_cons c bs (quote_low c k.0) (closes_ascii bs k.1))
  | inr h ↦
      let k = and_parts (is_printable b) (closes (c ∷ bs)) (sym (if_false (eqb b 39) (eqb c 39 && closes bs) (is_printable b && closes (c ∷ bs)) h) ∙ e) in
      ascii_cons b (c ∷ bs) (printable_low b k.0) (closes_ascii (c ∷ bs) k.1)
]

-- what stands between the quotes of the longest text is ASCII
pub between_quotes : (bs : List ℕ) (n : ℕ) → longest_text bs ≡ n → 0 < n → IsAscii (take (n - 1) bs)
between_quotes bs n e lt =
    let c = closing bs n e lt in
    subst IsAscii (take-take (n - 1) n bs (omega arith)) (ascii_take (n - 1) (take n bs) (closes_ascii (take n bs) c.1))

-- the digits at the front
pub all_digits : (bs : List ℕ) (n : ℕ) → n ≤ length bs → is_ascii_digit (get_or bs 0 0) ≡ true → ((k : ℕ) → 1 ≤ k → k < n → is_ascii_digit (get_or bs k 0) ≡ true) → list_all is_ascii_digit (take n bs) ≡ true
all_digits bs n le first each = all_true is_ascii_digit bs n le each_digit where
  each_digit : (k : ℕ) → k < n → is_ascii_digit (get_or bs k 0) ≡ true
  each_digit zero lt = first
  each_digit (suc k) lt = each (suc k) (omega arith) lt
