-- Each kind of token is lawful.
use Rattle.std.proofs.Common.{◌≡◌, ℕ, true, List, [], ◌∷◌, Option, Some, None, refl, ap, subst, inl, inr}
use Rattle.std.specs.Prelude.{codes}
use denote.Enum.Bare.{same_true, true_same}
use Rattle.sqltokens.specs.contracts.token.Keyword as keywords
use Rattle.sqltokens.specs.contracts.token.Sign as signs
use Rattle.sqltokens.specs.declared.token.Keyword.{Keyword}
use Rattle.sqltokens.specs.declared.token.Sign.{Sign}
use Rattle.sqltokens.specs.What.{What, Word, Symbol, Name, Digits, Text, Stray, is_word, is_symbol, word, sign}
use Rattle.phrase.specs.Grammar.{nothing, one}
use Rattle.sqltokens.specs.Classes.{name_in, digits_in, text_in, has_shape, shaped, digits, texts, dates, points}
use Rattle.phrase.proofs.Laws.{chosen, stops, IsFixed, IsClass, IsLawful, one_token}

-- ---- tokens

word_only : (k : Keyword) (t : What) → is_word k t ≡ true → t ≡ Word k
word_only k (Word j) e = ap Word (same_true keywords.the_type tt j k e)
word_only k (Symbol s) e = absurd cc
word_only k (Name n) e = absurd cc
word_only k (Digits d) e = absurd cc
word_only k (Text t) e = absurd cc
word_only k Stray e = absurd cc

pub a_word : (k : Keyword) → IsFixed (word k)
a_word k = record { same = true_same keywords.the_type k k refl; only = word_only k }

symbol_only : (s : Sign) (t : What) → is_symbol s t ≡ true → t ≡ Symbol s
symbol_only s (Word j) e = absurd cc
symbol_only s (Symbol j) e = ap Symbol (same_true signs.the_type tt j s e)
symbol_only s (Name n) e = absurd cc
symbol_only s (Digits d) e = absurd cc
symbol_only s (Text t) e = absurd cc
symbol_only s Stray e = absurd cc

pub a_sign : (s : Sign) → IsFixed (sign s)
a_sign s = record { same = true_same signs.the_type s s refl; only = symbol_only s }

some_is : {A : Type 0} (x y : A) → Some x ≡ Some y → x ≡ y
some_is x y e = cc

pub name_only : (t : What) (a : List ℕ) → name_in t ≡ Some a → t ≡ Name a
name_only (Word j) a e = absurd cc
name_only (Symbol s) a e = absurd cc
name_only (Name n) a e = ap Name (some_is n a e)
name_only (Digits d) a e = absurd cc
name_only (Text t) a e = absurd cc
name_only Stray a e = absurd cc

digits_only : (t : What) (a : List ℕ) → digits_in t ≡ Some a → t ≡ Digits a
digits_only (Word j) a e = absurd cc
digits_only (Symbol s) a e = absurd cc
digits_only (Name n) a e = absurd cc
digits_only (Digits d) a e = ap Digits (some_is d a e)
digits_only (Text t) a e = absurd cc
digits_only Stray a e = absurd cc

text_only : (t : What) (a : List ℕ) → text_in t ≡ Some a → t ≡ Text a
text_only (Word j) a e = absurd cc
text_only (Symbol s) a e = absurd cc
text_only (Name n) a e = absurd cc
text_only (Digits d) a e = absurd cc
text_only (Text t) a e = ap Text (some_is t a e)
text_only Stray a e = absurd cc

pub digits_class : IsClass digits
unfolding digits
digits_class = record { again = λ a fits. refl; only = λ t a e. (tt, digits_only t a e); example_fits = tt }

pub texts_class : IsClass texts
unfolding texts
texts_class = record { again = λ a fits. refl; only = λ t a e. (tt, text_only t a e); example_fits = tt }

shaped_only : (shape : List ℕ) (o : Option (List ℕ)) (a : List ℕ) → shaped shape o ≡ Some a → (has_shape shape a ≡ true) × (o ≡ Some a)
shaped_only shape None a e = absurd cc
shaped_only shape (Some t) a e = elim (chosen (has_shape shape t) (Some t) None (Some a) e) [
  | inl h ↦ (subst (λ (v : List ℕ). has_shape shape v ≡ true) (some_is t a h.1) h.0, h.1)
  | inr h ↦ absurd (let k = h.1 in cc)
]

shaped_again : (shape a : List ℕ) → has_shape shape a ≡ true → shaped shape (Some a) ≡ Some a
shaped_again shape a e = rw e refl

pub dates_class : IsClass dates
unfolding dates
dates_class = record {
  again = λ a fits. shaped_again (codes "dddd-dd-dd") a fits;
  only = λ t a e. let h = shaped_only (codes "dddd-dd-dd") (text_in t) a e in (h.0, text_only t a h.1);
  example_fits = refl;
}

pub points_class : IsClass points
unfolding points
points_class = record {
  again = λ a fits. shaped_again (codes "dddd-dd-dd dd:dd:dd.dddddd") a fits;
  only = λ t a e. let h = shaped_only (codes "dddd-dd-dd dd:dd:dd.dddddd") (text_in t) a e in (h.0, text_only t a h.1);
  example_fits = refl;
}

pub stops_nothing : (rest : List What) → stops nothing rest ≡ true
stops_nothing [] = refl
stops_nothing (t ∷ ts) = refl

pub digits_lawful : IsLawful (one digits)
digits_lawful = one_token digits digits_class

pub texts_lawful : IsLawful (one texts)
texts_lawful = one_token texts texts_class

pub dates_lawful : IsLawful (one dates)
dates_lawful = one_token dates dates_class

pub points_lawful : IsLawful (one points)
points_lawful = one_token points points_class
