-- Names are lawful, and ASCII.
use Rattle.std.proofs.Common.{◌≡◌, ℕ, zero, suc, ◌<◌, true, [], ◌∷◌, ◌++◌, Option, Some, None, refl, subst, inl, inr, arith}
use Rattle.std.specs.Prelude.{◌&&◌, nat_le, length}
use Rattle.std.specs.List.{list_all}
use Rattle.std.specs.Str.{IsAscii}
use Rattle.std.proofs.lemmas.Bool.Decides.{nat_tests}
use Rattle.sqltokens.specs.declared.token.Sign.TheVariants.{Comma}
use Rattle.sqltokens.specs.What.{What, is_symbol, sign}
use Rattle.sqltokens.specs.Classes.{name_in}
use Rattle.sqltokens.specs.Lexing.{is_word_byte}
use Rattle.phrase.specs.Grammar.{Phrase, one, ◌▸◌}
use Rattle.phrase.proofs.Laws.{chosen, IsClass, IsLawful, Begins, Parts, Repeats, after_fixed, in_turn, one_token, in_row}
use Rattle.sqltokens.proofs.Texts.{and_parts}
use Rattle.sqltokens.proofs.Symbols.{a_sign, name_only, stops_nothing}
use Rattle.namesyntax.specs.Words.{begins_with_letter, is_name_text}
use Rattle.namesyntax.specs.Names.{Bytes, if_name, names, another_name, name_list}

-- ---- one name

some_is : {A : Type 0} (x y : A) → Some x ≡ Some y → x ≡ y
some_is x y e = cc

words_only : (o : Option Bytes) (a : Bytes) → if_name o ≡ Some a → (is_name_text a ≡ true) × (o ≡ Some a)
words_only None a e = absurd cc
words_only (Some n) a e = elim (chosen (is_name_text n) (Some n) None (Some a) e) [
  | inl h ↦ (subst (λ (v : Bytes). is_name_text v ≡ true) (some_is n a h.1) h.0, h.1)
  | inr h ↦ absurd (let k = h.1 in cc)
]

names_class : IsClass names
unfolding names
names_class = record {
  again = λ a fits. rw fits refl;
  only = λ t a e. let h = words_only (name_in t) a e in (h.0, name_only t a h.1);
  example_fits = refl;
}

pub names_lawful : IsLawful (one names)
names_lawful = one_token names names_class

-- a name, and then what follows it
pub name_then : {B : Type 0} (q : Phrase What B) → IsLawful q → IsLawful (one names ▸ q)
name_then q Q = in_turn (one names) q (λ b rest f s t. stops_nothing (q.spell b ++ rest)) names_lawful Q

-- ---- lists of names

pub another_name_lawful : IsLawful another_name
unfolding another_name
another_name_lawful = after_fixed (sign Comma) _ (a_sign Comma) names_lawful

pub another_name_begins : Begins (is_symbol Comma) another_name true
unfolding another_name
another_name_begins a rest f = refl

name_list_part : Parts (one names) another_name
name_list_part b rest f = stops_nothing (another_name.spell b ++ rest)

pub name_list_repeat : Repeats another_name
unfolding another_name
name_list_repeat b rest f = refl

pub name_list_lawful : IsLawful name_list
unfolding name_list
name_list_lawful = in_row (one names) (is_symbol Comma) another_name another_name_begins name_list_part name_list_repeat names_lawful another_name_lawful

-- ---- ASCII

word_byte_low : (b : ℕ) → is_word_byte b ≡ true → b < 128
word_byte_low b e = grind (arith, nat_tests)

ascii_cons : (b : ℕ) (bs : Bytes) → b < 128 → IsAscii bs → IsAscii (b ∷ bs)
ascii_cons b bs lt rest zero = lt
ascii_cons b bs lt rest (suc k) = rest k

ascii_nil : IsAscii []
ascii_nil k = omega arith

word_bytes_ascii : (bs : Bytes) → list_all is_word_byte bs ≡ true → IsAscii bs
word_bytes_ascii [] e = ascii_nil
word_bytes_ascii (b ∷ bs) e = let h = and_parts (is_word_byte b) (list_all is_word_byte bs) e in ascii_cons b bs (word_byte_low b h.0) (word_bytes_ascii bs h.1)

pub name_ascii : (bs : Bytes) → is_name_text bs ≡ true → IsAscii bs
name_ascii bs e =
    let h = and_parts (begins_with_letter bs && list_all is_word_byte bs) (nat_le (length bs) 32) e in
    word_bytes_ascii bs (and_parts (begins_with_letter bs) (list_all is_word_byte bs) h.0).1
