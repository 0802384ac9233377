-- What queries and transactions share is lawful.
use Rattle.std.proofs.Common.{◌≡◌, true, false, List, ◌++◌, Option, Some, None, refl, ap, inl, inr}
use Rattle.std.specs.Prelude.{◌⊎◌, is_some}
use Rattle.sqltokens.specs.declared.token.Keyword.TheVariants as keyword
use Rattle.sqltokens.specs.declared.token.Sign.{Sign}
use Rattle.sqltokens.specs.declared.token.Sign.TheVariants as sign'
use Rattle.sqlsyntax.specs.declared.forms.Operator.{Operator}
use Rattle.sqlsyntax.specs.declared.forms.Operator.TheVariants as operator
use Rattle.sqltokens.specs.What.{What, Word, Symbol, Name, Digits, Text, Stray, is_word, is_symbol, word, sign}
use Rattle.sqltokens.specs.Classes.{digits, texts, dates, is_text}
use Rattle.phrase.specs.Grammar.{Phrase, one, only, ◌▸◌, next, optional, either}
use Rattle.namesyntax.specs.Names.{Bytes}
use Rattle.sqlsyntax.specs.Shared.{operator_of, operator_in, operator_sign, operators, is_operator, date, literal, comparison, another_comparison, comparisons, condition}
use Rattle.phrase.proofs.Laws.{stops, IsClass, IsLawful, Begins, Parts, Repeats, after_fixed, in_turn, one_token, only_fixed, left_out, one_of, in_row}
use Rattle.sqltokens.proofs.Symbols.{a_word, a_sign, digits_lawful, texts_lawful, dates_lawful, stops_nothing}
use Rattle.namesyntax.proofs.LawsNames.{name_then}

-- ---- operators

some_is : {A : Type 0} (x y : A) → Some x ≡ Some y → x ≡ y
some_is x y e = cc

operator_again : (o : Operator) → operator_of (operator_sign o) ≡ Some o
operator_again operator.Equal = refl
operator_again operator.NotEqual = refl
operator_again operator.Less = refl
operator_again operator.LessEqual = refl
operator_again operator.Greater = refl
operator_again operator.GreaterEqual = refl

operator_sign_is : (s : Sign) (o : Operator) → operator_of s ≡ Some o → s ≡ operator_sign o
operator_sign_is sign'.Equal o e = ap operator_sign (some_is operator.Equal o e)
operator_sign_is sign'.NotEqual o e = ap operator_sign (some_is operator.NotEqual o e)
operator_sign_is sign'.Less o e = ap operator_sign (some_is operator.Less o e)
operator_sign_is sign'.LessEqual o e = ap operator_sign (some_is operator.LessEqual o e)
operator_sign_is sign'.Greater o e = ap operator_sign (some_is operator.Greater o e)
operator_sign_is sign'.GreaterEqual o e = ap operator_sign (some_is operator.GreaterEqual o e)
operator_sign_is s o e = absurd cc

operator_only : (t : What) (o : Operator) → operator_in t ≡ Some o → t ≡ Symbol (operator_sign o)
operator_only (Word j) o e = absurd cc
operator_only (Symbol s) o e = ap Symbol (operator_sign_is s o e)
operator_only (Name n) o e = absurd cc
operator_only (Digits d) o e = absurd cc
operator_only (Text t) o e = absurd cc
operator_only Stray o e = absurd cc

operators_class : IsClass operators
unfolding operators
operators_class = record { again = λ a fits. operator_again a; only = λ t a e. (tt, operator_only t a e); example_fits = tt }

pub operators_lawful : IsLawful (one operators)
operators_lawful = one_token operators operators_class

pub operator_begins : (o : Operator) (rest : List What) → next is_operator ((one operators).spell o ++ rest) ≡ true
unfolding operators
operator_begins o rest = ap is_some (operator_again o)

-- ---- dates and literals

pub date_lawful : IsLawful date
unfolding date
date_lawful = after_fixed (word keyword.Date) (one dates) (a_word keyword.Date) dates_lawful

pub date_begins : Begins (is_word keyword.Date) date true
unfolding date
date_begins a rest f = refl

pub date_ends : (rest : List What) → stops date.goes rest ≡ true
unfolding date
date_ends rest = stops_nothing rest

-- a date, and then what follows it
pub date_then : {B : Type 0} (q : Phrase What B) → IsLawful q → IsLawful (date ▸ q)
date_then q Q = in_turn date q (λ b rest f s t. date_ends (q.spell b ++ rest)) date_lawful Q

abbrev number : Phrase What (Option (Unit {0}) × Bytes)
number = optional (is_symbol sign'.Minus) (only (sign sign'.Minus)) ▸ one digits

no_date : (b : Bytes ⊎ (Option (Unit {0}) × Bytes)) (rest : List What) → next (is_word keyword.Date) ((either is_text (one texts) number).spell b ++ rest) ≡ false
unfolding texts digits
no_date (inl t) rest = refl
no_date (inr (None, d)) rest = refl
no_date (inr (Some u, d)) rest = refl

no_text : (b : Option (Unit {0}) × Bytes) (rest : List What) → next is_text (number.spell b ++ rest) ≡ false
unfolding digits
no_text (None, d) rest = refl
no_text (Some u, d) rest = refl

number_lawful : IsLawful number
unfolding digits
number_lawful = in_turn (optional (is_symbol sign'.Minus) (only (sign sign'.Minus))) (one digits) (λ b rest f s t. refl)
    (left_out (is_symbol sign'.Minus) (only (sign sign'.Minus)) (λ a rest f. refl) (only_fixed (sign sign'.Minus) (a_sign sign'.Minus))) digits_lawful

text_begins : (t : Bytes) (rest : List What) → next is_text ((one texts).spell t ++ rest) ≡ true
unfolding texts
text_begins t rest = refl

pub literal_lawful : IsLawful literal
unfolding literal
literal_lawful = one_of (is_word keyword.Date) date (either is_text (one texts) number)
    date_begins (λ b rest f. no_date b rest) date_lawful
    (one_of is_text (one texts) number (λ a rest f. text_begins a rest) (λ b rest f. no_text b rest) texts_lawful number_lawful)

-- ---- comparisons

pub operation_lawful : IsLawful (one operators ▸ literal)
operation_lawful = in_turn (one operators) literal (λ b rest f s t. stops_nothing (literal.spell b ++ rest)) operators_lawful literal_lawful

pub comparison_lawful : IsLawful comparison
unfolding comparison
comparison_lawful = name_then (one operators ▸ literal) operation_lawful

pub another_comparison_lawful : IsLawful another_comparison
unfolding another_comparison
another_comparison_lawful = after_fixed (word keyword.And) comparison (a_word keyword.And) comparison_lawful

pub another_comparison_begins : Begins (is_word keyword.And) another_comparison true
unfolding another_comparison
another_comparison_begins a rest f = refl

comparisons_part : Parts comparison another_comparison
unfolding comparison another_comparison literal date
comparisons_part b rest f = refl

comparisons_repeat : Repeats another_comparison
unfolding comparison another_comparison literal date
comparisons_repeat b rest f = refl

pub comparisons_lawful : IsLawful comparisons
unfolding comparisons
comparisons_lawful = in_row comparison (is_word keyword.And) another_comparison another_comparison_begins comparisons_part comparisons_repeat comparison_lawful another_comparison_lawful

pub condition_lawful : IsLawful condition
unfolding condition
condition_lawful = after_fixed (word keyword.Where) comparisons (a_word keyword.Where) comparisons_lawful

pub condition_begins : Begins (is_word keyword.Where) condition true
unfolding condition
condition_begins a rest f = refl
