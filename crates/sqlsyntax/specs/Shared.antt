-- The grammar that queries and transactions share.
use Rattle.std.specs.Prelude.{Bool, true, false, List, Option, Some, None, is_some, ◌⊎◌}
use mathlib.Core.Logic.{inl, inr}
use Rattle.sqltokens.specs.declared.token.Keyword.TheVariants as keyword
use Rattle.sqltokens.specs.declared.token.Sign.{Sign}
use Rattle.sqltokens.specs.declared.token.Sign.TheVariants as sign'
use Rattle.sqlsyntax.specs.declared.forms.Operator.{Operator}
use Rattle.sqlsyntax.specs.declared.forms.Operator.TheVariants as operator
use Rattle.sqlsyntax.specs.declared.forms.Literal.{Literal}
use Rattle.sqlsyntax.specs.declared.forms.Literal.TheVariants as literals
use Rattle.sqlsyntax.specs.declared.forms.Comparison.{Comparison}
use Rattle.sqltokens.specs.What.{What, Symbol, is_word, is_symbol, word, sign}
use Rattle.sqltokens.specs.Classes.{Always, digits, texts, dates, is_text}
use Rattle.phrase.specs.Grammar.{Phrase, Class, one, only, ◌▹◌, ◌▸◌, optional, either, row}
use Rattle.namesyntax.specs.Names.{Bytes, names, name_of}

-- ---- operators

abbrev pub operator_of : Sign → Option Operator
operator_of sign'.Equal = Some operator.Equal
operator_of sign'.NotEqual = Some operator.NotEqual
operator_of sign'.Less = Some operator.Less
operator_of sign'.LessEqual = Some operator.LessEqual
operator_of sign'.Greater = Some operator.Greater
operator_of sign'.GreaterEqual = Some operator.GreaterEqual
operator_of s = None

abbrev pub operator_in : What → Option Operator
operator_in (Symbol s) = operator_of s
operator_in w = None

abbrev pub is_operator : What → Bool
is_operator w = is_some (operator_in w)

abbrev pub operator_sign : Operator → Sign
operator_sign operator.Equal = sign'.Equal
operator_sign operator.NotEqual = sign'.NotEqual
operator_sign operator.Less = sign'.Less
operator_sign operator.LessEqual = sign'.LessEqual
operator_sign operator.Greater = sign'.Greater
operator_sign operator.GreaterEqual = sign'.GreaterEqual

unfoldable pub operators : Class What Operator
operators = record { fits = Always; what = λ o. Symbol (operator_sign o); of = operator_in; example = operator.Equal }

-- ---- dates, literals and comparisons

-- what stands between the quotes behind DATE
unfoldable pub date : Phrase What Bytes
date = word keyword.Date ▹ one dates

-- what stands between the quotes of a date, or else of a text, or else digits with a minus before them or none
abbrev pub LiteralForm : Type 0
LiteralForm = Bytes ⊎ (Bytes ⊎ (Option (Unit {0}) × Bytes))

-- date | text | [ "-" ] digits
unfoldable pub literal : Phrase What LiteralForm
literal = either (is_word keyword.Date) date (either is_text (one texts) (optional (is_symbol sign'.Minus) (only (sign sign'.Minus)) ▸ one digits))

abbrev pub ComparisonForm : Type 0
ComparisonForm = Bytes × (Operator × LiteralForm)

unfoldable pub comparison : Phrase What ComparisonForm
comparison = one names ▸ one operators ▸ literal

unfoldable pub another_comparison : Phrase What ComparisonForm
another_comparison = word keyword.And ▹ comparison

-- comparison { AND comparison }
unfoldable pub comparisons : Phrase What (List ComparisonForm)
comparisons = row comparison (is_word keyword.And) another_comparison

-- WHERE comparison { AND comparison }
unfoldable pub condition : Phrase What (List ComparisonForm)
condition = word keyword.Where ▹ comparisons

-- ---- the parts of what the code reads

abbrev pub minus : Bool → Option (Unit {0})
minus true = Some tt
minus false = None

abbrev pub literal_form : Literal → LiteralForm
literal_form (literals.Date d) = inl d.source.now
literal_form (literals.Text t) = inr (inl t.source.now)
literal_form (literals.Number n d) = inr (inr (minus n, d.digits.now))

abbrev pub comparison_form : Comparison → ComparisonForm
comparison_form c = (name_of c.column, (c.operator, literal_form c.literal))
