-- What a text of statements spells: the tokens of each form, in the order in which they stand.
use Rattle.std.specs.Prelude.{◌≡◌, ◌≢◌, ℕ, ◌+◌, ◌<◌, true, List, [], ◌∷◌, ◌++◌, length, map, take, slice_get, Option, Some, None, codes}
use Rattle.std.specs.List.{AllByRecursion, flat_map, join_by}
use Rattle.std.specs.Option.{option_map_or}
use mathlib.Core.Logic.{inl, inr}
use Rattle.sqltokens.specs.declared.token.Keyword.TheVariants.{Date, Where, And, For, Portion, Of, From, To, Insert, Into, Values, Update, Set, Delete}
use Rattle.sqltokens.specs.declared.token.Sign.TheVariants.{Open, Close, Comma, Semicolon, Equal, Plus, Minus}
use Rattle.sqltokens.specs.What.{What, Word, Symbol, Name, Digits, Text, Piece}
use Rattle.sqltokens.specs.Lexing.{IsTokens}
use Rattle.sqltokens.specs.Classes.{has_shape}
use Rattle.sqlsyntax.specs.Shared.{operator_sign, LiteralForm, ComparisonForm}
use Rattle.sqlsyntax.specs.Transactions.{PortionForm, ValueForm, AssignmentForm, StatementForm}

abbrev pub literal : LiteralForm → List What
literal (inl date) = Word Date ∷ Text date ∷ []
literal (inr (inl text)) = Text text ∷ []
literal (inr (inr (None, digits))) = Digits digits ∷ []
literal (inr (inr (Some minus, digits))) = Symbol Minus ∷ Digits digits ∷ []

abbrev pub comparison : ComparisonForm → List What
comparison (column, (operator, value)) = Name column ∷ Symbol (operator_sign operator) ∷ literal value

abbrev pub condition : Option (List ComparisonForm) → List What
condition None = []
condition (Some comparisons) = Word Where ∷ join_by comparison (Word And ∷ []) comparisons

abbrev pub portion : Option PortionForm → List What
portion None = []
portion (Some (period, (from, to))) = Word For ∷ Word Portion ∷ Word Of ∷ Name period ∷ Word From ∷ Word Date ∷ Text from ∷ Word To ∷ Word Date ∷ Text to ∷ []

abbrev pub new_value : ValueForm → List What
new_value (inl (column, (inl plus, digits))) = Name column ∷ Symbol Plus ∷ Digits digits ∷ []
new_value (inl (column, (inr minus, digits))) = Name column ∷ Symbol Minus ∷ Digits digits ∷ []
new_value (inr value) = literal value

abbrev pub assignment : AssignmentForm → List What
assignment (column, value) = Name column ∷ Symbol Equal ∷ new_value value

abbrev pub statement : StatementForm → List What
statement (inl (table, (columns, values))) =
    Word Insert ∷ Word Into ∷ Name table ∷ Symbol Open ∷ join_by (λ column. Name column ∷ []) (Symbol Comma ∷ []) columns ++ Symbol Close ∷ Word Values ∷ Symbol Open ∷ join_by literal (Symbol Comma ∷ []) values ++ Symbol Close ∷ Symbol Semicolon ∷ []
statement (inr (inl (table, (days, (assignments, comparisons))))) = Word Update ∷ Name table ∷ portion days ++ Word Set ∷ join_by assignment (Symbol Comma ∷ []) assignments ++ condition comparisons ++ Symbol Semicolon ∷ []
statement (inr (inr (table, (days, comparisons)))) = Word Delete ∷ Word From ∷ Name table ∷ portion days ++ condition comparisons ++ Symbol Semicolon ∷ []

-- ---- texts

-- no list is empty
abbrev pub IsFull : StatementForm → Type 0
IsFull (inl (table, (columns, values))) = (columns ≢ []) × (values ≢ [])
IsFull (inr (inl (table, (days, (assignments, comparisons))))) = (assignments ≢ []) × (comparisons ≢ Some [])
IsFull (inr (inr (table, (days, comparisons)))) = comparisons ≢ Some []

-- the tokens of one statement or more, where each text behind DATE has the shape of a date
abbrev pub IsSpelling : List StatementForm → List Piece → Type 0
IsSpelling forms tokens =
    (map (λ t. t.what) tokens ≡ flat_map statement forms) × (forms ≢ []) × AllByRecursion IsFull forms
    × ((before after : List What) (date : List ℕ) → flat_map statement forms ≡ before ++ Word Date ∷ Text date ∷ after → has_shape (codes "dddd-dd-dd") date ≡ true)

abbrev pub Spells : List ℕ → List StatementForm → Type 0
Spells text forms = (tokens : List Piece) × IsTokens text 0 tokens × IsSpelling forms tokens

-- some statements begin with these tokens
abbrev pub GoesOn : List Piece → Type 0
GoesOn front = (forms : List StatementForm) × (ending : List Piece) × IsSpelling forms (front ++ ending)

-- the text spells nothing, and this is the first place at which that shows: no statements go on after the token there, or the text ends there
pub record IsWrongAt (text : List ℕ) (at : ℕ) : Type 0 where
  pub spells_nothing : (forms : List StatementForm) → Spells text forms → ⊥
  pub tokens : List Piece
  pub are_tokens : IsTokens text 0 tokens
  pub count : ℕ
  pub at_is : at ≡ option_map_or (λ t. t.at) (slice_get tokens count) (length text)
  pub goes_on : GoesOn (take count tokens)
  pub ends : count < length tokens → GoesOn (take (count + 1) tokens) → ⊥
