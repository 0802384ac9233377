-- Answers, outcomes and refusals as JSON, in the words of the kit's `json`: the tokens of one object, on a line.
use Rattle.std.specs.Prelude.{◌≡◌, ℕ, List, [], ◌∷◌, ◌++◌, map, codes, decimal, slice_get, Option, Some, None, Result, OnOk}
use Rattle.std.specs.List.{flat_map}
use Rattle.period.specs.Day.{day_text}
use Rattle.period.specs.Instant.{instant_text}
use Rattle.json.specs.Token.{Token, begin_object, end_object, begin_array, end_array, key, string, number, boolean, null}
use Rattle.json.specs.Print.{print}
use Rattle.json.specs.Written.{Written}
use Rattle.model.specs.declared.value.Value.{Value as RowValue}
use Rattle.model.specs.declared.value.Value.TheVariants.{Number, Text, Day}
use Rattle.answer.specs.declared.Shows.{Shows}
use Rattle.answer.specs.declared.Shows.TheVariants.{Key, Value, Start, End, SystemStart, SystemEnd}
use Rattle.answer.specs.declared.Answer.{Answer}
use Rattle.answer.specs.declared.Column.{Column}
use Rattle.answer.specs.declared.Shown.{Shown}
use Rattle.looks.specs.Bare.{bare_value, bare_text}

-- a number is a number, all else a string
abbrev pub value_token : RowValue → Token
value_token (Number n) = number (bare_value (Number n))
value_token (Text s) = string (bare_value (Text s))
value_token (Day d) = string (bare_value (Day d))

-- a place that a row does not have is null
abbrev pub optional_token : Option RowValue → Token
optional_token None = null
optional_token (Some value) = value_token value

abbrev pub slot_token : Shown → Shows → Token
slot_token row (Key i) = optional_token (slice_get row.key.items i)
slot_token row (Value i) = optional_token (slice_get row.values.items i)
slot_token row Start = string (bare_text row Start)
slot_token row End = string (bare_text row End)
slot_token row SystemStart = string (bare_text row SystemStart)
slot_token row SystemEnd = string (bare_text row SystemEnd)

-- these between brackets
abbrev pub array : List Token → List Token
array tokens = begin_array ∷ (tokens ++ end_array ∷ [])

abbrev pub row_tokens : List Column → Shown → List Token
row_tokens columns row = array (map (λ c. slot_token row c.shows) columns)

-- which node answers, as of which instant, the names of the columns, and the rows
unfoldable pub answer_tokens : ℕ → Answer → List Token
answer_tokens node answer =
    begin_object ∷ key (codes "node") ∷ number (decimal node)
    ∷ key (codes "last") ∷ string (instant_text answer.last)
    ∷ key (codes "columns") ∷ (array (map (λ c. string c.name) answer.columns.items)
    ++ key (codes "rows") ∷ (array (flat_map (row_tokens answer.columns.items) answer.rows.items) ++ end_object ∷ []))

-- the tokens, with no blank between them, and LF, which is 10
abbrev pub line_of : List Token → List ℕ
line_of tokens = print tokens ++ 10 ∷ []

-- at Ok these tokens are added
abbrev pub Adds : {E : Type 0} → Result (Unit {0}) E → Written → Written → List Token → Type 0
Adds result old new tokens = OnOk result ((new.before ≡ old.before) × (new.tokens ≡ old.tokens ++ tokens))
