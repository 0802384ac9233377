-- What a column shows of a row, without quotes.
use Rattle.std.specs.Prelude.{ℕ, List, [], slice_get, Option, Some, None}
use Rattle.period.specs.Day.{day_text}
use Rattle.period.specs.Instant.{instant_text}
use Rattle.model.specs.declared.value.Value.{Value as RowValue}
use Rattle.model.specs.declared.value.Value.TheVariants.{Number, Text, Day}
use Rattle.model.specs.Texts.{value_text}
use Rattle.answer.specs.declared.Shows.{Shows}
use Rattle.answer.specs.declared.Shows.TheVariants.{Key, Value, Start, End, SystemStart, SystemEnd}
use Rattle.answer.specs.declared.Shown.{Shown}
use Rattle.answertext.specs.Answers.{end_text}

-- a number in decimal, a text as it is, a day as YYYY-MM-DD
abbrev pub bare_value : RowValue → List ℕ
bare_value (Number n) = value_text (Number n)
bare_value (Text s) = s
bare_value (Day d) = value_text (Day d)

-- a place that a row does not have is shown as nothing
abbrev pub bare_optional : Option RowValue → List ℕ
bare_optional None = []
bare_optional (Some value) = bare_value value

-- what a column shows of a row
abbrev pub bare_text : Shown → Shows → List ℕ
bare_text row (Key i) = bare_optional (slice_get row.key.items i)
bare_text row (Value i) = bare_optional (slice_get row.values.items i)
bare_text row Start = day_text row.period.start.number
bare_text row End = day_text row.period.end.number
bare_text row SystemStart = instant_text row.system_start
bare_text row SystemEnd = end_text row.end
