-- The text of an answer. Each line ends with LF, which is 10, and 44 is a comma.
use Rattle.std.specs.Prelude.{ℕ, List, [], ◌∷◌, ◌++◌, length, map, codes, decimal, slice_get, Option, Some, None}
use Rattle.std.specs.List.{flat_map, join_with_byte}
use Rattle.period.specs.Day.{day_text}
use Rattle.period.specs.Instant.{instant_text}
use Rattle.model.specs.declared.value.Value.{Value as RowValue}
use Rattle.model.specs.Texts.{value_text}
use Rattle.answer.specs.declared.Shows.{Shows}
use Rattle.answer.specs.declared.Shows.TheVariants.{Key, Value, Start, End, SystemStart, SystemEnd}
use Rattle.answer.specs.declared.Column.{Column}
use Rattle.answer.specs.declared.Shown.{Shown}
use Rattle.answer.specs.declared.Answer.{Answer}

-- a place that a row does not have is written as nothing
abbrev pub optional_text : Option RowValue → List ℕ
optional_text None = []
optional_text (Some value) = value_text value

-- the end of a version in system time; an open one is shown as the highest value
abbrev pub end_text : Option ℕ → List ℕ
end_text None = codes "9999-12-31 23:59:59.999999"
end_text (Some t) = instant_text t

-- what a column shows of a row
abbrev pub slot_text : Shown → Shows → List ℕ
slot_text row (Key i) = optional_text (slice_get row.key.items i)
slot_text row (Value i) = optional_text (slice_get row.values.items i)
slot_text row Start = day_text row.period.start.number
slot_text row End = day_text row.period.end.number
slot_text row SystemStart = instant_text row.system_start
slot_text row SystemEnd = end_text row.end

abbrev pub joined : List (List ℕ) → List ℕ
joined texts = join_with_byte 44 texts

abbrev pub line : List ℕ → List ℕ
line text = text ++ 10 ∷ []

-- the last instant that was asked about, and the names of the columns
abbrev pub heading_text : ℕ → List Column → List ℕ
heading_text last columns = line (codes "last " ++ instant_text last) ++ line (codes "columns " ++ joined (map (λ c. c.name) columns))

abbrev pub row_text : List Column → Shown → List ℕ
row_text columns row = line (codes "row " ++ joined (map (λ c. slot_text row c.shows) columns))

abbrev pub count_text : ℕ → List ℕ
count_text count = line (codes "rows " ++ decimal count)

unfoldable pub answer_text : Answer → List ℕ
answer_text answer =
    heading_text answer.last answer.columns.items
    ++ (flat_map (row_text answer.columns.items) answer.rows.items ++ count_text (length answer.rows.items))
