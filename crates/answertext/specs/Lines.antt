-- The text of an answer, in the words of `believed`. Each line ends with LF, which is 10, and 44 is a comma.
use Rattle.std.specs.Prelude.{ℕ, List, [], ◌∷◌, ◌++◌, length, map, codes, decimal, slice_get}
use Rattle.std.specs.List.{flat_map, join_with_byte}
use Rattle.std.specs.Option.{option_map_or}
use Rattle.answer.specs.declared.Shows.{Shows}
use Rattle.answer.specs.declared.Shows.TheVariants.{Key, Value, Start, End, SystemStart, SystemEnd}
use Rattle.answer.specs.declared.Column.{Column}
use Rattle.answer.specs.declared.Shown.{Shown}
use Rattle.answer.specs.declared.Answer.{Answer}
use Rattle.believed.specs.Days.{day_text, instant_text, value_text}

-- What a column shows of a row. A place that the row does not have is written as nothing, an open system end as the highest value.
abbrev pub slot_text : Shown → Shows → List ℕ
slot_text row (Key i) = option_map_or value_text (slice_get row.key.items i) []
slot_text row (Value i) = option_map_or value_text (slice_get row.values.items i) []
slot_text row Start = day_text row.period.start.number
slot_text row End = day_text row.period.end.number
slot_text row SystemStart = instant_text row.system_start
slot_text row SystemEnd = option_map_or instant_text row.end (codes "9999-12-31 23:59:59.999999")

-- the last instant that was asked about, the names of the columns, a line for each row, and how many there are
unfoldable pub answer_text : Answer → List ℕ
answer_text answer =
    let columns = answer.columns.items in
    let row_text = λ (row : Shown). (codes "row " ++ join_with_byte 44 (map (λ (c : Column). slot_text row c.shows) columns)) ++ 10 ∷ [] in
    (((codes "last " ++ instant_text answer.last) ++ 10 ∷ []) ++ ((codes "columns " ++ join_with_byte 44 (map (λ (c : Column). c.name) columns)) ++ 10 ∷ []))
    ++ (flat_map row_text answer.rows.items ++ ((codes "rows " ++ decimal (length answer.rows.items)) ++ 10 ∷ []))
