-- An answer has the same text in both words.
use Rattle.std.proofs.Common.{◌≡◌, ℕ, Option, Some, None, List, [], ◌∷◌, ◌++◌, length, map, refl, ap}
use Rattle.std.specs.Prelude.{codes, decimal, slice_get, nat_le, if◌then◌else◌}
use Rattle.std.specs.List.{flat_map, join_with_byte}
use Rattle.std.specs.Option.{option_map_or}
use Rattle.model.specs.declared.value.Value.{Value as RowValue}
use Rattle.model.specs.declared.value.Value.TheVariants as value
use Rattle.model.specs.Texts as texts
use Rattle.answer.specs.declared.Shows.{Shows}
use Rattle.answer.specs.declared.Shows.TheVariants.{Key, Value, Start, End, SystemStart, SystemEnd}
use Rattle.answer.specs.declared.Column.{Column}
use Rattle.answer.specs.declared.Shown.{Shown}
use Rattle.answer.specs.declared.Answer.{Answer}
use Rattle.believed.specs.Days as days
use Rattle.believed.proofs.DaysSame.{day_same, instant_same}
use Rattle.answertext.specs.Answers as before
use Rattle.answertext.specs.Lines as now

value_same : (v : RowValue) → days.value_text v ≡ texts.value_text v
value_same (value.Number n) = refl
value_same (value.Text s) = refl
value_same (value.Day d) = ap (λ xs. if nat_le d 3_652_058 then xs else decimal d) (day_same d)

optional_same : (o : Option RowValue) → option_map_or days.value_text o [] ≡ before.optional_text o
optional_same None = refl
optional_same (Some v) = value_same v

end_same : (o : Option ℕ) → option_map_or days.instant_text o (codes "9999-12-31 23:59:59.999999") ≡ before.end_text o
end_same None = refl
end_same (Some t) = instant_same t

slot_same : (row : Shown) (shows : Shows) → now.slot_text row shows ≡ before.slot_text row shows
slot_same row (Key i) = optional_same (slice_get row.key.items i)
slot_same row (Value i) = optional_same (slice_get row.values.items i)
slot_same row Start = day_same row.period.start.number
slot_same row End = day_same row.period.end.number
slot_same row SystemStart = instant_same row.system_start
slot_same row SystemEnd = end_same row.end

pub answer_same : (answer : Answer) → now.answer_text answer ≡ before.answer_text answer
unfolding now.answer_text before.answer_text
answer_same answer = λ i.
    (((codes "last " ++ instant_same answer.last i) ++ 10 ∷ []) ++ ((codes "columns " ++ join_with_byte 44 (map (λ (c : Column). c.name) answer.columns.items)) ++ 10 ∷ []))
    ++ (flat_map (λ (row : Shown). (codes "row " ++ join_with_byte 44 (map (λ (c : Column). slot_same row c.shows i) answer.columns.items)) ++ 10 ∷ []) answer.rows.items
    ++ ((codes "rows " ++ decimal (length answer.rows.items)) ++ 10 ∷ []))
