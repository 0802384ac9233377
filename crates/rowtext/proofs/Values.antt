-- The lines of values, and of what statements have of them.
use Rattle.std.proofs.Common.{◌≡◌, ℕ, pos, negsuc, suc, ◌∷◌, ◌++◌, codes, refl, sym}
use Rattle.std.proofs.lemmas.Bool.{eq-eqb, ne_eqb}
use Rattle.std.specs.Prelude.{decimal}
use Rattle.model.specs.declared.value.Value.{Value as RowValue}
use Rattle.model.specs.declared.value.Value.TheVariants as value
use Rattle.model.specs.Texts.{doubled, value_text}
use Rattle.period.specs.Day.{day_text}
use Rattle.schema.specs.Shape.{TableShape}
use Rattle.sqltokens.specs.What.{Symbol}
use Rattle.namesyntax.specs.Names.{Bytes}
use Rattle.sqlsyntax.specs.Shared.{literal, comparison, operator_sign}
use Rattle.sqlsyntax.specs.Transactions.{assignment}
use Rattle.sqlchecks.specs.declared.comparison.Comparison.{Comparison}
use Rattle.sqlchecks.specs.declared.field.Field.TheVariants as field
use Rattle.sqlread.specs.declared.statement.Assignment.{Assignment}
use Rattle.sqlread.specs.declared.statement.NewValue.TheVariants as values
use Rattle.sqlread.specs.Shapes.{InsertShape}
use Rattle.rowtext.specs.Spacing.{Start, line, token_text}
use Rattle.rowtext.specs.Transactions.{literal_of, cell_of, field_name, comparison_of, assignment_of}
use Rattle.rowtext.proofs.Spaced.{date_line, text_line, number_line, minus_line, comparison_line, plus_line, less_line, set_line, literal_text}

pub day_written : (v : RowValue) (d : ℕ) → v ≡ value.Day d → codes "DATE '" ++ (value_text v ++ codes "'") ≡ line Start (literal.spell (literal_of v))
day_written (value.Day d) n e = sym (date_line (value_text (value.Day d)))
day_written (value.Text t) n e = absurd cc
day_written (value.Number n) m e = absurd cc

pub other_written : (v : RowValue) → ((d : ℕ) → v ≡ value.Day d → ⊥) → value_text v ≡ line Start (literal.spell (literal_of v))
other_written (value.Day d) not = absurd (not d refl)
other_written (value.Text t) not = sym (text_line (doubled t))
other_written (value.Number (pos n)) not = sym (number_line (decimal n))
other_written (value.Number (negsuc n)) not = sym (minus_line (decimal (suc n)))

pub start_written : (table : TableShape) (row : InsertShape) (c : ℕ) → c ≡ table.start
    → codes "DATE '" ++ (day_text row.period.start ++ codes "'") ≡ line Start (literal.spell (cell_of table row c))
start_written table row c e = rw (eq-eqb c table.start e) (sym (date_line (day_text row.period.start)))

pub end_written : (table : TableShape) (row : InsertShape) (c : ℕ) → (c ≡ table.start → ⊥) → c ≡ table.end
    → codes "DATE '" ++ (day_text row.period.end ++ codes "'") ≡ line Start (literal.spell (cell_of table row c))
end_written table row c n e = rw (ne_eqb c table.start n, eq-eqb c table.end e) (sym (date_line (day_text row.period.end)))

pub comparison_written : (table : TableShape) (c : Comparison) (name operator : Bytes) → name ≡ field_name table c.field → operator ≡ token_text (Symbol (operator_sign c.operator))
    → name ++ (32 ∷ (operator ++ (32 ∷ literal_text (literal_of c.value)))) ≡ line Start (comparison.spell (comparison_of table c))
comparison_written table c name operator e f = rw (e, f) (sym (comparison_line (field_name table c.field) c.operator (literal_of c.value)))

pub set_written : (table : TableShape) (a : Assignment) (name : Bytes) (v : RowValue) → name ≡ field_name table (field.Value a.place) → a.value ≡ values.Literal v
    → name ++ (codes " = " ++ literal_text (literal_of v)) ≡ line Start (assignment.spell (assignment_of table a))
set_written table a name v e f = rw (e, f) (sym (set_line (field_name table (field.Value a.place)) (literal_of v)))

pub plus_written : (table : TableShape) (a : Assignment) (name : Bytes) (n : ℕ) → name ≡ field_name table (field.Value a.place) → a.value ≡ values.Plus n
    → name ++ (codes " = " ++ (name ++ (codes " + " ++ decimal n))) ≡ line Start (assignment.spell (assignment_of table a))
plus_written table a name n e f = rw (e, f) (sym (plus_line (field_name table (field.Value a.place)) (decimal n)))

pub less_written : (table : TableShape) (a : Assignment) (name : Bytes) (n : ℕ) → name ≡ field_name table (field.Value a.place) → a.value ≡ values.Minus n
    → name ++ (codes " = " ++ (name ++ (codes " - " ++ decimal n))) ≡ line Start (assignment.spell (assignment_of table a))
less_written table a name n e f = rw (e, f) (sym (less_line (field_name table (field.Value a.place)) (decimal n)))
