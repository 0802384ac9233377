-- An answer's text follows from its columns and from what the definitions see of it.
use Rattle.std.proofs.Common.{◌≡◌, ◌∙◌, ℕ, List, [], ◌∷◌, ◌++◌, map, length, refl, sym}
use Rattle.std.specs.Prelude.{codes, slice_get}
use Rattle.std.specs.List.{flat_map}
use Rattle.std.proofs.lemmas.List.{length-map}
use Rattle.period.specs.Day.{day_text}
use Rattle.period.specs.Instant.{instant_text}
use Rattle.model.specs.Answers.{Answer as ModelAnswer, Shown as ModelShown}
use Rattle.answer.specs.declared.Shows.{Shows}
use Rattle.answer.specs.declared.Shows.TheVariants.{Key, Value, Start, End, SystemStart, SystemEnd}
use Rattle.answer.specs.declared.Column.{Column}
use Rattle.answer.specs.declared.Shown.{Shown}
use Rattle.answer.specs.declared.Answer.{Answer}
use Rattle.answer.specs.Answers.{answer_of, shown_of}
use Rattle.answertext.specs.Answers.{answer_text, slot_text, count_text, end_text, heading_text, joined, line, optional_text, row_text}

abbrev cell_of : ModelShown → Shows → List ℕ
cell_of s (Key i) = optional_text (slice_get s.row.key i)
cell_of s (Value i) = optional_text (slice_get s.row.values i)
cell_of s Start = day_text s.row.period.start
cell_of s End = day_text s.row.period.end
cell_of s SystemStart = instant_text s.row.system_start
cell_of s SystemEnd = end_text s.end

same_cell : (s : Shown) (c : Shows) → slot_text s c ≡ cell_of (shown_of s) c
same_cell s (Key i) = refl
same_cell s (Value i) = refl
same_cell s Start = refl
same_cell s End = refl
same_cell s SystemStart = refl
same_cell s SystemEnd = refl

same_cells : (s : Shown) (columns : List Column) → map (λ (c : Column). slot_text s c.shows) columns ≡ map (λ (c : Column). cell_of (shown_of s) c.shows) columns
same_cells s [] = refl
same_cells s (c ∷ columns) = λ i. same_cell s c.shows i ∷ same_cells s columns i

abbrev rows_of : List Column → List ModelShown → List ℕ
rows_of columns [] = []
rows_of columns (s ∷ rows) = line (codes "row " ++ joined (map (λ (c : Column). cell_of s c.shows) columns)) ++ rows_of columns rows

same_rows : (columns : List Column) (rows : List Shown) → flat_map (row_text columns) rows ≡ rows_of columns (map shown_of rows)
same_rows columns [] = refl
same_rows columns (s ∷ rows) = λ i. line (codes "row " ++ joined (same_cells s columns i)) ++ same_rows columns rows i

abbrev text_of : List Column → ModelAnswer → List ℕ
text_of columns a = heading_text a.last columns ++ (rows_of columns a.rows ++ count_text (length a.rows))

text_is : (a : Answer) → answer_text a ≡ text_of a.columns.items (answer_of a)
unfolding answer_text
text_is a = λ i. heading_text a.last a.columns.items ++ (same_rows a.columns.items a.rows.items i ++ count_text (sym (length-map a.rows.items shown_of) i))

pub same_text : (a b : Answer) → answer_of a ≡ answer_of b → a.columns.items ≡ b.columns.items → answer_text a ≡ answer_text b
same_text a b same columns = text_is a ∙ (λ i. text_of (columns i) (same i)) ∙ sym (text_is b)
