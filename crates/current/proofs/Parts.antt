-- The parts that the code makes of a row are those of the definitions.
use Rattle.std.proofs.Common.{◌≡◌, ℕ, Bool, true, false, ◌&&◌, List, ◌++◌, Option, Some, None, unwrap_or, refl, sym, ap, ◌∙◌, Bor}
use Rattle.std.specs.Prelude.{nat_lt, nat_le, is_none, IsTrue}
use Rattle.period.specs.declared.period.Period.{Period as Declared}
use Rattle.model.specs.declared.value.Value.{Value}
use Rattle.model.specs.Tables.{inside}
use Rattle.model.specs.Periods.{period_of, has_day}
use Rattle.model.specs.Statements.{meets}
use Rattle.rowlaws.specs.Parts.{PartsOfUpdate, PartsOfDelete, AreParts, row_of_part}
use Rattle.sqlchecks.specs.declared.comparison.Comparison.{Comparison}
use Rattle.sqlchecks.specs.Comparisons.{passes_all}
use Rattle.sqlread.specs.declared.statement.Assignment.{Assignment}
use Rattle.sqlread.specs.Meaning.{set_of}
use Rattle.current.specs.declared.row.Row.{Row as DeclaredRow}
use Rattle.current.specs.Rows.{row_of}
use Rattle.current.specs.Corrections.{correction_action, AreSet, new_part, is_met, is_stuck, made}

pub record AreDays (x p : Declared) (before within after : Option Declared) : Type 0 where
  pub before_days : (d : ℕ) → has_day before d ≡ (inside (period_of x) d && nat_lt d p.start.number)
  pub within_days : (d : ℕ) → has_day within d ≡ (inside (period_of x) d && inside (period_of p) d)
  pub after_days : (d : ℕ) → has_day after d ≡ (inside (period_of x) d && nat_le p.end.number d)

are_parts : (x p : Declared) (before within after : Option Declared) → AreDays x p before within after → AreParts (period_of x) (period_of p) before within after
are_parts x p before within after h = record {
  before_days = λ d. h.before_days d;
  within_days = λ d. h.within_days d;
  after_days = λ d. h.after_days d;
}

stuck_not : (b : Bool) (o : Option (List Value)) (a : List Value) → o ≡ Some a → (b && is_none o) ≡ false
stuck_not true o a h = rw h refl
stuck_not false o a h = refl

pub parts_are : PartsOfUpdate → PartsOfDelete → (conditions : List Comparison) (p : Declared) (assignments : Option (Bor (List Assignment))) (t : ℕ) (row : DeclaredRow) (before within after : Option Declared) (new : Option (List Value))
    → IsTrue (is_met (correction_action conditions (period_of p) assignments) (row_of row)) → AreSet assignments (row_of row).values new → AreDays row.period p before within after
    → (row_of_part (row_of row) before (row_of row).values t ++ (new_part (row_of row) within new t ++ row_of_part (row_of row) after (row_of row).values t) ≡ made (correction_action conditions (period_of p) assignments) t (row_of row))
    × (is_stuck (correction_action conditions (period_of p) assignments) (row_of row) ≡ false)
parts_are of_update of_delete conditions p None t row before within after new met set days =
    let none : new ≡ None = set in (
      ap (λ n. row_of_part (row_of row) before (row_of row).values t ++ (new_part (row_of row) within n t ++ row_of_part (row_of row) after (row_of row).values t)) none
          ∙ of_delete (passes_all conditions) (row_of row) (period_of p) before within after t row.period.ordered p.ordered met (are_parts row.period p before within after days),
      refl,
    )
parts_are of_update of_delete conditions p (Some assignments) t row before within after None met set days = let some = set.1 in cc
parts_are of_update of_delete conditions p (Some assignments) t row before within after (Some values) met set days =
    let is : set_of assignments.now (row_of row).values ≡ Some values = sym set.0 in
    let new : values ≡ unwrap_or (set_of assignments.now (row_of row).values) (row_of row).values = rw is refl in (
      ap (λ vs. row_of_part (row_of row) before (row_of row).values t ++ (row_of_part (row_of row) within vs t ++ row_of_part (row_of row) after (row_of row).values t)) new
          ∙ of_update (passes_all conditions) (row_of row) (period_of p) before within after (set_of assignments.now) t row.period.ordered p.ordered met (are_parts row.period p before within after days),
      stuck_not (meets (passes_all conditions) (period_of p) (row_of row)) _ values is,
    )
