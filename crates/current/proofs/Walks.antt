-- Walks over the rows of a key.
use Rattle.std.proofs.Common.{◌≡◌, ℕ, ◌≤◌, true, false, refl, ap, ◌∙◌, List, [], ◌∷◌, ◌++◌, map, drop, length, arith}
use Rattle.std.proofs.lemmas.Bool.{and_left}
use Rattle.model.specs.Tables.{Row}
use Rattle.model.specs.Transactions.{Action, Insert, Update, Delete}
use Rattle.current.specs.declared.row.Row.{Row as Declared}
use Rattle.current.specs.Rows.{row_of}
use Rattle.rowlaws.specs.Touching.{rows_without}
use Rattle.current.specs.Corrections.{is_met, is_stuck, made, kept, removed_at, added_at}

pub unmet_in_range : (c : Action) (r : Row) → is_met c r ≡ false → is_stuck c r ≡ false
unmet_in_range (Insert key values p) r h = refl
unmet_in_range (Update passes p set) r h = and_left _ _ h
unmet_in_range (Delete passes p) r h = refl

-- a list that is seen as another with more at its end has as many elements, and the rest of it is seen as what is more
pub rows_more : (old new : List Declared) (more : List Row) → map row_of new ≡ map row_of old ++ more → length old ≤ length new
rows_more [] new more h = omega arith
rows_more (x ∷ old) [] more h = cc
rows_more (x ∷ old) (y ∷ new) more h = let rest = rows_more old new more (cc) in omega arith

pub rows_past : (old new : List Declared) (more : List Row) → map row_of new ≡ map row_of old ++ more → map row_of (drop (length old) new) ≡ more
rows_past [] new more h = h
rows_past (x ∷ old) [] more h = cc
rows_past (x ∷ old) (y ∷ new) more h = rows_past old new more (cc)

-- what a row that is met comes to
pub kept_met : (c : Action) (t : ℕ) (r : Row) → is_met c r ≡ true → kept c t r ≡ made c t r
kept_met c t r h = rw h refl

pub removed_met : (c : Action) (t : ℕ) (r : Row) → is_met c r ≡ true → removed_at c t r ≡ rows_without (r ∷ []) (made c t r)
removed_met c t r h = rw h refl

pub added_met : (c : Action) (t : ℕ) (r : Row) → is_met c r ≡ true → added_at c t r ≡ rows_without (made c t r) (r ∷ [])
added_met c t r h = rw h refl

-- the elements from the place where the old ones end are what is more
pub part_made : (old new slice part : List Declared) (more : List Row) (place : ℕ) → place ≡ length old → slice ≡ new → part ≡ drop place slice → map row_of new ≡ map row_of old ++ more → map row_of part ≡ more
part_made old new slice part more place at same is h =
    ap (map row_of) (is ∙ ap (λ n. drop n slice) at ∙ ap (drop (length old)) same) ∙ rows_past old new more h
