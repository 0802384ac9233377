-- UPDATE of the one row of floor.
use Rattle.std.proofs.Common.{◌≡◌, ℕ, pos, Option, List, [], ◌∷◌, map, None, Ok, refl, ap, subst, ◌∙◌}
use Rattle.std.specs.List.Sorted.{IsPermutation}
use Rattle.sqlite.specs.declared.types.Value.TheVariants.{Null, Int}
use Rattle.sqlite.specs.Order.{Row}
use Rattle.sqlite.specs.Command.TheVariants.{Update}
use Rattle.sqlite.specs.Query.{IsAnswer, output, page, Output}
use Rattle.sqlite.specs.Program.{overlay}
use Rattle.sqlite.specs.Edit.{edit_of, edited}
use Rattle.sqlite.specs.Rowids.TheVariants.{Given}
use Rattle.sqlite_rules.specs.Calls.{ids_of}
use Rattle.sqlite.specs.Does.{Tally, Does}
use Rattle.sqlite.specs.Rows.{Written}
use Rattle.sqlite.specs.Tree.{Trees}
use Rattle.sqlite.specs.Listing.{understood}
use Rattle.sqlite.specs.Effect.{Database}
use Rattle.sqlite.specs.State.{State, mode_of, Executes}
use Rattle.sqlite.proofs.Callers.{statement_of, runs_as, one_step, one_permutation}
use Rattle.sqlite_value.proofs.OrderLemmas.{value_cmp-Int}
use Rattle.durable.specs.Contents.{Contents, number_of_floor}
use Rattle.durable.specs.Tables.{floor, schema}
use Rattle.durable.specs.Rows.{floor_row, in_order, Holds}
use Rattle.durable.proofs.Parts.{went, same_value}
use Rattle.durable.proofs.Places.{cast_whole, cast_null, zero_two, one_two}
use Rattle.durable.proofs.Meaning.{update_floor_text, floor_update, floor_update_is, floor_update_plain}

-- the rows that the UPDATE reads: the old number, and the new row
answer : (db : Trees) (was t : Option ℕ) (rows : List Row) → db 2 ≡ floor_row was ∷ [] → IsAnswer floor_update (overlay db []) (Int (number_of_floor t) ∷ []) rows → rows ≡ (Int (pos 1) ∷ floor_row t) ∷ []
answer db was t rows has a =
    let params : Row = Int (number_of_floor t) ∷ [] in
    let staged : a.staged ≡ (params ∷ floor_row was ∷ []) ∷ [] = a.grouped ∙ rw has in
    let o : Output = ([], Int (pos 1) ∷ floor_row t) in
    let kept : a.kept ≡ o ∷ [] = a.distinct ∙ ap (map (output floor_update)) staged in
    let ordered = one_permutation o a.ordered (subst (λ k. IsPermutation k a.ordered) kept a.same) in
    a.shown ∙ ap (λ xs. page floor_update params (map (λ (p : Output). p.1) xs)) ordered

replaced : (db : Trees) (was t : Option ℕ) → db 2 ≡ floor_row was ∷ [] → edited db (edit_of db floor (ids_of ((Int (pos 1) ∷ floor_row t) ∷ [])) Given 1 ((Int (pos 1) ∷ floor_row t) ∷ [])) ≡ floor_row t ∷ []
replaced db was t has = rw has (simp (value_cmp-Int, cast_whole, cast_null))

pub floor_updates : (old new : State) (d : Contents) (t : Option ℕ) (count : ℕ) → Holds old.now d → Executes update_floor_text (Int (number_of_floor t) ∷ []) old new (Ok count) → Holds new.now (record d { floor = t })
floor_updates old new d t count has h =
    let params : Row = Int (number_of_floor t) ∷ [] in
    let db = old.now.trees in
    let command = Update 2 (record { lets = []; body = floor_update }) in
    let w = runs_as update_floor_text params old new schema has.tables command floor_update_is floor_update_plain count h in
    let text = statement_of update_floor_text (understood schema update_floor_text) in
    let done = went (subst (λ s. Does old.step_limit (mode_of old) params (record old.now { schema = s }) text None command (Ok (w.tally, new.now))) has.tables w.changed) in
    let now = ap (λ (p : Tally × Database). p.1) (same_value (went (went done.2).2).2) in
    let queried = went done.1 in
    let rows = answer db d.floor t queried.0 has.floor (queried.1.answer Null) in
    let written = went queried.2 in
    let trees : done.0.trees ≡ written.0 = ap (λ (it : Written). it.trees) (same_value written.2) in
    let applied = one_step schema _ db written.0 (edit_of db floor (ids_of queried.0) Given 1 queried.0) refl written.1 in
    let edit = applied.rows ∙ ap (λ all. edited db (edit_of db floor (ids_of all) Given 1 all)) rows ∙ replaced db d.floor t has.floor in
    let zero = ap (λ (b : Database). b.trees 0) now ∙ ap (λ (x : Trees). x 0) trees ∙ applied.others 0 zero_two tt ∙ has.meta in
    let one = ap (λ (b : Database). in_order (b.trees 1)) now ∙ ap (λ (x : Trees). in_order (x 1)) trees ∙ ap in_order (applied.others 1 one_two tt) ∙ has.log in
    let two = ap (λ (b : Database). b.trees 2) now ∙ ap (λ (x : Trees). x 2) trees ∙ edit in
    record { tables = ap (λ (b : Database). b.schema) now; meta = zero; log = one; floor = two }
