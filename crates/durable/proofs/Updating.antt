-- UPDATE of the one row of meta.
use Rattle.std.proofs.Common.{◌≡◌, ℕ, pos, List, [], ◌∷◌, map, None, Ok, refl, ap, subst, ◌∙◌}
use Rattle.std.specs.List.Sorted.{IsPermutation}
use Rattle.sqlite.specs.declared.types.Value.TheVariants.{Null, Int}
use Rattle.sqlite.specs.Order.{Row}
use Rattle.sqlite.specs.Command.TheVariants.{Update}
use Rattle.sqlite.specs.Query.{IsAnswer, output, page, Output}
use Rattle.sqlite.specs.Program.{overlay}
use Rattle.sqlite.specs.Edit.{edit_of, edited}
use Rattle.sqlite.specs.Rowids.TheVariants.{Given}
use Rattle.sqlite_rules.specs.Calls.{ids_of}
use Rattle.sqlite.specs.Does.{Tally, Does}
use Rattle.sqlite.specs.Rows.{Written}
use Rattle.sqlite.specs.Tree.{Trees}
use Rattle.sqlite.specs.Listing.{understood}
use Rattle.sqlite.specs.Effect.{Database}
use Rattle.sqlite.specs.State.{State, mode_of, Executes}
use Rattle.sqlite.proofs.Callers.{statement_of, runs_as, one_step, one_permutation}
use Rattle.sqlite_value.proofs.OrderLemmas.{value_cmp-Int}
use Rattle.durable.specs.Contents.{Contents}
use Rattle.durable.specs.Tables.{meta, schema}
use Rattle.durable.specs.Rows.{meta_row, in_order, Holds}
use Rattle.durable.proofs.Parts.{went, same_value}
use Rattle.durable.proofs.Places.{cast_int, cast_null, one_zero, two_zero}
use Rattle.durable.proofs.Meaning.{update_all_text, update_query, update_is, update_plain}

-- the rows that the UPDATE reads: the old number, and the new row
answer : (db : Trees) (term vote t v : ℕ) (rows : List Row) → db 0 ≡ meta_row term vote ∷ [] → IsAnswer update_query (overlay db []) (Int (pos t) ∷ Int (pos v) ∷ []) rows
    → rows ≡ (Int (pos 1) ∷ meta_row t v) ∷ []
answer db term vote t v rows has a =
    let params : Row = Int (pos t) ∷ Int (pos v) ∷ [] in
    let staged : a.staged ≡ (params ∷ meta_row term vote ∷ []) ∷ [] = a.grouped ∙ rw has in
    let o : Output = ([], Int (pos 1) ∷ meta_row t v) in
    let kept : a.kept ≡ o ∷ [] = a.distinct ∙ ap (map (output update_query)) staged in
    let ordered = one_permutation o a.ordered (subst (λ k. IsPermutation k a.ordered) kept a.same) in
    a.shown ∙ ap (λ xs. page update_query params (map (λ (p : Output). p.1) xs)) ordered

replaced : (db : Trees) (term vote t v : ℕ) → db 0 ≡ meta_row term vote ∷ [] → edited db (edit_of db meta (ids_of ((Int (pos 1) ∷ meta_row t v) ∷ [])) Given 1 ((Int (pos 1) ∷ meta_row t v) ∷ [])) ≡ meta_row t v ∷ []
replaced db term vote t v has = rw has (simp (value_cmp-Int, cast_int, cast_null))

pub updates : (old new : State) (d : Contents) (t v : ℕ) (count : ℕ) → Holds old.now d → Executes update_all_text (Int (pos t) ∷ Int (pos v) ∷ []) old new (Ok count)
    → Holds new.now (record d { term = t; vote = v })
updates old new d t v count has h =
    let params : Row = Int (pos t) ∷ Int (pos v) ∷ [] in
    let db = old.now.trees in
    let command = Update 0 (record { lets = []; body = update_query }) in
    let w = runs_as update_all_text params old new schema has.tables command update_is update_plain count h in
    let text = statement_of update_all_text (understood schema update_all_text) in
    let done = went (subst (λ s. Does old.step_limit (mode_of old) params (record old.now { schema = s }) text None command (Ok (w.tally, new.now))) has.tables w.changed) in
    let now = ap (λ (p : Tally × Database). p.1) (same_value (went (went done.2).2).2) in
    let queried = went done.1 in
    let rows = answer db d.term d.vote t v queried.0 has.meta (queried.1.answer Null) in
    let written = went queried.2 in
    let trees : done.0.trees ≡ written.0 = ap (λ (it : Written). it.trees) (same_value written.2) in
    let applied = one_step schema _ db written.0 (edit_of db meta (ids_of queried.0) Given 1 queried.0) refl written.1 in
    let edit = applied.rows ∙ ap (λ all. edited db (edit_of db meta (ids_of all) Given 1 all)) rows ∙ replaced db d.term d.vote t v has.meta in
    let zero = ap (λ (b : Database). b.trees 0) now ∙ ap (λ (x : Trees). x 0) trees ∙ edit in
    let one = ap (λ (b : Database). in_order (b.trees 1)) now ∙ ap (λ (x : Trees). in_order (x 1)) trees ∙ ap in_order (applied.others 1 one_zero tt) ∙ has.log in
    let two = ap (λ (b : Database). b.trees 2) now ∙ ap (λ (x : Trees). x 2) trees ∙ applied.others 2 two_zero tt ∙ has.floor in
    record { tables = ap (λ (b : Database). b.schema) now; meta = zero; log = one; floor = two }
