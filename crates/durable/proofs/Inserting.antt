-- INSERT of one entry behind the log.
use Rattle.std.proofs.Common.{◌≡◌, ℕ, ◌+◌, [], ◌∷◌, ◌++◌, length, None, Ok, refl, ap, subst, ◌∙◌}
use Rattle.sqlite.specs.Source.TheVariants.{Values}
use Rattle.sqlite.specs.Command.TheVariants.{Insert}
use Rattle.sqlite.specs.Edit.{edit_of, edited}
use Rattle.sqlite.specs.Rowids.TheVariants.{Chosen}
use Rattle.sqlite.specs.Does.{Tally, Does}
use Rattle.sqlite.specs.Rows.{Written}
use Rattle.sqlite.specs.Tree.{Trees, put_row}
use Rattle.sqlite.specs.Listing.{understood}
use Rattle.sqlite.specs.Effect.{Database}
use Rattle.sqlite.specs.State.{State, mode_of, Executes}
use Rattle.sqlite.proofs.Callers.{statement_of, runs_as, one_step}
use Rattle.durable.specs.Contents.{Item, Contents}
use Rattle.durable.specs.Tables.{log, schema}
use Rattle.durable.specs.Rows.{entry_row, entry_values, in_order, Holds}
use Rattle.durable.proofs.Places.{cast_int, cast_null, zero_one, two_one}
use Rattle.durable.proofs.Orders.{put_placed}
use Rattle.durable.proofs.Parts.{went, same_value}
use Rattle.durable.proofs.Meaning.{insert_text, insert_terms, insert_is, insert_plain}

pub inserts : (old new : State) (d : Contents) (e : Item) (count : ℕ) → Holds old.now d → Executes insert_text (entry_values (length d.log + 1) e) old new (Ok count)
    → Holds new.now (record d { log = d.log ++ e ∷ [] })
inserts old new d e count has h =
    let params = entry_values (length d.log + 1) e in
    let db = old.now.trees in
    let command = Insert 1 (Values insert_terms 7) in
    let w = runs_as insert_text params old new schema has.tables command insert_is insert_plain count h in
    let text = statement_of insert_text (understood schema insert_text) in
    let done = went (subst (λ s. Does old.step_limit (mode_of old) params (record old.now { schema = s }) text None command (Ok (w.tally, new.now))) has.tables w.changed) in
    let now = ap (λ (p : Tally × Database). p.1) (same_value (went (went done.2).2).2) in
    let given = went done.1 in
    let written = went (went given.2).2 in
    let counted = went written.2 in
    let trees : done.0.trees ≡ written.0 = ap (λ (it : Written). it.trees) (same_value counted.2) ∙ same_value counted.1 in
    let applied = one_step schema _ db written.0 (edit_of db log [] Chosen 0 given.0) refl written.1 in
    let edit : edited db (edit_of db log [] Chosen 0 given.0) ≡ put_row (entry_row (length d.log + 1) e) (db 1) = ap (λ all. edited db (edit_of db log [] Chosen 0 all)) given.1.1 ∙ simp (cast_int, cast_null) in
    let one = ap (λ (b : Database). in_order (b.trees 1)) now ∙ ap (λ (t : Trees). in_order (t 1)) trees ∙ ap in_order (applied.rows ∙ edit) ∙ put_placed d.log e (db 1) has.log in
    let zero = ap (λ (b : Database). b.trees 0) now ∙ ap (λ (t : Trees). t 0) trees ∙ applied.others 0 zero_one tt ∙ has.meta in
    let two = ap (λ (b : Database). b.trees 2) now ∙ ap (λ (t : Trees). t 2) trees ∙ applied.others 2 two_one tt ∙ has.floor in
    record { tables = ap (λ (b : Database). b.schema) now; meta = zero; log = one; floor = two }
