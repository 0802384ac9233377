-- The tables and the first rows of meta and floor are made.
use Rattle.std.proofs.Common.{◌≡◌, ℕ, List, [], ◌∷◌, false, None, Ok, refl, sym, ap, subst, ◌∙◌}
use Rattle.sqlite.specs.Table.{Table}
use Rattle.sqlite.specs.Schema.{Schema}
use Rattle.sqlite.specs.Source.TheVariants.{Values}
use Rattle.sqlite.specs.Command.TheVariants.{Insert, CreateTable}
use Rattle.sqlite.specs.Compile.{table_defined_by}
use Rattle.sqlite.specs.Edit.{edit_of, edited}
use Rattle.sqlite.specs.Rowids.TheVariants.{Chosen}
use Rattle.sqlite.specs.Change.{created, next_tree}
use Rattle.sqlite_catalog.specs.Change.{KeepsRows}
use Rattle.sqlite.specs.Does.{Tally, Does, lacks_sequence}
use Rattle.sqlite.specs.Rows.{Written}
use Rattle.sqlite.specs.Tree.{Trees}
use Rattle.sqlite.specs.Listing.{understood}
use Rattle.sqlite.specs.Effect.{Database}
use Rattle.sqlite.specs.State.{State, mode_of, Writes, Executes}
use Rattle.sqlite.proofs.Callers.{IsPlain, command_of, statement_of, runs_as, one_step}
use Rattle.durable.specs.Contents.{none_yet}
use Rattle.durable.specs.Tables.{meta, log, floor, no_schema, meta_schema, old_schema, schema}
use Rattle.durable.specs.Rows.{meta_row, floor_row, in_order, HoldsOld}
use Rattle.durable.specs.Steps.{Ran, Makes, IsBegun, IsBlank, IsRaised, HasFloor}
use Rattle.durable.proofs.Parts.{went, same_value}
use Rattle.durable.proofs.Places.{cast_int, cast_whole, cast_null, one_zero, zero_two, one_two}
use Rattle.durable.proofs.Meaning.{make_meta, make_log, first_meta, first_terms, make_meta_is, make_log_is, make_meta_plain, make_log_plain, first_meta_is, first_meta_plain, make_floor, first_floor, floor_terms, make_floor_is, make_floor_plain, first_floor_is, first_floor_plain}
use Rattle.durable.proofs.Floors.{raised_holds}

module _ (text : List ℕ) (from to : Schema) (table : Table) (command : command_of (understood from text) ≡ CreateTable) (statement : statement_of text (understood from text) ≡ text)
    (defined : table_defined_by text ≡ Ok table) (plain : IsPlain (understood from text)) (makes : created from table ≡ to) (alone : lacks_sequence to ≡ false) where
  creates : (old new : State) (count : ℕ) → old.now.schema ≡ from → Executes text [] old new (Ok count)
      → (new.now.schema ≡ to) × (new.now.trees (next_tree from) ≡ []) × KeepsRows from.tables old.now.trees new.now.trees
  creates old new count has h =
      let w = subst (λ t. Writes old new None CreateTable t [] count) statement (runs_as text [] old new from has CreateTable command plain count h) in
      let all = went w.changed in
      let first = went all.1 in
      let made = first.1 in
      let both : Ok made.table ≡ Ok table = sym made.defined ∙ defined in
      let same : made.table ≡ table = cc in
      let is : first.0.schema ≡ to = made.is ∙ ap (λ s. created s made.table) has ∙ ap (created from) same ∙ makes in
      let single : lacks_sequence first.0.schema ≡ false = ap lacks_sequence is ∙ alone in
      let now : new.now ≡ first.0 = ap (λ (p : Tally × Database). p.1) (same_value all.2) ∙ same_value (rw single at first.2) in (
        ap (λ (d : Database). d.schema) now ∙ is,
        ap (λ (d : Database). d.trees (next_tree from)) now ∙ subst (λ s. first.0.trees (next_tree s) ≡ []) has made.empty,
        subst (λ (d : Database). KeepsRows from.tables old.now.trees d.trees) (sym now) (subst (λ s. KeepsRows s.tables old.now.trees first.0.trees) has made.others),
      )

pub makes_meta : (old new : State) (count : ℕ) → old.now.schema ≡ no_schema → Executes make_meta [] old new (Ok count) → (new.now.schema ≡ meta_schema) × (new.now.trees 0 ≡ [])
makes_meta old new count has h =
    let all = creates make_meta no_schema meta_schema meta make_meta_is.0 make_meta_is.1 make_meta_is.2 make_meta_plain refl refl old new count has h in (all.0, all.1)

pub makes_log : (old new : State) (count : ℕ) → old.now.schema ≡ meta_schema → old.now.trees 0 ≡ [] → Executes make_log [] old new (Ok count) → (new.now.schema ≡ old_schema) × (new.now.trees 0 ≡ []) × (new.now.trees 1 ≡ [])
makes_log old new count has none h =
    let all = creates make_log meta_schema old_schema (record log { tree = 0 }) make_log_is.0 make_log_is.1 make_log_is.2 make_log_plain refl refl old new count has h in (all.0, all.2.0 ∙ none, all.1)

pub fills_meta : (old new : State) (count : ℕ) → old.now.schema ≡ old_schema → old.now.trees 0 ≡ [] → old.now.trees 1 ≡ [] → Executes first_meta [] old new (Ok count) → HoldsOld new.now none_yet
fills_meta old new count has none bare h =
    let db = old.now.trees in
    let command = Insert 0 (Values first_terms 4) in
    let w = runs_as first_meta [] old new old_schema has command first_meta_is first_meta_plain count h in
    let text = statement_of first_meta (understood old_schema first_meta) in
    let done = went (subst (λ s. Does old.step_limit (mode_of old) [] (record old.now { schema = s }) text None command (Ok (w.tally, new.now))) has w.changed) in
    let now = ap (λ (p : Tally × Database). p.1) (same_value (went (went done.2).2).2) in
    let given = went done.1 in
    let written = went (went given.2).2 in
    let counted = went written.2 in
    let trees : done.0.trees ≡ written.0 = ap (λ (it : Written). it.trees) (same_value counted.2) ∙ same_value counted.1 in
    let applied = one_step old_schema _ db written.0 (edit_of db meta [] Chosen 0 given.0) refl written.1 in
    let edit : edited db (edit_of db meta [] Chosen 0 given.0) ≡ meta_row 0 0 ∷ [] = ap (λ all. edited db (edit_of db meta [] Chosen 0 all)) given.1.1 ∙ rw none (simp (cast_int, cast_null)) in
    let zero = ap (λ (b : Database). b.trees 0) now ∙ ap (λ (t : Trees). t 0) trees ∙ applied.rows ∙ edit in
    let one = ap (λ (b : Database). b.trees 1) now ∙ ap (λ (t : Trees). t 1) trees ∙ applied.others 1 one_zero tt ∙ bare in
    record { tables = ap (λ (b : Database). b.schema) now; meta = zero; log = ap in_order one; floor = refl }

-- the three statements in turn
pub tables_begun : (a b c d : State) → Ran a b make_meta → Ran b c make_log → Ran c d first_meta → Makes a d IsBegun
tables_begun a b c d one two three = record {
  was_open = one.ran.1.was_open;
  is_open = three.ran.1.is_open;
  is_in = three.ran.1.mode;
  committed = three.ran.1.committed_is ∙ two.ran.1.committed_is ∙ one.ran.1.committed_is;
  made = λ none.
      let first = makes_meta a b one.count none one.ran.0 in
      let second = makes_log b c two.count first.0 first.1 two.ran.0 in
      fills_meta c d three.count second.0 second.1 second.2 three.ran.0;
}

makes_floor : (old new : State) (count : ℕ) → old.now.schema ≡ old_schema → Executes make_floor [] old new (Ok count)
    → (new.now.schema ≡ schema) × (new.now.trees 2 ≡ []) × (new.now.trees 0 ≡ old.now.trees 0) × (new.now.trees 1 ≡ old.now.trees 1)
makes_floor old new count has h =
    let all = creates make_floor old_schema schema (record floor { tree = 0 }) make_floor_is.0 make_floor_is.1 make_floor_is.2 make_floor_plain refl refl old new count has h in (all.0, all.1, all.2.0, all.2.1.0)

fills_floor : (old new : State) (count : ℕ) → old.now.schema ≡ schema → old.now.trees 2 ≡ [] → Executes first_floor [] old new (Ok count) → HasFloor old.now new.now
fills_floor old new count has none h =
    let db = old.now.trees in
    let command = Insert 2 (Values floor_terms 3) in
    let w = runs_as first_floor [] old new schema has command first_floor_is first_floor_plain count h in
    let text = statement_of first_floor (understood schema first_floor) in
    let done = went (subst (λ s. Does old.step_limit (mode_of old) [] (record old.now { schema = s }) text None command (Ok (w.tally, new.now))) has w.changed) in
    let now = ap (λ (p : Tally × Database). p.1) (same_value (went (went done.2).2).2) in
    let given = went done.1 in
    let written = went (went given.2).2 in
    let counted = went written.2 in
    let trees : done.0.trees ≡ written.0 = ap (λ (it : Written). it.trees) (same_value counted.2) ∙ same_value counted.1 in
    let applied = one_step schema _ db written.0 (edit_of db floor [] Chosen 0 given.0) refl written.1 in
    let edit : edited db (edit_of db floor [] Chosen 0 given.0) ≡ floor_row None ∷ [] = ap (λ all. edited db (edit_of db floor [] Chosen 0 all)) given.1.1 ∙ rw none (simp (cast_whole, cast_null)) in
    let zero = ap (λ (b : Database). b.trees 0) now ∙ ap (λ (t : Trees). t 0) trees ∙ applied.others 0 zero_two tt in
    let one = ap (λ (b : Database). b.trees 1) now ∙ ap (λ (t : Trees). t 1) trees ∙ applied.others 1 one_two tt in
    let two = ap (λ (b : Database). b.trees 2) now ∙ ap (λ (t : Trees). t 2) trees ∙ applied.rows ∙ edit in
    record { tables = ap (λ (b : Database). b.schema) now; meta = zero; log = one; floor = two }

-- the two statements in turn
pub floor_added : (a b c : State) → Ran a b make_floor → Ran b c first_floor → Makes a c IsRaised
floor_added a b c one two = record {
  was_open = one.ran.1.was_open;
  is_open = two.ran.1.is_open;
  is_in = two.ran.1.mode;
  committed = two.ran.1.committed_is ∙ one.ran.1.committed_is;
  made = λ has.
      let first = makes_floor a b one.count has one.ran.0 in
      let second = fills_floor b c two.count first.0 first.1 two.ran.0 in
      record { tables = second.tables; meta = second.meta ∙ first.2; log = second.log ∙ first.3; floor = second.floor };
}

pub all_made : (a b c : State) → Makes a b IsBegun → Makes b c IsRaised → Makes a c IsBlank
all_made a b c one two = record {
  was_open = one.was_open;
  is_open = two.is_open;
  is_in = two.is_in;
  committed = two.committed ∙ one.committed;
  made = λ none.
      let held = one.made none in
      raised_holds b.now c.now none_yet held (two.made held.tables);
}
