-- From the rows to the log, and back.
use Rattle.std.proofs.Common.{MatchOption, ◌≡◌, ℕ, suc, ◌+◌, ◌<◌, ◌≤◌, true, Option, Some, None, List, [], ◌∷◌, length, map, vec_len, arith, rules, refl, sym, ap, subst, ◌∙◌}
use Rattle.std.proofs.lemmas.List.{length-map}
use Rattle.std.specs.declared.alloc.Global.{Global}
use Rattle.std.specs.declared.vec.Vec.{Vec}
use Rattle.sqlite.specs.Order.{Row}
use Rattle.sqlite.specs.Effect.{Database, IsDatabase}
use Rattle.sqlite_catalog.specs.Listing.{IsSound}
use Rattle.model.specs.declared.entry.Entry.{Entry}
use Rattle.model.specs.Transactions.{Language}
use Rattle.model.specs.Steps.{is_floor, TERM_LAST}
use Rattle.keep.specs.Durable.{Durable}
use Rattle.keep.specs.Log.{is_vote}
use Rattle.durable.specs.Contents.{Item, items_of, contents_of, number_of_vote, vote_in}
use Rattle.durable.specs.Tables.{schema, meta, floor}
use Rattle.durable.specs.Rows.{meta_row, meta_values, shown_meta, floor_row, floor_values, shown_floor, Holds, shown_entry, shown_log, log_rows, in_order}
use Rattle.durable.specs.Judging.{Forms, Go, HasHard, IsNoLog, IsFound}
use Rattle.durable.specs.declared.judging.Meta.{Meta}
use Rattle.std.specs.List.Sorted.{IsPermutation}
use Rattle.sqlite.proofs.Callers.{one_permutation}
use Rattle.keep.specs.declared.hard_state.HardState.{HardState}
use Rattle.durable.proofs.WholeTables.{log_rows_are, log_typed, AreTyped, only_row, meta_typed, meta_row_is, floor_typed, floor_row_is}
use Rattle.durable.proofs.Judged.{forms_of, goes, all_entries, go_from}

shown_count : (i : ℕ) (es : List Item) → length (shown_log i es) ≡ length es
shown_count i [] = refl
shown_count i (e ∷ es) = ap suc (shown_count (i + 1) es)

pub found_log : (db : Database) (members : ℕ) (tables : Language) (h : HardState) (rows : List Row) (es : List Entry) → db.schema ≡ schema → IsDatabase db → HasHard db h → is_vote members h.vote ≡ true → IsPermutation (map shown_entry (db.trees 1)) rows → length rows ≤ 100000
    → rows ≡ shown_log 1 (items_of es) → Go tables h.term 0 0 es → IsFound db members tables es
found_log db members tables h rows es has sound hard vote shown short listed go =
    let sound_ours : IsSound schema db.trees = subst (λ s. IsSound s db.trees) has sound in
    let log = log_rows_are (db.trees 1) rows (items_of es) (log_typed db.trees sound_ours) shown listed in
    let counted : length rows ≡ length es = ap length listed ∙ shown_count 1 (items_of es) ∙ length-map es _ in
    let passed = all_entries tables h.term 0 0 es go in
    record {
      d = record { hard = h; log = es };
      holds = record { tables = has; meta = hard.meta; log = log; floor = hard.floor };
      forms = record { term = hard.term; vote = vote; floor = hard.instant; room = omega (arith, counted); rises = goes tables h.term None es go; entries = passed.0 };
      texts = passed.1;
      read = refl;
    }

-- one row tells the term and the vote
same_meta : (t v t' v' : ℕ) → ◌≡◌ {A = List Row} (meta_row t v ∷ []) (meta_row t' v' ∷ []) → (t ≡ t') × (v ≡ v')
same_meta t v t' v' is = (cc, cc)

module _ (db : Database) (members : ℕ) (tables : Language) (h : HardState) (hard : HasHard db h) where
  module _ (rows : List Row) (shown : (es : List Item) → in_order (db.trees 1) ≡ log_rows 1 es → rows ≡ shown_log 1 es) where
    listed : (d : Durable) → Holds db (contents_of d) → rows ≡ shown_log 1 (items_of d.log)
    listed d holds = shown (items_of d.log) holds.log

    pub no_room : 100000 < length rows → IsNoLog db members tables
    no_room long d holds forms texts =
        let counted : length rows ≡ length d.log = ap length (listed d holds) ∙ shown_count 1 (items_of d.log) ∙ length-map d.log _ in
        let room : length d.log ≤ 100000 = forms.room in
        absurd (omega (arith, counted, room, long))

    pub no_form : (Forms tables h.term 1 0 0 rows → ⊥) → IsNoLog db members tables
    no_form none d holds forms texts =
        let term = (same_meta d.hard.term (number_of_vote d.hard.vote) h.term (number_of_vote h.vote) (sym holds.meta ∙ hard.meta)).0 in
        none (subst (λ top. Forms tables top 1 0 0 rows) term (forms_of tables d.hard.term 1 0 0 rows d.log (listed d holds) (go_from tables d.hard.term None d.log forms.rises forms.entries texts)))

-- what is told of the rows tells of the log
pub judged : (db : Database) (members : ℕ) (tables : Language) (h : HardState) (rows : List Row) (o : Option (Vec Entry Global)) → db.schema ≡ schema → IsDatabase db → HasHard db h → is_vote members h.vote ≡ true
    → IsPermutation (map shown_entry (db.trees 1)) rows → ((es : List Item) → in_order (db.trees 1) ≡ log_rows 1 es → rows ≡ shown_log 1 es) → length rows ≤ 100000
    → MatchOption o (Forms tables h.term 1 0 0 rows → ⊥) (λ log. (rows ≡ shown_log 1 (items_of log.items)) × Go tables h.term 0 0 log.items)
    → MatchOption o (IsNoLog db members tables) (λ log. IsFound db members tables log.items)
judged db members tables h rows None has sound hard vote same shown short told = no_form db members tables h hard rows shown told
judged db members tables h rows (Some log) has sound hard vote same shown short told = found_log db members tables h rows log.items has sound hard vote same short told.0 told.1

-- the log is as short as its rows are few
pub judged_short : (tables : Language) (top : ℕ) (rows : List Row) (o : Option (Vec Entry Global)) → length rows ≤ 100000
    → MatchOption o (Forms tables top 1 0 0 rows → ⊥) (λ log. (rows ≡ shown_log 1 (items_of log.items)) × Go tables top 0 0 log.items)
    → MatchOption o (Unit {0}) (λ log. vec_len log ≤ 100000)
judged_short tables top rows None short told = tt
judged_short tables top rows (Some log) short told =
    let counted : length rows ≡ length log.items = ap length told.0 ∙ shown_count 1 (items_of log.items) ∙ length-map log.items _ in
    let long : vec_len log ≡ length log.items = search rules in
    omega (arith, counted, long)

pub meta_told : (db : Database) (rows : List Row) (o : Option Meta) → IsDatabase db → db.schema ≡ schema → IsPermutation (map shown_meta (db.trees 0)) rows
    → MatchOption o ((t v : ℕ) → rows ≡ meta_values t v ∷ [] → t ≤ TERM_LAST → ⊥) (λ m. (rows ≡ meta_values m.term (number_of_vote m.vote) ∷ []) × (m.term ≤ TERM_LAST) × (vote_in (number_of_vote m.vote) ≡ m.vote))
    → MatchOption o ((t v : ℕ) → db.trees 0 ≡ meta_row t v ∷ [] → t ≤ TERM_LAST → ⊥) (λ m. (db.trees 0 ≡ meta_row m.term (number_of_vote m.vote) ∷ []) × (m.term ≤ TERM_LAST) × (vote_in (number_of_vote m.vote) ≡ m.vote))
meta_told db rows None sound has same told = λ t v is low. told t v (one_permutation (meta_values t v) rows (subst (λ l. IsPermutation l rows) (ap (map shown_meta) is) same)) low
meta_told db rows (Some m) sound has same told =
    let one = only_row shown_meta (db.trees 0) rows (meta_values m.term (number_of_vote m.vote)) same told.0 in
    let typed = subst (AreTyped meta) one.1 (meta_typed db.trees (subst (λ s. IsSound s db.trees) has sound)) in
    (one.1 ∙ ap (λ r. r ∷ []) (meta_row_is one.0 m.term (number_of_vote m.vote) typed.0 one.2), told.1, told.2)

pub floor_told : (db : Database) (rows : List Row) (o : Option (Option ℕ)) → IsDatabase db → db.schema ≡ schema → IsPermutation (map shown_floor (db.trees 2)) rows
    → MatchOption o ((t : Option ℕ) → rows ≡ floor_values t ∷ [] → is_floor t ≡ true → ⊥) (λ t. (rows ≡ floor_values t ∷ []) × (is_floor t ≡ true))
    → MatchOption o ((t : Option ℕ) → db.trees 2 ≡ floor_row t ∷ [] → is_floor t ≡ true → ⊥) (λ t. (db.trees 2 ≡ floor_row t ∷ []) × (is_floor t ≡ true))
floor_told db rows None sound has same told = λ t is low. told t (one_permutation (floor_values t) rows (subst (λ l. IsPermutation l rows) (ap (map shown_floor) is) same)) low
floor_told db rows (Some t) sound has same told =
    let one = only_row shown_floor (db.trees 2) rows (floor_values t) same told.0 in
    let typed = subst (AreTyped floor) one.1 (floor_typed db.trees (subst (λ s. IsSound s db.trees) has sound)) in
    (one.1 ∙ ap (λ r. r ∷ []) (floor_row_is one.0 t typed.0 one.2), told.1)
