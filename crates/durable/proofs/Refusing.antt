-- What the laws of `refused` rest on besides the clauses that they speak of.
use Rattle.std.proofs.Common.{◌≡◌, ◌≢◌, ◌⊎◌, ◌∙◌, [], ◌∷◌, List, map, Result, Ok, Err, sym, ap, inl, inr}
use Rattle.std.specs.Prelude.{IfErr}
use Rattle.sqlite.specs.Effect.{Database}
use Rattle.sqlite.specs.State.{State}
use Rattle.sqlite.specs.Order.{Row}
use Rattle.sqlite.specs.Tree.{Trees}
use Rattle.keep.specs.declared.change.Change.{Change}
use Rattle.keep.specs.Durable.{Durable}
use Rattle.durable.specs.Contents.{Contents, changed}
use Rattle.durable.specs.Found.{read_back}
use Rattle.durable.specs.Rows.{Holds, in_order}
use Rattle.durable.specs.Saving.{Leaves}
use Rattle.durable.specs.Stored.{IsIn, item_in}
use Rattle.durable.specs.Tables.{schema}

-- ---- what comes of a call

pub if_err : {A E : Type 0} (r : Result A E) (F G : E → Type 0) → IfErr r F → ((e : E) → F e → G e) → IfErr r G
if_err (Ok a) F G f map = tt
if_err (Err e) F G f map = map e f

-- ---- the row of meta

no_row : (rows : List Row) (r : Row) → rows ≡ r ∷ [] → rows ≢ []
no_row rows r is none = absurd (let e : [] ≡ r ∷ [] = sym none ∙ is in cc)

-- what holds a term above 0 has a row of meta
pub meta_there : (db : Database) (d : Durable) → IsIn db d → d.hard.term ≢ 0 → db.trees 0 ≢ []
meta_there db d (inl held) some = no_row (db.trees 0) _ held.0.meta
meta_there db d (inr (inl old)) some = no_row (db.trees 0) _ old.0.meta
meta_there db d (inr (inr none)) some = absurd (some (ap (λ (x : Durable). x.hard.term) none.1))

-- ---- what a crash leaves

-- what is left with the log as it was is what was committed
pub left_whole : (old : State) (c : Change) (before : Contents) (left : Trees) → old.committed ≡ old.now → Holds old.now before → (changed c before).log ≢ before.log → (left ≡ old.committed.trees) ⊎ Leaves old (changed c) left → left 1 ≡ old.committed.trees 1
    → left 0 ≡ old.committed.trees 0
left_whole old c before left settled holds grows (inl same) log = ap (λ (t : Trees). t 0) same
left_whole old c before left settled holds grows (inr made) log =
    let now : left 1 ≡ old.now.trees 1 = log ∙ ap (λ (b : Database). b.trees 1) settled in
    let had = ap (λ (x : Contents). x.log) (read_back old.now before holds) in
    let has = ap (λ (x : Contents). x.log) (read_back (record { schema = schema; trees = left }) (changed c before) (made before holds)) in
    absurd (grows (sym has ∙ ap (λ (rows : List Row). map item_in (in_order rows)) now ∙ had))
