-- That the tables are settled has one proof.
use Rattle.std.specs.Prelude.{ℕ, Option, Some, None, List, [], ◌∷◌}
use Rattle.std.specs.Coded.{Coded, Coded-set, code_by, coded×, coded_ℕ, coded_list, coded_option, Unit-prop}
use Rattle.std.proofs.Common.{ap, refl}
use Rattle.std.proofs.Props.{props}
use mathlib.Core.Bool.{Bool-set}
use Rattle.sqlite_schema.specs.contracts.schema.Schema as schema_row
use Rattle.sqlite.specs.Schema.{Schema}
use Rattle.sqlite_trees.specs.Props.{Trees-set, rows_set}
use Rattle.sqlite.specs.Effect.{Database}
use Rattle.sqlite.specs.State.{State}
use Rattle.model.specs.declared.entry.Entry.{Entry}
use Rattle.model.specs.declared.entry.Request.{Request}
use Rattle.keep.specs.declared.hard_state.HardState.{HardState}
use Rattle.keep.specs.Durable.{Durable}
use Rattle.durable.specs.Contents.{Item, Contents}
use Rattle.durable.specs.Rows.{Holds}
use Rattle.durable.specs.Stored.{IsSettled, IsStored, contents_in}
use Rattle.durable.specs.Saving.{IsBeginning, IsHard}

pub Schema-set : IsSet Schema
Schema-set = Coded-set schema_row.the_row.coded

abbrev coded_item : Coded Item
coded_item =
    code_by (ℕ × (ℕ × (ℕ × (ℕ × List ℕ)))) (coded× coded_ℕ (coded× coded_ℕ (coded× coded_ℕ (coded× coded_ℕ (coded_list coded_ℕ)))))
    (λ e. (e.term, (e.stamp, (e.client, (e.number, e.body)))))
    (λ p. record { term = p.0; stamp = p.1.0; client = p.1.1.0; number = p.1.1.1.0; body = p.1.1.1.1 })
    (λ _. refl)

abbrev coded_contents : Coded Contents
coded_contents =
    code_by (ℕ × (ℕ × (Option ℕ × List Item))) (coded× coded_ℕ (coded× coded_ℕ (coded× (coded_option coded_ℕ) (coded_list coded_item))))
    (λ c. (c.term, (c.vote, (c.floor, c.log))))
    (λ p. record { term = p.0; vote = p.1.0; floor = p.1.1.0; log = p.1.1.1 })
    (λ _. refl)

pub Contents-set : IsSet Contents
Contents-set = Coded-set coded_contents

pub Database-set : IsSet Database
Database-set a b p q = λ i j. record {
  schema = Schema-set a.schema b.schema (ap (λ (v : Database). v.schema) p) (ap (λ (v : Database). v.schema) q) i j;
  trees = Trees-set a.trees b.trees (ap (λ (v : Database). v.trees) p) (ap (λ (v : Database). v.trees) q) i j;
}

pub Holds-prop : (db : Database) (c : Contents) → IsProp (Holds db c)
Holds-prop db c x y = λ i. record {
  tables = Schema-set _ _ x.tables y.tables i;
  meta = rows_set _ _ x.meta y.meta i;
  log = rows_set _ _ x.log y.log i;
  floor = rows_set _ _ x.floor y.floor i;
}

pub IsSettled-prop : (s : State) → IsProp (IsSettled s)
IsSettled-prop s x y = λ i. record {
  is_open = Bool-set _ _ x.is_open y.is_open i;
  committed = Database-set _ _ x.committed y.committed i;
  holds = Holds-prop s.now (contents_in s.now) x.holds y.holds i;
  plain = Contents-set _ _ x.plain y.plain i;
}

truncated_once : {P : Type 0} → IsProp ∥ P ∥₁
truncated_once = hlevel props

pub IsStored-prop : (db : Database) → IsProp (IsStored db)
IsStored-prop db x y = λ i. record {
  holds = Holds-prop db (contents_in db) x.holds y.holds i;
  plain = Contents-set _ _ x.plain y.plain i;
  texts = truncated_once x.texts y.texts i;
}

abbrev coded_hard : Coded HardState
coded_hard =
    code_by (ℕ × (Option ℕ × Option ℕ)) (coded× coded_ℕ (coded× (coded_option coded_ℕ) (coded_option coded_ℕ)))
    (λ h. (h.term, (h.vote, h.floor)))
    (λ p. record { term = p.0; vote = p.1.0; floor = p.1.1 })
    (λ _. refl)

pub HardState-set : IsSet HardState
HardState-set = Coded-set coded_hard

pub IsHard-prop : (known : Option HardState) (d : Durable) → IsProp (IsHard known d)
IsHard-prop None d = Unit-prop
IsHard-prop (Some h) d = HardState-set h d.hard

abbrev coded_request : Coded Request
coded_request =
    code_by (ℕ × (ℕ × List ℕ)) (coded× coded_ℕ (coded× coded_ℕ (coded_list coded_ℕ)))
    (λ r. (r.client, (r.number, r.text)))
    (λ p. record { client = p.0; number = p.1.0; text = p.1.1 })
    (λ _. refl)

abbrev coded_entry : Coded Entry
coded_entry =
    code_by (ℕ × (ℕ × Option Request)) (coded× coded_ℕ (coded× coded_ℕ (coded_option coded_request)))
    (λ e. (e.term, (e.stamp, e.request)))
    (λ p. record { term = p.0; stamp = p.1.0; request = p.1.1 })
    (λ _. refl)

Entry-set : IsSet Entry
Entry-set = Coded-set coded_entry

pub IsBeginning-prop : (es log : List Entry) → IsProp (IsBeginning es log)
IsBeginning-prop [] log = Unit-prop
IsBeginning-prop (e ∷ es) [] = λ p. absurd p
IsBeginning-prop (e ∷ es) (x ∷ xs) = λ p q. λ i. (Entry-set e x p.0 q.0 i, IsBeginning-prop es xs p.1 q.1 i)
