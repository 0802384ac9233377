-- While it is settled, an open finds what is stored. A law of the trait cites it, so it stands here.
use Rattle.std.proofs.Common.{◌≡◌, inl, inr, ℕ, ◌+◌, List, [], ◌∷◌, map, refl, sym, ap, subst, ◌∙◌, Option, Some, None, false}
use Rattle.std.proofs.lemmas.Str.{IsUtf8-had}
use Rattle.std.proofs.lemmas.Grind.{merely}
use Rattle.std.proofs.Math.Logic.{∥∥₁_elim}
use Rattle.std.proofs.Props.{props}
use Rattle.model.specs.declared.entry.Entry.{Entry}
use Rattle.model.specs.declared.entry.Request.{Request}
use Rattle.sqlite.specs.Order.{column}
use Rattle.sqlite.specs.Effect.{Database}
use Rattle.sqlite.specs.State.{State}
use Rattle.keep.specs.Durable.{Durable}
use Rattle.durable.specs.Contents.{Item, Contents, contents_of, durable_in, number_of_floor}
use Rattle.durable.specs.Tables.{no_schema}
use Rattle.durable.specs.Rows.{in_order, log_rows, Holds, HoldsOld}
use Rattle.durable.specs.Stored.{number_in, floor_in, floor_of, item_in, first_row, contents_in, stored_in, IsText, AreTexts, IsSettled, IsSound, IsStored, IsIn, Offers}

items_back : (i : ℕ) (es : List Item) → map item_in (log_rows i es) ≡ es
items_back i [] = refl
items_back i (e ∷ es) = ap (λ rest. e ∷ rest) (items_back (i + 1) es)

floor_back : (t : Option ℕ) → floor_of (number_of_floor t) ≡ t
floor_back None = refl
floor_back (Some t) = refl

pub read_back : (db : Database) (c : Contents) → Holds db c → contents_in db ≡ c
read_back db c has =
    let term = ap (λ rows. number_in (column (first_row rows) 2)) has.meta in
    let vote = ap (λ rows. number_in (column (first_row rows) 3)) has.meta in
    let floor = ap (λ rows. floor_in (column (first_row rows) 2)) has.floor ∙ floor_back c.floor in
    let log = ap (map item_in) has.log ∙ items_back 1 c.log in
    λ i. record { term = term i; vote = vote i; floor = floor i; log = log i }

pub no_tables : (db : Database) (c : Contents) → Holds db c → db.schema ≡ no_schema → ⊥
no_tables db c has none = absurd (let same = sym has.tables ∙ none in let e = ap (λ s. s.tables) same in cc)

pub no_old : (db : Database) (c d : Contents) → Holds db c → HoldsOld db d → ⊥
no_old db c d has old = absurd (let same = sym has.tables ∙ old.tables in let e = ap (λ s. s.tables) same in cc)

-- what is in the three tables is what they say
pub is_stored : (db : Database) (c : Contents) (d : Durable) → Holds db c → IsIn db d → d ≡ stored_in db
is_stored db c d has it = elim it [
  | inl held ↦ sym held.1 ∙ ap durable_in (sym (read_back db (contents_of d) held.0))
  | inr rest ↦ elim rest [
    | inl old ↦ absurd (no_old db c (contents_of d) has old.0)
    | inr none ↦ absurd (no_tables db c has none.0)
  ]
]

pub offers_stored : (s : State) (d : Durable) → IsSettled s → Offers s d → d ≡ stored_in s.now
offers_stored s d set it =
    is_stored s.committed (contents_in s.now) d (subst (λ db. Holds db (contents_in s.now)) (sym set.committed) set.holds) it.found ∙ ap stored_in set.committed

text_had : (r : Option Request) → ∥ IsText r ∥₁ → IsText r
text_had None h = tt
text_had (Some r) h = IsUtf8-had r.text h

-- that they are texts need not be told twice
pub texts_had : (es : List Entry) → ∥ AreTexts es ∥₁ → AreTexts es
texts_had [] h = tt
texts_had (e ∷ es) h = (
  text_had e.request (∥∥₁_elim h (hlevel props) (λ (p : AreTexts (e ∷ es)). merely p.0)),
  texts_had es (∥∥₁_elim h (hlevel props) (λ (p : AreTexts (e ∷ es)). merely p.1)),
)

-- an open finds what is committed, and nothing else
pub offers_held : (s : State) (d : Durable) → IsStored s.committed → Offers s d → d ≡ stored_in s.committed
offers_held s d held it = is_stored s.committed (contents_in s.committed) d held.holds it.found

pub stored_offers : (s : State) → IsSound s → s.in_transaction ≡ false → IsStored s.committed → Offers s (stored_in s.committed)
stored_offers s sound out held = record {
  clean = sound.clean;
  is_open = sound.is_open;
  autocommit = out;
  texts = texts_had _ held.texts;
  found = inl (subst (Holds s.committed) (sym held.plain) held.holds, ap durable_in held.plain);
}

-- ---- a database holds one state at most

pub old_none : (db : Database) (c : Contents) → HoldsOld db c → db.schema ≡ no_schema → ⊥
old_none db c has is = absurd (let e = ap (λ s. s.tables) (sym has.tables ∙ is) in cc)

abbrev old_in : Database → Contents
old_in db = record {
  term = number_in (column (first_row (db.trees 0)) 2);
  vote = number_in (column (first_row (db.trees 0)) 3);
  floor = None;
  log = map item_in (in_order (db.trees 1));
}

old_back : (db : Database) (c : Contents) → HoldsOld db c → old_in db ≡ c
old_back db c has =
    let term = ap (λ rows. number_in (column (first_row rows) 2)) has.meta in
    let vote = ap (λ rows. number_in (column (first_row rows) 3)) has.meta in
    let log = ap (map item_in) has.log ∙ items_back 1 c.log in
    λ i. record { term = term i; vote = vote i; floor = (sym has.floor) i; log = log i }

pub is_one : (db : Database) (d e : Durable) → IsIn db d → IsIn db e → d ≡ e
is_one db d e (inl p) (inl q) = sym p.1 ∙ ap durable_in (sym (read_back db (contents_of d) p.0) ∙ read_back db (contents_of e) q.0) ∙ q.1
is_one db d e (inl p) (inr (inl q)) = absurd (no_old db (contents_of d) (contents_of e) p.0 q.0)
is_one db d e (inl p) (inr (inr q)) = absurd (no_tables db (contents_of d) p.0 q.0)
is_one db d e (inr (inl p)) (inl q) = absurd (no_old db (contents_of e) (contents_of d) q.0 p.0)
is_one db d e (inr (inl p)) (inr (inl q)) = sym p.1 ∙ ap durable_in (sym (old_back db (contents_of d) p.0) ∙ old_back db (contents_of e) q.0) ∙ q.1
is_one db d e (inr (inl p)) (inr (inr q)) = absurd (old_none db (contents_of d) p.0 q.0)
is_one db d e (inr (inr p)) (inl q) = absurd (no_tables db (contents_of e) q.0 p.0)
is_one db d e (inr (inr p)) (inr (inl q)) = absurd (old_none db (contents_of e) q.0 p.0)
is_one db d e (inr (inr p)) (inr (inr q)) = p.1 ∙ sym q.1
