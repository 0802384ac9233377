-- Taking in the items of a list, one after another.
use Rattle.std.proofs.Common.{◌≡◌, ℕ, zero, suc, ◌+◌, Option, Some, None, List, [], ◌∷◌, ◌++◌, length, take, drop, slice_get, ap, sym, ◌∙◌, subst, add-one}
use Rattle.std.proofs.lemmas.List.{append-nil}
use Rattle.std.proofs.lemmas.List.Elements.{filter_map-append}
use Rattle.std.proofs.lemmas.List.Sums.{fold-append}
use Rattle.std.proofs.Math.Seq.{drop-append_seam}
use mathlib.Core.List.{IsPrefix}
use Rattle.model.specs.declared.entry.Entry.{Entry}
use Rattle.model.specs.Stamps.{greater}
use Rattle.sqlchecks.specs.Columns as columns
use Rattle.apply.specs.declared.tables.Tables.{Tables}
use Rattle.apply.specs.View.{AreTables}
use Rattle.history.specs.declared.item.Item.{Item}
use Rattle.history.specs.declared.item.Item.TheVariants.{Applied, Sealed}
use Rattle.history.specs.Items.{entry_of, entries_in, greater_sealed, sealed_in}

taken_next : (items : List Item) (n : ℕ) (item : Item) → slice_get items n ≡ Some item → take (suc n) items ≡ take n items ++ item ∷ []
taken_next [] n item h = absurd cc
taken_next (x ∷ items) zero item h = let same : x ≡ item = cc h in ap (λ i. i ∷ []) same
taken_next (x ∷ items) (suc n) item h = ap (λ xs. x ∷ xs) (taken_next items n item h)

-- one item more
pub taken_more : (items : List Item) (n : ℕ) (item : Item) → slice_get items n ≡ Some item → take (n + 1) items ≡ take n items ++ item ∷ []
taken_more items n item h = ap (λ k. take k items) (add-one n) ∙ taken_next items n item h

-- what stands at the end of a list begins the list that ends with the item there
pub one_more : (seen list : List Item) (item : Item) (n : ℕ) → IsPrefix seen list → n ≡ length seen → drop n list ≡ item ∷ [] → list ≡ seen ++ item ∷ []
one_more seen list item n first long last =
    let rest : first.0 ≡ item ∷ [] = sym (drop-append_seam seen first.0) ∙ ap (λ (xs : List Item). drop (length seen) xs) first.1 ∙ ap (λ (k : ℕ). drop k list) (sym long) ∙ last in
    sym first.1 ∙ ap (λ (xs : List Item). seen ++ xs) rest

-- the tables of one entry more
pub tables_more : (schema : columns.Tables) (items more : List Item) (mark : ℕ) (item : Item) (entry : Entry) (old new : Tables) → more ≡ items ++ item ∷ [] → item ≡ Applied mark entry
    → AreTables schema (entries_in items) old
    → ((tables : columns.Tables) (list : List Entry) → AreTables tables list old → AreTables tables (list ++ entry ∷ []) new)
    → AreTables schema (entries_in more) new
tables_more schema items more mark item entry old new longer is are kept =
    let same : entries_in more ≡ entries_in items ++ entry ∷ [] =
    ap entries_in (longer ∙ ap (λ (i : Item). items ++ i ∷ []) is) ∙ filter_map-append entry_of items (Applied mark entry ∷ []) in
    subst (λ list. AreTables schema list new) (sym same) (kept schema (entries_in items) are)

-- the same tables, where the item more is no entry
pub tables_stay : (schema : columns.Tables) (items more : List Item) (mark time : ℕ) (item : Item) (tables : Tables) → more ≡ items ++ item ∷ [] → item ≡ Sealed mark time
    → AreTables schema (entries_in items) tables → AreTables schema (entries_in more) tables
tables_stay schema items more mark time item tables longer is are =
    let same : entries_in more ≡ entries_in items =
    ap entries_in (longer ∙ ap (λ (i : Item). items ++ i ∷ []) is) ∙ (filter_map-append entry_of items (Sealed mark time ∷ []) ∙ append-nil (entries_in items)) in
    subst (λ list. AreTables schema list tables) (sym same) are

-- what is sealed in one item more
sealed_more : (items more : List Item) (item : Item) (sealed : Option ℕ) → more ≡ items ++ item ∷ [] → sealed ≡ sealed_in items → greater_sealed sealed item ≡ sealed_in more
sealed_more items more item sealed longer is =
    ap (λ s. greater_sealed s item) is ∙ sym (ap sealed_in longer ∙ fold-append greater_sealed None items (item ∷ []))

pub sealed_stays : (items more : List Item) (mark : ℕ) (item : Item) (entry : Entry) (sealed : Option ℕ) → more ≡ items ++ item ∷ [] → item ≡ Applied mark entry → sealed ≡ sealed_in items → sealed ≡ sealed_in more
sealed_stays items more mark item entry sealed longer is was = sym (ap (λ i. greater_sealed sealed i) is) ∙ sealed_more items more item sealed longer was

pub sealed_adds : (items more : List Item) (mark time : ℕ) (item : Item) (sealed new : Option ℕ) → more ≡ items ++ item ∷ [] → item ≡ Sealed mark time → new ≡ greater sealed (Some time) → sealed ≡ sealed_in items → new ≡ sealed_in more
sealed_adds items more mark time item sealed new longer is higher was = higher ∙ (sym (ap (λ i. greater_sealed sealed i) is) ∙ sealed_more items more item sealed longer was)
