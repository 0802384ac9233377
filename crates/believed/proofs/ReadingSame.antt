-- A schema is the same in both words.
use Rattle.std.proofs.Common.{◌≡◌, ℕ, ◌+◌, List, [], ◌∷◌, ◌++◌, map, refl, sym, ap, ◌∙◌, Result}
use Rattle.std.specs.Prelude.{filter_map, flat_map, option_and_then}
use Rattle.std.specs.List.{enumerate_from}
use Rattle.fault.specs.declared.refusal.Refusal.{Refusal}
use Rattle.model.specs.Transactions.{Statement, Reference, Language}
use Rattle.schema.specs.Shape.{TableShape, ReferenceShape}
use Rattle.sqlchecks.specs.Columns.{Tables, field_at, kept_at}
use Rattle.sqlread.specs.Meaning.{references_from}
use Rattle.sqlread.specs.Reading as before
use Rattle.believed.specs.Meaning as now
use Rattle.believed.proofs.SpellingSame.{spells_now, spells_before, wrong_now, wrong_before}
use Rattle.believed.proofs.MeaningSame.{statements_same}

reading_now : (tables : Tables) (text : List ℕ) (r : Result (List Statement) Refusal) → before.IsReading tables text r → now.IsReading tables text r
reading_now tables text r (before.TooLong long is) = now.TooLong long is
reading_now tables text r (before.Spelled forms short spells is) = now.Spelled forms short (spells_now text forms spells) (is ∙ sym (statements_same tables forms))
reading_now tables text r (before.Wrong at short wrong is) = now.Wrong at short (wrong_now text at wrong) is

reading_before : (tables : Tables) (text : List ℕ) (r : Result (List Statement) Refusal) → now.IsReading tables text r → before.IsReading tables text r
reading_before tables text r (now.TooLong long is) = before.TooLong long is
reading_before tables text r (now.Spelled forms short spells is) = before.Spelled forms short (spells_before text forms spells) (is ∙ statements_same tables forms)
reading_before tables text r (now.Wrong at short wrong is) = before.Wrong at short (wrong_before text at wrong) is

references_same : (tables : Tables) (place : ℕ) → references_from place tables ≡ flat_map (λ (t : ℕ × (List ℕ × TableShape)). map (λ (r : ReferenceShape). let x : Reference = record {
  child = t.0;
  parent = r.parent;
  refers = λ key values. filter_map (λ c. option_and_then (kept_at key values) (field_at t.1.1 c)) r.columns;
} in x) t.1.1.references) (enumerate_from place tables)
references_same [] place = refl
references_same (t ∷ ts) place = ap (λ (rs : List Reference). map (λ (r : ReferenceShape). let x : Reference = record {
  child = place;
  parent = r.parent;
  refers = λ key values. filter_map (λ c. option_and_then (kept_at key values) (field_at t.1 c)) r.columns;
} in x) t.1.references ++ rs) (references_same ts (place + 1))

pub language_now : (tables : Tables) (language : Language) → before.IsLanguage tables language → now.IsLanguage tables language
language_now tables language x = record {
  count = x.count;
  name = x.name;
  references = x.references ∙ references_same tables 0;
  reads = λ text r. (λ h. (x.reads text r).0 (reading_before tables text r h), λ h. reading_now tables text r ((x.reads text r).1 h));
}
