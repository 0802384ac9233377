-- Why a text is no form of a store.
use Rattle.std.proofs.Common.{◌≡◌, ◌≢◌, ◌⊎◌, ℕ, ◌<◌, ◌^◌, List, ◌++◌, refl, sym, subst, inl, inr, ⊎_elim, lit<}
use Rattle.std.specs.Prelude.{codes, Ok}
use Rattle.fault.specs.declared.refusal.Refusal.{Refusal}
use Rattle.fault.specs.declared.refusal.Refusal.TheVariants.{NoMemory}
use Rattle.flight.specs.Ranges.{IsNumber}
use Rattle.flight.specs.Reading.{IsAfter, IsNotBegun}
use Rattle.flight.specs.Spelling.{ended}
use Rattle.schemaread.specs.Schemas.{SchemaSays}
use Rattle.sqlchecks.specs.Columns.{Tables}
use Rattle.store.specs.declared.refusal.StoreRefusal.{StoreRefusal}
use Rattle.store.specs.declared.refusal.StoreRefusal.TheVariants.{NoStore, Refused}
use Rattle.storefolder.specs.Forms.{IsForm, IsMany, IsNoForm, IsRefusedForm, parts_text, version_text}

module _ (text : List ℕ) where
  -- it does not begin as one
  pub not_begun : IsNotBegun (codes "bitable store ") text → IsNoForm text
  not_begun none = record { form = λ members schema tables is. none _ is.spelled; version = λ version small other of. none _ of.1 }

  -- it names no version
  pub not_numbered : (rest : List ℕ) → IsAfter (codes "bitable store ") text rest → ((w : ℕ) (other : List ℕ) → IsNumber w → rest ≢ ended w other) → IsNoForm text
  not_numbered rest after none = record {
    form = λ members schema tables is. none 1 (parts_text members schema) (lit< tt) (sym (after.1 _ is.spelled));
    version = λ version small other of. none version of.0 small (sym (after.1 _ of.1));
  }

  module _ (rest : List ℕ) (only : (version : ℕ) (other : List ℕ) → version < 2 ^ 64 → text ≡ version_text version other → (version ≡ 1) × (other ≡ rest)) where
    -- it names no other version than the first
    first_alone : (version : ℕ) → version < 2 ^ 64 → version ≢ 1 → (other : List ℕ) → text ≢ version_text version other
    first_alone version small another other is = another (only version other small is).0

    behind_version : (members : ℕ) (schema : List ℕ) → text ≡ version_text 1 (parts_text members schema) → rest ≡ parts_text members schema
    behind_version members schema is = sym (only 1 (parts_text members schema) (lit< tt) is).1

    -- what follows the version is not what a form has
    pub no_parts : ((members : ℕ) (schema : List ℕ) → IsMany members → rest ≢ parts_text members schema) → IsNoForm text
    no_parts none = record {
      form = λ members schema tables is. none members schema is.many (behind_version members schema is.spelled);
      version = λ version small another of. first_alone version small another of.0 of.1;
    }

    -- its tables are none
    pub no_tables : (members : ℕ) (schema : List ℕ) → ((m : ℕ) (s : List ℕ) → IsMany m → rest ≡ parts_text m s → (m ≡ members) × (s ≡ schema)) → ((tables : Tables) → ¬ SchemaSays schema (Ok tables)) → IsNoForm text
    no_tables members schema alone none = record {
      form = λ m s tables is.
          let same = alone m s is.many (behind_version m s is.spelled) in
          none tables (subst (λ (t : List ℕ). SchemaSays t (Ok tables)) same.1 is.says);
      version = λ version small another of. first_alone version small another of.0 of.1;
    }

-- a part is refused for want of memory, or since the text is no form
pub refused_so : (text : List ℕ) (refusal : Refusal) (result : StoreRefusal) → (refusal ≡ NoMemory) ⊎ IsNoForm text → (refusal ≡ NoMemory → result ≡ Refused NoMemory)
    → (result ≡ NoStore) ⊎ (result ≡ Refused NoMemory) → IsRefusedForm text result
refused_so text refusal result why memory (inr is) = subst (λ (r : StoreRefusal). IsRefusedForm text r) (sym is) refl
refused_so text refusal result (inr none) memory (inl is) = subst (λ (r : StoreRefusal). IsRefusedForm text r) (sym is) none
refused_so text refusal result (inl want) memory (inl is) = subst (λ (r : StoreRefusal). IsRefusedForm text r) (sym (memory want)) refl
