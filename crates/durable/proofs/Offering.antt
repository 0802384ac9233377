-- What an open finds, of tables that are there and of tables that are made.
use Rattle.std.proofs.Common.{◌≡◌, ◌⊎◌, inl, inr, ℕ, zero, suc, Bool, true, false, true≢false, ◌&&◌, nat_lt, Option, Some, None, List, [], ◌∷◌, IsTrue, refl, sym, ap, subst, ◌∙◌}
use Rattle.std.specs.List.{list_all}
use Rattle.sqlite.specs.Effect.{Database}
use Rattle.sqlite.specs.State.{State, HasCleanDisk, IsUnchanged, KeepsCommit}
use Rattle.model.specs.declared.entry.Entry.{Entry}
use Rattle.model.specs.declared.entry.Request.{Request}
use Rattle.model.specs.Transactions.{Language}
use Rattle.keep.specs.Durable.{Durable, blank}
use Rattle.keep.specs.Log.{IsLog, is_vote, is_numbered, is_entry}
use Rattle.durable.specs.Contents.{Contents, none_yet, number_of_vote, client_of, number_of, body_of, item_of, items_of, contents_of, vote_in, request_in, entry_in, entries_in, durable_in}
use Rattle.durable.specs.Tables.{schema, no_schema}
use Rattle.durable.specs.Rows.{Holds, HoldsOld}
use Rattle.durable.specs.Stored.{stored_in, IsSettled, AreTexts, IsIn, Offers, IsBad, IsOpened, IsReady, IsSound}
use Rattle.durable.specs.Found.{read_back, no_tables, old_none, offers_stored}
use Rattle.durable.specs.Steps.{IsMade, IsBlank}
use Rattle.durable.specs.Judging.{IsNoLog, IsFound}

-- ---- what is read is what was written

pub both : (a b : Bool) → (a && b) ≡ true → (a ≡ true) × (b ≡ true)
both true b h = (refl, h)
both false b h = absurd cc

pub not_both : (b : Bool) → b ≡ true → b ≡ false → ⊥
not_both b p q = true≢false (sym p ∙ q)

some_back : (client number : ℕ) (text : List ℕ) → nat_lt 0 client ≡ true → ◌≡◌ {A = Option Request} (request_in client number text) (Some (record { client = client; number = number; text = text }))
some_back zero number text h = absurd cc
some_back (suc client) number text h = refl

request_back : (r : Option Request) → is_numbered r ≡ true → request_in (client_of r) (number_of r) (body_of r) ≡ r
request_back None h = refl
request_back (Some r) h = some_back r.client r.number r.text (both _ _ h).0

pub entry_numbered : (e : Entry) → is_numbered e.request ≡ true → entry_in (item_of e) ≡ e
entry_numbered e h = ap (λ r. record { term = e.term; stamp = e.stamp; request = r }) (request_back e.request h)

pub entry_back : (schema : Language) (e : Entry) → is_entry schema e ≡ true → entry_in (item_of e) ≡ e
entry_back tables e h = ap (λ r. record { term = e.term; stamp = e.stamp; request = r }) (request_back e.request (both _ _ (both _ _ h).1).0)

pub log_back : (schema : Language) (es : List Entry) → list_all (is_entry schema) es ≡ true → entries_in (items_of es) ≡ es
log_back tables [] h = refl
log_back tables (e ∷ es) h =
    let two = both _ _ h in
    ap (λ x. x ∷ entries_in (items_of es)) (entry_back tables e two.0) ∙ ap (λ xs. e ∷ xs) (log_back tables es two.1)

pub vote_back : (members : ℕ) (v : Option ℕ) → is_vote members v ≡ true → vote_in (number_of_vote v) ≡ v
vote_back members None h = refl
vote_back members (Some zero) h = absurd cc
vote_back members (Some (suc v)) h = refl

pub log_plain : (members : ℕ) (schema : Language) (d : Durable) → IsLog members schema d → durable_in (contents_of d) ≡ d
log_plain members tables d forms =
    ap (λ v. record { hard = record { term = d.hard.term; vote = v; floor = d.hard.floor }; log = entries_in (items_of d.log) }) (vote_back members d.hard.vote forms.vote)
    ∙ ap (λ l. record { hard = d.hard; log = l }) (log_back tables d.log forms.entries)

-- where the three tables are, there are no others
pub not_ours : (db : Database) (d : Durable) → db.schema ≡ schema → ((HoldsOld db (contents_of d) × (durable_in (contents_of d) ≡ d)) ⊎ ((db.schema ≡ no_schema) × (d ≡ blank))) → ⊥
not_ours db d has it = elim it [
  | inl old ↦ absurd (let e = ap (λ s. s.tables) (sym has ∙ old.0.tables) in cc)
  | inr none ↦ absurd (let e = ap (λ s. s.tables) (sym has ∙ none.0) in cc)
]

-- ---- open

pub made_settles : (old new : State) → old.now.schema ≡ no_schema → IsMade old new IsBlank → IsSettled new × (stored_in new.now ≡ blank)
made_settles old new none it =
    let has = it.made none in
    let read = read_back new.now none_yet has in
    let stored = ap durable_in read in
    (record { is_open = it.is_open; committed = it.committed; holds = subst (Holds new.now) (sym read) has; plain = ap contents_of stored ∙ sym read }, stored)

-- an open of the tables that were made where there were none finds what was never written
pub made_left : (old new : State) (d : Durable) → HasCleanDisk old → old.in_transaction ≡ false → (IsTrue old.is_open → old.now ≡ old.committed) → old.now.schema ≡ no_schema → IsMade old new IsBlank → Offers new d → Offers old d
made_left old new d clean out settled none it offer =
    let all = made_settles old new none it in
    record {
      clean = clean;
      is_open = it.was_open;
      autocommit = out;
      texts = offer.texts;
      found = inr (inr (ap (λ (b : Database). b.schema) (sym (settled it.was_open)) ∙ none, offers_stored new d all.0 offer ∙ all.1));
    }

-- ---- where nothing is committed

pub keeps_offers : (old new : State) (d : Durable) → HasCleanDisk old → old.in_transaction ≡ false → KeepsCommit old new → Offers new d → Offers old d
keeps_offers old new d clean out it offer = record {
  clean = clean;
  is_open = it.was_open offer.is_open;
  autocommit = out;
  texts = offer.texts;
  found = subst (λ db. IsIn db d) (it.committed offer.is_open) offer.found;
}

-- ---- an open of tables that are there

pub found_opens : (old new : State) (members : ℕ) (tables : Language) (log : List Entry) → HasCleanDisk old → old.in_transaction ≡ false → IsReady old → IsUnchanged old new → IsFound old.now members tables log → IsOpened old new members tables log
found_opens old new members tables log clean out ready same found =
    let d = found.d in
    let plain = log_plain members tables d found.forms in
    let has = subst (λ db. Holds db (contents_of d)) (sym same.0.now_is) found.holds in
    let read = read_back new.now (contents_of d) has in
    let stored = ap durable_in read ∙ plain in
    let was = ready.committed same.0.was_open in
    record {
      settled = record {
        is_open = same.0.is_open;
        committed = same.0.committed_is ∙ sym was ∙ sym same.0.now_is;
        holds = subst (Holds new.now) (sym read) has;
        plain = ap contents_of stored ∙ sym read;
      };
      offers = record {
        clean = clean;
        is_open = same.0.was_open;
        autocommit = out;
        texts = subst (λ x. AreTexts x.log) (sym stored) found.texts;
        found = inl (subst (λ x. Holds old.committed (contents_of x) × (durable_in (contents_of x) ≡ x)) (sym stored) (subst (λ db. Holds db (contents_of d)) was found.holds, plain));
      };
      forms = subst (IsLog members tables) (sym stored) found.forms;
      read = found.read ∙ sym (ap (λ (x : Durable). x.log) stored);
    }

pub opened_from : (old mid new : State) (members : ℕ) (tables : Language) (log : List Entry) → ((d : Durable) → Offers mid d → Offers old d) → IsOpened mid new members tables log → IsOpened old new members tables log
opened_from old mid new members tables log left it = record { settled = it.settled; offers = left _ it.offers; forms = it.forms; read = it.read }

-- ---- where nothing is found

pub no_log_found : (old new : State) (members : ℕ) (tables : Language) → IsReady old → IsUnchanged old new → IsNoLog old.now members tables → IsBad new members tables
no_log_found old new members tables ready same none d offer forms =
    let was : new.committed ≡ old.now = same.0.committed_is ∙ sym (ready.committed same.0.was_open) in
    elim offer.found [
      | inl held ↦ none d (subst (λ db. Holds db (contents_of d)) was held.0) forms offer.texts
      | inr rest ↦ not_ours new.committed d (ap (λ (b : Database). b.schema) was ∙ ready.tables) rest
    ]

-- ---- an open finds no less

made_in : (db made : Database) (d : Durable) → db.schema ≡ no_schema → Holds made none_yet → IsIn db d → IsIn made d
made_in db made d none has it = elim it [
  | inl held ↦ absurd (no_tables db (contents_of d) held.0 none)
  | inr rest ↦ elim rest [
    | inl old ↦ absurd (old_none db (contents_of d) old.0 none)
    | inr blanked ↦ inl (subst (λ x. Holds made (contents_of x) × (durable_in (contents_of x) ≡ x)) (sym blanked.1) (has, refl))
  ]
]

-- an open finds what is committed, whatever else was done
pub offers_on : (old new : State) (d : Durable) → IsSound new → new.in_transaction ≡ false → new.committed ≡ old.committed → Offers old d → Offers new d
offers_on old new d sound out same offer = record {
  clean = sound.clean;
  is_open = sound.is_open;
  autocommit = out;
  texts = offer.texts;
  found = subst (λ db. IsIn db d) (sym same) offer.found;
}

pub made_on : (old new : State) (d : Durable) → IsSound new → new.in_transaction ≡ false → (IsTrue old.is_open → old.now ≡ old.committed) → old.now.schema ≡ no_schema → IsMade old new IsBlank → Offers old d → Offers new d
made_on old new d sound out settled none it offer =
    let was = settled offer.is_open in
    record {
      clean = sound.clean;
      is_open = sound.is_open;
      autocommit = out;
      texts = offer.texts;
      found = subst (λ db. IsIn db d) (sym it.committed) (made_in old.now new.now d none (it.made none) (subst (λ db. IsIn db d) (sym was) offer.found));
    }
