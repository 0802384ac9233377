-- What each call leaves stored.
use Rattle.std.proofs.Common.{◌≡◌, ℕ, zero, suc, ◌+◌, ◌≤◌, ◌++◌, Option, Some, None, List, [], ◌∷◌, length, length-append, take, slice_get, option_map, refl, sym, ap, subst, ◌∙◌}
use Rattle.std.proofs.lemmas.List.{take-map, map-append, length-map, length-take-le}
use Rattle.std.proofs.lemmas.Grind.{merely}
use Rattle.sqlite.specs.State.{State, HasCleanDisk, IsUnchanged, KeepsCommit}
use Rattle.model.specs.declared.entry.Entry.{Entry}
use Rattle.keep.specs.declared.change.Change.{Change}
use Rattle.keep.specs.declared.hard_state.HardState.{HardState}
use Rattle.keep.specs.Durable.{Durable, after}
use Rattle.keep.specs.Log.{IsLog}
use Rattle.model.specs.Transactions.{Language}
use Rattle.durable.specs.Contents.{Contents, Item, number_of_vote, item_of, items_of, contents_of, changed, entry_in, entries_in, durable_in}
use Rattle.durable.specs.Rows.{Holds}
use Rattle.durable.specs.Stored.{contents_in, stored_in, AreTexts, IsSettled, IsSound, IsStored}
use Rattle.durable.specs.Found.{read_back, texts_had}
use Rattle.durable.proofs.Tails.{found_in}
use Rattle.durable.proofs.Texts.{texts_append, texts_take}
use Rattle.durable.specs.Steps.{IsKept, IsKnown, IsMeta, IsFloor}
use Rattle.durable.specs.Saving.{IsSaved, IsBeginning, IsHard}

-- a change of the tables is the change of what is stored
pub changed_is : (c : Change) (d : Durable) → contents_of (after c d) ≡ changed c (contents_of d)
changed_is c d =
    ap (λ l. record { term = c.hard.term; vote = number_of_vote c.hard.vote; floor = c.hard.floor; log = l }) (map-append item_of (take c.kept d.log) c.entries.items ∙ ap (λ l. l ++ items_of c.entries.items) (sym (take-map item_of c.kept d.log)))

-- ---- save

pub saved_settles : (old new : State) (c : Change) → IsSettled old → durable_in (contents_of (after c (stored_in old.now))) ≡ after c (stored_in old.now) → IsSaved old new (changed c)
    → IsSettled new × (stored_in new.now ≡ after c (stored_in old.now))
saved_settles old new c set back it =
    let has = it.now (contents_in old.now) set.holds in
    let read = read_back new.now _ has in
    let is : contents_in new.now ≡ contents_of (after c (stored_in old.now)) = read ∙ ap (changed c) (sym set.plain) ∙ sym (changed_is c (stored_in old.now)) in
    let stored = ap durable_in is ∙ back in
    (record { is_open = it.is_open; committed = it.committed; holds = subst (Holds new.now) (sym read) has; plain = ap contents_of stored ∙ sym is }, stored)

-- the same, of what is committed
pub saved_is : (old new : State) (c : Change) → IsSettled old → durable_in (contents_of (after c (stored_in old.committed))) ≡ after c (stored_in old.committed) → IsSaved old new (changed c)
    → IsSettled new × (stored_in new.committed ≡ after c (stored_in old.committed))
saved_is old new c set =
    subst (λ db. durable_in (contents_of (after c (stored_in db))) ≡ after c (stored_in db) → IsSaved old new (changed c) → IsSettled new × (stored_in new.committed ≡ after c (stored_in db))) (sym set.committed)
    (λ back it. let all = saved_settles old new c set back it in (all.0, ap stored_in all.0.committed ∙ all.1))

pub settled_forms : {members : ℕ} {tables : Language} (s : State) → IsSettled s → IsLog members tables (stored_in s.now) → IsLog members tables (stored_in s.committed)
settled_forms {members} {tables} s set = subst (λ db. IsLog members tables (stored_in db)) (sym set.committed)

-- tables that are settled are committed
pub settled_stored : (s : State) → IsSettled s → AreTexts (stored_in s.committed).log → IsStored s.committed
settled_stored s set = subst (λ db. AreTexts (stored_in db).log → IsStored db) (sym set.committed) (λ texts. record { holds = set.holds; plain = set.plain; texts = merely texts })

pub saved_stored : (old new : State) (c : Change) → IsStored old.committed → AreTexts c.entries.items → IsSettled new → stored_in new.committed ≡ after c (stored_in old.committed) → IsStored new.committed
saved_stored old new c held texts set is =
    let before = texts_take c.kept (stored_in old.committed).log (texts_had (stored_in old.committed).log held.texts) in
    let all = texts_append (take c.kept (stored_in old.committed).log) c.entries.items before texts in
    settled_stored new set (subst (λ (d : Durable). AreTexts d.log) (sym is) all)

-- what was settled stays so where nothing is committed
pub keeps_sound : (old new : State) → HasCleanDisk old → KeepsCommit old new → IsSound new → IsSound old
keeps_sound old new clean keeps sound = record { clean = clean; is_open = keeps.was_open sound.is_open }

pub keeps_same : (old new : State) → KeepsCommit old new → IsSound new → stored_in new.committed ≡ stored_in old.committed
keeps_same old new keeps sound = ap stored_in (keeps.committed sound.is_open)

pub keeps_stored : (old new : State) → KeepsCommit old new → IsSound new → IsStored old.committed → IsStored new.committed
keeps_stored old new keeps sound held = subst IsStored (sym (keeps.committed sound.is_open)) held

pub kept_sound : (old new : State) → HasCleanDisk old → IsKept old new → IsSound new → IsSound old
kept_sound old new clean kept sound = record { clean = clean; is_open = kept.was_open sound.is_open }

pub kept_same : (old new : State) → IsKept old new → IsSound new → stored_in new.committed ≡ stored_in old.committed
kept_same old new kept sound = ap stored_in (kept.committed sound.is_open)

pub kept_stored : (old new : State) → IsKept old new → IsSound new → IsStored old.committed → IsStored new.committed
kept_stored old new kept sound held = subst IsStored (sym (kept.committed sound.is_open)) held

-- ---- reading

pub same_settles : (old new : State) → IsSettled old → IsUnchanged old new → IsSettled new × (stored_in new.now ≡ stored_in old.now)
same_settles old new set same = (
  record {
    is_open = same.0.is_open;
    committed = same.0.committed_is ∙ set.committed ∙ sym same.0.now_is;
    holds = subst (λ db. Holds db (contents_in db)) (sym same.0.now_is) set.holds;
    plain = subst (λ db. contents_of (stored_in db) ≡ contents_in db) (sym same.0.now_is) set.plain;
  },
  ap stored_in same.0.now_is,
)

-- ---- how long the log is

pub stored_length : (s : State) → IsSettled s → length (stored_in s.now).log ≡ length (contents_in s.now).log
stored_length s set = length-map (contents_in s.now).log entry_in

pub after_length : (c : Change) (d : Durable) → c.kept ≤ length d.log → length (after c d).log ≡ c.kept + length c.entries.items
after_length c d low =
    let kept = length-take-le c.kept d.log low in
    length-append (take c.kept d.log) c.entries.items ∙ ap (λ n. n + length c.entries.items) kept

-- ---- which hard state is stored

hard_known : (known : Option HardState) (d : Durable) (c : Contents) → contents_of d ≡ c → IsHard known d → IsMeta known c.term c.vote × IsFloor known c.floor
hard_known None d c same told = (tt, tt)
hard_known (Some h) d c same told =
    let term = ap (λ (x : HardState). x.term) told ∙ ap (λ (x : Contents). x.term) same in
    let vote = ap (λ (x : HardState). number_of_vote x.vote) told ∙ ap (λ (x : Contents). x.vote) same in
    let floor = ap (λ (x : HardState). x.floor) told ∙ ap (λ (x : Contents). x.floor) same in
    ((term, vote), floor)

pub is_known : (s : State) (known : Option HardState) (count : ℕ) (d : Contents) → IsSettled s → IsHard known (stored_in s.committed) → count ≡ length (contents_in s.now).log → Holds s.now d
    → IsKnown known count d
is_known s known count d set told counted has =
    let now = subst (λ db. IsHard known (stored_in db)) set.committed told in
    let hard = hard_known known (stored_in s.now) (contents_in s.now) set.plain now in
    subst (IsKnown known count) (read_back s.now d has) (record { meta = hard.0; floor = hard.1; counted = counted })

pub keeps_hard : (old new : State) (known : Option HardState) → KeepsCommit old new → IsSound new → IsHard known (stored_in old.committed) → IsHard known (stored_in new.committed)
keeps_hard old new known keeps sound = subst (IsHard known) (sym (keeps_same old new keeps sound))

-- ---- what an open read

pub begins : (es log : List Entry) → es ≡ log → IsBeginning es log
begins es log is = subst (IsBeginning es) is (own es)
  where
    own : (l : List Entry) → IsBeginning l l
    own [] = tt
    own (e ∷ l) = (refl, own l)

pub begins_at : (es log : List Entry) (i : ℕ) (e : Entry) → IsBeginning es log → slice_get es i ≡ Some e → slice_get log i ≡ Some e
begins_at [] log i e begin is = absurd cc
begins_at (x ∷ es) [] i e begin is = absurd begin
begins_at (x ∷ es) (y ∷ log) zero e begin is = subst (λ z. ◌≡◌ {A = Option Entry} (Some z) (Some e)) begin.0 is
begins_at (x ∷ es) (y ∷ log) (suc i) e begin is = begins_at es log i e begin.1 is

-- a copy of what was read is what the tables say
pub read_is : (xs : List Item) (es : List Entry) (i : ℕ) (e : Entry) → IsBeginning es (entries_in xs) → slice_get es i ≡ Some e → ◌≡◌ {A = Option Entry} (Some e) (option_map entry_in (slice_get xs i))
read_is xs es i e begin is = sym (begins_at es (entries_in xs) i e begin is) ∙ found_in xs i

pub begins_cut : (kept : ℕ) (es log more : List Entry) → IsBeginning es log → IsBeginning (take kept es) (take kept log ++ more)
begins_cut zero es log more begin = tt
begins_cut (suc kept) [] log more begin = tt
begins_cut (suc kept) (x ∷ es) [] more begin = absurd begin
begins_cut (suc kept) (x ∷ es) (y ∷ log) more begin = (begin.0, begins_cut kept es log more begin.1)

-- of what is committed, where that stays
pub keeps_begun : (old new : State) (es : List Entry) → KeepsCommit old new → IsSound new → IsBeginning es (stored_in old.committed).log → IsBeginning es (stored_in new.committed).log
keeps_begun old new es keeps sound = subst (λ (d : Durable). IsBeginning es d.log) (sym (keeps_same old new keeps sound))
