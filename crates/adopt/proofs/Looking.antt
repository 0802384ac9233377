-- A world that is looked at, and what its members have stored in short.
use Rattle.std.proofs.Common.{◌≡◌, ◌∙◌, ◌<◌, ◌≤◌, ◌+◌, ℕ, zero, suc, List, [], ◌∷◌, ◌++◌, length, map, take, Option, Some, None, refl, sym, ap, add-one}
use Rattle.std.specs.Prelude.{replicate, option_map, option_and_then, unwrap_or, slice_get}
use Rattle.std.proofs.lemmas.List.{take_more}
use Rattle.std.proofs.lemmas.List.Sums.{fold-append}
use Rattle.std.proofs.lemmas.Option.{get_or_from_slice_get, slice_get_within}
use Rattle.model.specs.Lists.{nth}
use Rattle.model.specs.Members.{Node}
use Rattle.model.specs.Transactions.{Language}
use Rattle.model.specs.Worlds.{World, Event, happens, run, new_world}
use Rattle.model.specs.declared.entry.Entry.{Entry}
use Rattle.sqlread.specs.Meaning.{language_of}
use Rattle.world.specs.declared.history.World.{World as Whole}
use Rattle.world.specs.declared.event.Event.{Event as Given}
use Rattle.model.specs.Worlds.Event.{Start}
use Rattle.world.specs.Run.{language_in, tables_in, members_in, events_of, now_of, member_of}
use Rattle.world.specs.View.{if_up, entry_in, event_of}
use Rattle.moments.specs.Behind.{log_in}
use Rattle.journal.specs.Digests.{next_digest, digest_of}
use Rattle.adopt.specs.View.{IsLookedAt}

-- ---- what stays the same

pub now_same : (old new : Whole) → IsLookedAt old new → now_of new ≡ now_of old
now_same old new same = λ i. run (language_of (same.tables i)) (same.members i) (new_world (same.members i)) (map event_of (same.kept i))

pub member_same : (old new : Whole) (node : ℕ) → IsLookedAt old new → member_of new node ≡ member_of old node
member_same old new node same = ap (λ (w : World). nth w.nodes node) (now_same old new same)

pub looked_again : (a b c : Whole) → IsLookedAt a b → IsLookedAt b c → IsLookedAt a c
looked_again a b c p q = record {
  kept = q.kept ∙ p.kept;
  tables = q.tables ∙ p.tables;
  members = q.members ∙ p.members;
  live = q.live;
}

-- ---- entries

entry_at : (o : Option Node) (i : ℕ) → option_and_then (λ (x : Node). nth x.log i) o ≡ nth (unwrap_or (option_map (λ (x : Node). x.log) o) []) i
entry_at None zero = refl
entry_at None (suc i) = refl
entry_at (Some x) i = refl

-- the entry at a place, as it is asked for from 1
pub entry_found : (m : Option Node) (i : ℕ) → entry_in (i + 1) m ≡ slice_get (log_in m) i
entry_found m i = entry_at (if_up m) (i + 1) ∙ ap (nth (log_in m)) (add-one i)

pub digest_more : (log : List Entry) (i : ℕ) (e : Entry) → Some e ≡ slice_get log i → next_digest (digest_of (take i log)) e ≡ digest_of (take (i + 1) log)
digest_more log i e at =
    let within : i < length log = slice_get_within log i e (sym at) in
    let grown : take (i + 1) log ≡ take i log ++ e ∷ [] = take_more log i e within ∙ ap (λ (x : Entry). take i log ++ x ∷ []) (get_or_from_slice_get log i e e (sym at)) in
    sym (ap digest_of grown ∙ fold-append next_digest (replicate 32 0) (take i log) (e ∷ []))

-- ---- in short

-- ---- a run that is played again

run_on : (s : Language) (n : ℕ) (w : World) (before after : List Event) → run s n w (before ++ after) ≡ run s n (run s n w before) after
run_on s n w [] after = refl
run_on s n w (e ∷ before) after = run_on s n (happens s n w e) before after

-- a world in which the events of another one happen, and then a member is started
pub played_on : (w trial one two : Whole) (given : List Given) (node : ℕ) → tables_in trial ≡ tables_in w → members_in trial ≡ members_in w → trial.kept.items ≡ [] → given ≡ w.kept.items →
    events_of one ≡ events_of trial ++ map event_of given → tables_in one ≡ tables_in trial → members_in one ≡ members_in trial →
    events_of two ≡ events_of one ++ Start node ∷ [] → tables_in two ≡ tables_in one → members_in two ≡ members_in one →
    now_of two ≡ happens (language_in w) (members_in w) (now_of w) (Start node)
played_on w trial one two given node tables members empty same kept1 tables1 members1 kept2 tables2 members2 =
    let t = tables2 ∙ tables1 ∙ tables in
    let n = members2 ∙ members1 ∙ members in
    let e : events_of two ≡ events_of w ++ Start node ∷ [] = kept2 ∙ (λ i. (kept1 ∙ (λ j. map event_of (empty j) ++ map event_of (same j))) i ++ Start node ∷ []) in
    (λ i. run (language_of (t i)) (n i) (new_world (n i)) (e i)) ∙ run_on (language_in w) (members_in w) (new_world (members_in w)) (events_of w) (Start node ∷ [])
