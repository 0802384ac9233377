-- The applied entries of a member are stamped, since what it stores forms a log.
use Rattle.std.proofs.Common.{◌≡◌, ℕ, zero, suc, ◌≤◌, ◌<◌, true, nat_lt, nat_le, ◌&&◌, Option, Some, None, option_map, List, [], ◌∷◌, take, slice_get, refl, subst, arith}
use Rattle.std.proofs.lemmas.Bool.{leb-true}
use Rattle.std.specs.List.{list_all}
use Rattle.model.specs.declared.entry.Entry.{Entry}
use Rattle.model.specs.Lists.{nth}
use Rattle.model.specs.Logs.{IsStamped}
use Rattle.model.specs.Stamps.{TIME_LAST, above}
use Rattle.model.specs.Transactions.{Language}
use Rattle.model.specs.Members.{applied, term_of}
use Rattle.model.specs.Steps.{go_on, spells}
use Rattle.keep.specs.Log.{is_entry, is_numbered}
use Rattle.keep.specs.Durable.{Durable}
use Rattle.keep.specs.Log.{IsLog}
use Rattle.raft.specs.declared.state.Core.{Core}
use Rattle.raft.specs.View.{IsInStep, node_of}
use Rattle.node.proofs.Tests.{parts}

-- the stamp of an entry that goes on after another
later : (prev : Option Entry) (bound : ℕ) (e : Entry) (es : List Entry) → go_on prev bound (e ∷ es) ≡ true → above (option_map (λ d. d.stamp) prev) ≤ e.stamp
later prev bound e es h =
    let both = parts (nat_lt 0 e.term && nat_le (term_of prev) e.term && nat_le e.term bound && nat_le (above (option_map (λ d. d.stamp) prev)) e.stamp) (go_on (Some e) bound es) h in
    leb-true (above (option_map (λ d. d.stamp) prev)) e.stamp (parts (nat_lt 0 e.term && nat_le (term_of prev) e.term && nat_le e.term bound) (nat_le (above (option_map (λ d. d.stamp) prev)) e.stamp) both.0).1

rest : (prev : Option Entry) (bound : ℕ) (e : Entry) (es : List Entry) → go_on prev bound (e ∷ es) ≡ true → go_on (Some e) bound es ≡ true
rest prev bound e es h = (parts (nat_lt 0 e.term && nat_le (term_of prev) e.term && nat_le e.term bound && nat_le (above (option_map (λ d. d.stamp) prev)) e.stamp) (go_on (Some e) bound es) h).1

-- each entry is stamped above what was before all
all_later : (prev : Option Entry) (bound : ℕ) (es : List Entry) (i : ℕ) (e : Entry) → go_on prev bound es ≡ true → slice_get es i ≡ Some e → above (option_map (λ d. d.stamp) prev) ≤ e.stamp
all_later prev bound [] i e h is = absurd (cc is)
all_later prev bound (d ∷ es) zero e h is =
    let same : d ≡ e = cc is in
    subst (λ (x : Entry). above (option_map (λ (y : Entry). y.stamp) prev) ≤ x.stamp) same (later prev bound d es h)
all_later prev bound (d ∷ es) (suc i) e h is =
    let first = later prev bound d es h in
    let after = all_later (Some d) bound es i e (rest prev bound d es h) is in
    omega (arith, first, after)

rises : (prev : Option Entry) (bound : ℕ) (es : List Entry) (i j : ℕ) (d e : Entry) → go_on prev bound es ≡ true → i < j → slice_get es i ≡ Some d → slice_get es j ≡ Some e → d.stamp < e.stamp
rises prev bound [] i j d e h lt is at = absurd (cc is)
rises prev bound (x ∷ es) i zero d e h lt is at = absurd (omega (arith, lt))
rises prev bound (x ∷ es) zero (suc j) d e h lt is at =
    let same : x ≡ d = cc is in
    let after = all_later (Some x) bound es j e (rest prev bound x es h) at in
    subst (λ (y : Entry). y.stamp < e.stamp) same (omega (arith, after))
rises prev bound (x ∷ es) (suc i) (suc j) d e h lt is at = rises (Some x) bound es i j d e (rest prev bound x es h) (omega (arith, lt)) is at

instants : (language : Language) (es : List Entry) (i : ℕ) (e : Entry) → list_all (is_entry language) es ≡ true → slice_get es i ≡ Some e → e.stamp ≤ TIME_LAST
instants language [] i e h is = absurd (cc is)
instants language (x ∷ es) zero e h is =
    let same : x ≡ e = cc is in
    let one = (parts (is_entry language x) (list_all (is_entry language) es) h).0 in
    subst (λ (y : Entry). y.stamp ≤ TIME_LAST) same (leb-true x.stamp TIME_LAST (parts (nat_le x.stamp TIME_LAST) (is_numbered x.request && spells language x.request) one).0)
instants language (x ∷ es) (suc i) e h is = instants language es i e (parts (is_entry language x) (list_all (is_entry language) es) h).1 is

-- the first entries go on too
first_rise : (prev : Option Entry) (bound k : ℕ) (es : List Entry) → go_on prev bound es ≡ true → go_on prev bound (take k es) ≡ true
first_rise prev bound zero es h = refl
first_rise prev bound (suc k) [] h = refl
first_rise prev bound (suc k) (e ∷ es) h =
    let fits = nat_lt 0 e.term && nat_le (term_of prev) e.term && nat_le e.term bound && nat_le (above (option_map (λ d. d.stamp) prev)) e.stamp in
    let both = parts fits (go_on (Some e) bound es) h in
    rw (both.0, first_rise (Some e) bound k es both.1) refl

first_all : (language : Language) (k : ℕ) (es : List Entry) → list_all (is_entry language) es ≡ true → list_all (is_entry language) (take k es) ≡ true
first_all language zero es h = refl
first_all language (suc k) [] h = refl
first_all language (suc k) (e ∷ es) h =
    let both = parts (is_entry language e) (list_all (is_entry language) es) h in
    rw (both.0, first_all language k es both.1) refl

stamped : (language : Language) (bound : ℕ) (es : List Entry) → go_on None bound es ≡ true → list_all (is_entry language) es ≡ true → IsStamped es
stamped language bound es h all = record {
  instants = instants_of;
  rising = rising_of;
}
  where
    instants_of : (i : ℕ) (e : Entry) → nth es i ≡ Some e → e.stamp ≤ TIME_LAST
    instants_of zero e is = absurd (cc is)
    instants_of (suc i) e is = instants language es i e all is

    rising_of : (i j : ℕ) (d e : Entry) → i < j → nth es i ≡ Some d → nth es j ≡ Some e → d.stamp < e.stamp
    rising_of zero j d e lt is at = absurd (cc is)
    rising_of (suc i) zero d e lt is at = absurd (omega (arith, lt))
    rising_of (suc i) (suc j) d e lt is at = rises None bound es i j d e h (omega (arith, lt)) is at

first_stamped : (language : Language) (bound k : ℕ) (es : List Entry) → go_on None bound es ≡ true → list_all (is_entry language) es ≡ true → IsStamped (take k es)
first_stamped language bound k es h all = stamped language bound (take k es) (first_rise None bound k es h) (first_all language k es all)

pub applied_stamped : (c : Core) (members : ℕ) (language : Language) (d : Durable) → IsInStep c d → IsLog members language d → IsStamped (applied (node_of c d.log))
applied_stamped c members language d step log = subst (λ (es : List Entry). IsStamped (take c.commit es)) step.log (first_stamped language d.hard.term c.commit d.log log.rises log.entries)
