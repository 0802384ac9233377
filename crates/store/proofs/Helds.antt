-- Logs that databases hold.
use Rattle.std.proofs.Common.{◌≡◌, ◌∙◌, ℕ, ◌+◌, ◌-◌, ◌≤◌, ◌<◌, inl, inr, Option, Some, None, List, take, length, slice_get, sym, ap, subst, arith}
use Rattle.std.specs.Prelude.{IfSome, MatchOption, slice_range}
use Rattle.std.proofs.Math.Nat.{eq-or-lt_of_le}
use Rattle.std.proofs.lemmas.Option.{same_Some, slice_get_within}
use Rattle.model.specs.declared.entry.Entry.{Entry}
use Rattle.journal.specs.Digests.{digest_of}
use Rattle.journal.specs.declared.stored.Summary.{Summary}
use Rattle.store.specs.declared.chain.Link.{Link}
use Rattle.store.specs.declared.held.HeldLog.{HeldLog}
use Rattle.store.specs.Chains.{last_link, links_of}
use Rattle.store.specs.Held.{IsBeginning}
use Rattle.store.specs.HeldAt.{BeginsAt}
use Rattle.store.proofs.Ranges.{digest_first}

-- what is so of what is found
pub some_so : {A : Type 0} (N : Type 0) (P Q : A → Type 0) (r : Option A) → MatchOption r N P → ((x : A) → P x → Q x) → IfSome r Q
some_so N P Q None m f = tt
some_so N P Q (Some x) m f = f x m

-- ---- one log

-- its first entries are what was stored, if these have the digest
pub begins_so : (links : List Link) (log shown first : List Entry) (stored : Summary) (digest : List ℕ) → links ≡ links_of log → shown ≡ log → digest ≡ (last_link (take stored.length links)).digest → digest ≡ stored.digest → stored.length ≤ length shown → first ≡ slice_range shown 0 stored.length → IsBeginning log stored first
begins_so links log shown first stored digest is all found same low cut =
    let from_none : stored.length - 0 ≡ stored.length = omega arith in
    let taken : first ≡ take stored.length log = cut ∙ ap (λ (n : ℕ). take n shown) from_none ∙ ap (take stored.length) all in
    (subst (λ (xs : List Entry). stored.length ≤ length xs) all low, taken, ap digest_of taken ∙ sym (digest_first stored.length links log is) ∙ sym found ∙ same)

-- else none of its beginnings is
pub begins_otherwise : (links : List Link) (log : List Entry) (stored : Summary) (digest : List ℕ) → links ≡ links_of log → digest ≡ (last_link (take stored.length links)).digest → (digest ≡ stored.digest → ⊥) → (first : List Entry) → IsBeginning log stored first → ⊥
begins_otherwise links log stored digest is found other first b = other (found ∙ digest_first stored.length links log is ∙ ap digest_of (sym b.1) ∙ b.2)

-- ---- several logs

-- a log that is held at this place is this one
pub this_one : (held : List (Option HeldLog)) (stored : Summary) (first : List Entry) (at : ℕ) (log : HeldLog) → slice_get held at ≡ Some (Some log) → (IsBeginning log.entries.items stored first → ⊥) → BeginsAt held stored first at → ⊥
this_one held stored first at log there other (one, is, b) =
    let same : one ≡ log = same_Some one log (same_Some (Some one) (Some log) (sym is ∙ there)) in
    other (subst (λ (l : HeldLog). IsBeginning l.entries.items stored first) same b)

-- one place more
pub none_more : (held : List (Option HeldLog)) (stored : Summary) (n : ℕ) → ((i : ℕ) → i < n → (first : List Entry) → BeginsAt held stored first i → ⊥) → ((first : List Entry) → BeginsAt held stored first n → ⊥) → (i : ℕ) → i < n + 1 → (first : List Entry) → BeginsAt held stored first i → ⊥
none_more held stored n before here i less first b = elim (eq-or-lt_of_le (at_most less)) [
  | inl same ↦ here first (subst (λ (k : ℕ). BeginsAt held stored first k) same b)
  | inr low ↦ before i low first b
]
  where
    at_most : i < n + 1 → i ≤ n
    at_most h = omega (arith, h)

-- no place is left
pub none_at_all : (held : List (Option HeldLog)) (stored : Summary) (n : ℕ) → length held ≤ n → ((i : ℕ) → i < n → (first : List Entry) → BeginsAt held stored first i → ⊥) → (i : ℕ) (first : List Entry) → BeginsAt held stored first i → ⊥
none_at_all held stored n all before i first (log, is, b) =
    let within = slice_get_within held i (Some log) is in
    before i (omega (arith, within, all)) first (log, is, b)
