-- The digests of a log's beginnings, entry by entry.
use Rattle.std.proofs.Common.{◌≡◌, ◌∙◌, inl, inr, ℕ, suc, ◌+◌, ◌≤◌, min, List, [], ◌∷◌, ◌++◌, length, take, drop, refl, sym, ap, subst, arith, length-append, append-nil, append_assoc}
use Rattle.std.specs.Prelude.{fold}
use Rattle.std.proofs.Math.Nat.{eq-or-lt_of_le}
use Rattle.std.proofs.Math.Seq.{take-append_seam, take-length}
use Rattle.std.proofs.lemmas.List.{take-append-drop, length-take, take_all, nil_from_length}
use Rattle.std.proofs.lemmas.List.Sums.{fold-append}
use Rattle.model.specs.declared.entry.Entry.{Entry}
use Rattle.keep.specs.Durable.{Durable}
use Rattle.keep.specs.declared.hard_state.HardState.{HardState}
use Rattle.journal.specs.Digests.{next_digest, digest_of, summary_of}
use Rattle.journal.specs.declared.stored.Summary.{Summary}
use Rattle.store.specs.declared.chain.Link.{Link}
use Rattle.store.specs.Chains.{first_link, next_link, last_link, link_entry, links_of}

-- a beginning that is as long as it can be
seam : {A : Type 0} (n : ℕ) (xs ys : List A) → length xs ≡ min n (length xs + length ys) → take n (xs ++ ys) ≡ xs
seam {A = A} n xs ys short =
    let low : length xs ≤ n = omega (arith, short) in
    elim (eq-or-lt_of_le low) [
      | inl same ↦ subst (λ (k : ℕ). take k (xs ++ ys) ≡ xs) same (take-append_seam xs ys)
      | inr less ↦
          let none : length ys ≡ 0 = omega (arith, short, less) in
          let all : xs ++ ys ≡ xs = ap (λ (zs : List A). xs ++ zs) (nil_from_length ys none) ∙ append-nil xs in
          ap (take n) all ∙ take_all n xs low
    ]

-- entries more leave what is known of those before
linked_on : (links : List Link) (log : List Entry) → (more : List Link) × (fold link_entry links log ≡ links ++ more) × (length more ≡ length log)
linked_on links [] = ([], sym (append-nil links), refl)
linked_on links (e ∷ log) =
    let rest = linked_on (link_entry links e) log in
    (next_link (last_link links) e ∷ rest.0, rest.1 ∙ append_assoc links (next_link (last_link links) e ∷ []) rest.0, ap suc rest.2)

pub links_length : (log : List Entry) → length (links_of log) ≡ length log
links_length log = let on = linked_on [] log in ap length on.1 ∙ on.2

pub links_take : (n : ℕ) (log : List Entry) → take n (links_of log) ≡ links_of (take n log)
links_take n log =
    let front = take n log in
    let back = drop n log in
    let whole : front ++ back ≡ log = take-append-drop n log in
    let on = linked_on (links_of front) back in
    let split : links_of log ≡ links_of front ++ on.0 = ap links_of (sym whole) ∙ fold-append link_entry [] front back ∙ on.1 in
    let total : length front + length back ≡ length log = sym (length-append front back) ∙ ap length whole in
    let fits : length (links_of front) ≡ min n (length (links_of front) + length on.0) = omega (arith, links_length front, on.2, total, length-take n log) in
    ap (take n) split ∙ seam n (links_of front) on.0 fits

last_of : (links : List Link) (l : Link) → last_link (links ++ l ∷ []) ≡ l
last_of links l = fold-append (λ (before after : Link). after) first_link links (l ∷ [])

digest_on : (links : List Link) (log : List Entry) → (last_link (fold link_entry links log)).digest ≡ fold next_digest (last_link links).digest log
digest_on links [] = refl
digest_on links (e ∷ log) = digest_on (link_entry links e) log ∙ ap (λ (l : Link). fold next_digest l.digest log) (last_of links (next_link (last_link links) e))

pub links_digest : (log : List Entry) → (last_link (links_of log)).digest ≡ digest_of log
links_digest log = digest_on [] log

-- a change of the log changes its links so
pub links_after : (kept : ℕ) (log more : List Entry) → fold link_entry (take kept (links_of log)) more ≡ links_of (take kept log ++ more)
links_after kept log more = ap (λ (links : List Link). fold link_entry links more) (links_take kept log) ∙ sym (fold-append link_entry [] (take kept log) more)

-- what is known of the last of all of them
pub last_whole : (links : List Link) → last_link (take (length links) links) ≡ last_link links
last_whole links = ap last_link (take-length links)

pub summed : (links : List Link) (hard : HardState) (d : Durable) → d.hard ≡ hard → links ≡ links_of d.log
    → let s : Summary = record { hard = hard; length = length links; digest = (last_link (take (length links) links)).digest } in s ≡ summary_of d
summed links hard d hards same =
    let long : length links ≡ length d.log = ap length same ∙ links_length d.log in
    let last : (last_link (take (length links) links)).digest ≡ digest_of d.log = ap (λ (l : Link). l.digest) (last_whole links ∙ ap last_link same) ∙ links_digest d.log in
    cc
