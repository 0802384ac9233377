-- The entries of a log after the first so many, and the digest of these.
use Rattle.std.proofs.Common.{◌≡◌, ◌∙◌, ℕ, zero, suc, ◌+◌, ◌-◌, ◌≤◌, Some, List, [], ◌∷◌, ◌++◌, take, drop, slice_range, refl, ap, subst, sym, arith}
use Rattle.std.specs.Prelude.{slice_get}
use Rattle.model.specs.Lists.{nth}
use Rattle.model.specs.declared.entry.Entry.{Entry}
use Rattle.journal.specs.Digests.{digest_of}
use Rattle.store.specs.declared.chain.Link.{Link}
use Rattle.store.specs.Chains.{last_link, links_of}
use Rattle.store.proofs.Links.{links_take, links_digest}

-- counted from 1 and counted from 0
pub nth_next : (log : List Entry) (n : ℕ) → nth log (n + 1) ≡ slice_get log n
nth_next log n = let next : n + 1 ≡ suc n = omega arith in rw next refl

take_next : (log : List Entry) (n : ℕ) (e : Entry) → slice_get log n ≡ Some e → take (suc n) log ≡ take n log ++ e ∷ []
take_next [] n e h = absurd cc
take_next (d ∷ log) zero e h = let same : d ≡ e = cc in ap (λ (z : Entry). z ∷ []) same
take_next (d ∷ log) (suc n) e h = ap (λ (zs : List Entry). d ∷ zs) (take_next log n e h)

take_drop : (log : List Entry) (after n i : ℕ) (e : Entry) → after + n ≡ i → slice_get log i ≡ Some e → take (suc n) (drop after log) ≡ take n (drop after log) ++ e ∷ []
take_drop log zero n i e is got = let same : n ≡ i = omega (arith, is) in take_next log n e (subst (λ (k : ℕ). slice_get log k ≡ Some e) (sym same) got)
take_drop [] (suc after) n i e is got = absurd (cc got)
take_drop (d ∷ log) (suc after) n zero e is got = absurd (omega (arith, is))
take_drop (d ∷ log) (suc after) n (suc i) e is got = take_drop log after n i e (omega (arith, is)) got

-- one entry more
pub range_next : (log : List Entry) (after i : ℕ) (e : Entry) → after ≤ i → slice_get log i ≡ Some e → slice_range log after (i + 1) ≡ slice_range log after i ++ e ∷ []
range_next log after i e low got =
    let more : (i + 1) - after ≡ suc (i - after) = omega (arith, low) in
    rw more (take_drop log after (i - after) i e (omega (arith, low)) got)

-- none
pub range_none : (log : List Entry) (after commit : ℕ) → commit ≤ after → slice_range log after commit ≡ []
range_none log after commit h = let e : commit - after ≡ 0 = omega (arith, h) in rw e refl

-- the digest of the first entries
pub digest_first : (n : ℕ) (links : List Link) (log : List Entry) → links ≡ links_of log → (last_link (take n links)).digest ≡ digest_of (take n log)
digest_first n links log is =
    ap (λ (all : List Link). (last_link (take n all)).digest) is
    ∙ ap (λ (first : List Link). (last_link first).digest) (links_take n log)
    ∙ links_digest (take n log)
