-- That what is shown is a copy of what a member has.
use Rattle.std.proofs.Common.{◌≡◌, ◌∙◌, ℕ, ◌+◌, ◌-◌, ◌≤◌, List, ◌++◌, length, take, drop, fold, slice_range, sym, ap, subst, arith}
use Rattle.std.proofs.lemmas.List.{take-append-drop, take-take, drop-take}
use Rattle.std.proofs.lemmas.List.Sums.{fold-append}
use Rattle.model.specs.declared.entry.Entry.{Entry}
use Rattle.journal.specs.Digests.{next_digest, digest_of}

-- the first entries, and those after them
pub take_range : (log : List Entry) (k n : ℕ) → k ≤ n → take k log ++ slice_range log k n ≡ take n log
take_range log k n low =
    let whole : k + (n - k) ≡ n = omega (arith, low) in
    let front : take k (take n log) ≡ take k log = take-take k n log low in
    let back : drop k (take n log) ≡ take (n - k) (drop k log) = subst (λ (j : ℕ). drop k (take j log) ≡ take (n - k) (drop k log)) whole (drop-take k (n - k) log) in
    ap (λ (xs : List Entry). xs ++ take (n - k) (drop k log)) (sym front) ∙ ap (λ (xs : List Entry). take k (take n log) ++ xs) (sym back) ∙ take-append-drop k (take n log)

-- of entries with the digest of the first of a log, and those after them, the digest is that of as many of the log
pub same_digest : (old new log : List Entry) (k n : ℕ) (d : List ℕ) → k ≤ n → d ≡ digest_of old → digest_of (take k log) ≡ d → new ≡ old ++ slice_range log k n → digest_of new ≡ digest_of (take n log)
same_digest old new log k n d low had same is =
    ap digest_of is
    ∙ fold-append next_digest _ old (slice_range log k n)
    ∙ ap (λ (before : List ℕ). fold next_digest before (slice_range log k n)) (sym had ∙ sym same)
    ∙ sym (fold-append next_digest _ (take k log) (slice_range log k n))
    ∙ ap digest_of (take_range log k n low)

-- where they are the first of the log, all of them are
pub same_entries : (old new log : List Entry) (k n : ℕ) → k ≤ n → k ≡ length old → new ≡ old ++ slice_range log k n → old ≡ take (length old) log → new ≡ take n log
same_entries old new log k n low many is first =
    let front : old ≡ take k log = first ∙ ap (λ (j : ℕ). take j log) (sym many) in
    is ∙ ap (λ (xs : List Entry). xs ++ slice_range log k n) front ∙ take_range log k n low
