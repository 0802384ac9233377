-- What an entry is that a core fetches, and what is stored while it has a step to go on from.
use Rattle.std.proofs.Common.{◌≡◌, ◌∙◌, ℕ, zero, suc, min, ◌+◌, ◌≤◌, Option, Some, None, List, [], ◌∷◌, slice_get, take, length, sym, ap, subst, arith, rules}
use Rattle.std.proofs.Common.{length-append}
use Rattle.std.proofs.lemmas.List.{length-take}
use Rattle.std.specs.Prelude.{vec_len}
use Rattle.model.specs.declared.entry.Entry.{Entry}
use Rattle.model.specs.Lists.{nth}
use Rattle.keep.specs.Durable.{Durable}
use Rattle.raft.specs.declared.state.Core.{Core}
use Rattle.raft.specs.View.{IsInStep, Reaches, log_of}

pub fetched : (c : Core) (d : Durable) (before : ℕ) (e : Entry) (found : Option Entry) → IsInStep c d → found ≡ nth (log_of c d.log) (before + 1) → found ≡ Some e → slice_get d.log before ≡ Some e
fetched c d before e found step is some =
    let next : before + 1 ≡ suc before = omega arith in
    let there : nth (log_of c d.log) (suc before) ≡ Some e = subst (λ n. nth (log_of c d.log) n ≡ Some e) next (sym is ∙ some) in
    subst (λ (log : List Entry). slice_get log before ≡ Some e) (sym step.log) there

-- how long the log is
sum_of : (n s t k : ℕ) → n ≡ k + t → k ≡ min s n → (1 ≤ s → 1 ≤ t) → n ≡ s + t
sum_of n zero t k e m h = omega (arith, e, m)
sum_of n (suc s) t k e m h = omega (arith, e, m, h (omega arith))

pub length_in_step : (c : Core) (d : Durable) → IsInStep c d → length d.log ≡ c.log.elsewhere + vec_len c.log.tail
length_in_step c d step =
    let len : length d.log ≡ length (take c.log.elsewhere d.log) + length c.log.tail.items = ap length step.log ∙ length-append (take c.log.elsewhere d.log) c.log.tail.items in
    let tail : length c.log.tail.items ≡ vec_len c.log.tail = search rules in
    sum_of (length d.log) c.log.elsewhere (vec_len c.log.tail) (length (take c.log.elsewhere d.log)) (omega (arith, len, tail)) (length-take c.log.elsewhere d.log) c.log.ends

pub length_of_log : (c : Core) (d : Durable) → IsInStep c d → length (log_of c d.log) ≡ c.log.elsewhere + vec_len c.log.tail
length_of_log c d step = ap (λ (log : List Entry). length log) (sym step.log) ∙ length_in_step c d step

-- the entries that the reader has are there
pub reached : (c : Core) (d : Durable) → IsInStep c d → Reaches c d.log
reached c d step = omega (arith, length_in_step c d step)

-- an index of the log has an entry
past : (xs : List Entry) (i : ℕ) → slice_get xs i ≡ None → i + 1 ≤ length xs → ⊥
past [] i gone low = absurd (omega (arith, low))
past (x ∷ xs) zero gone low = cc gone
past (x ∷ xs) (suc i) gone low = past xs i gone (omega (arith, low))
