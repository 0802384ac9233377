-- Where a log is cut: at the first entry that is another one.
use Rattle.std.proofs.Common.{◌≡◌, ◌∙◌, ℕ, zero, suc, ◌+◌, ◌-◌, ◌≤◌, ◌<◌, min, Bool, true, false, cond, Option, Some, None, List, [], ◌∷◌, ◌++◌, take, drop, length, slice_get, refl, sym, ap, subst, arith, inl, inr}
use Rattle.std.proofs.Common.{length-append}
use Rattle.std.proofs.lemmas.List.{take-append-le, take-take, length-take, length-drop}
use Rattle.std.proofs.lemmas.Bool.Decides.{eqb_tells}
use Rattle.model.specs.declared.entry.Entry.{Entry}
use Rattle.std.specs.Prelude.{vec_len}
use Rattle.model.specs.Members.{agreed, has_term, term_of}
use Rattle.raft.specs.declared.short_log.ShortLog.{ShortLog}
use Rattle.raft.specs.Saved.{whole, Cut, IsSaved, Tells}
use Rattle.raft.proofs.Lists.{Between, agreed_between, ltb_tells}
use Rattle.raft.proofs.Windows.{whole_length}

-- ---- an entry of a part of a list

got_take : {A : Type 0} (xs : List A) (k j : ℕ) → k < j → slice_get (take j xs) k ≡ slice_get xs k
got_take xs k zero lt = absurd (omega (arith, lt))
got_take [] k (suc j) lt = refl
got_take (x ∷ xs) zero (suc j) lt = refl
got_take (x ∷ xs) (suc k) (suc j) lt = got_take xs k j (omega (arith, lt))

got_drop : {A : Type 0} (xs : List A) (n : ℕ) → slice_get (drop n xs) zero ≡ slice_get xs n
got_drop xs zero = refl
got_drop [] (suc n) = refl
got_drop (x ∷ xs) (suc n) = got_drop xs n

got_seam : {A : Type 0} (xs ys : List A) (n : ℕ) → n ≡ length xs → slice_get (xs ++ ys) n ≡ slice_get ys zero
got_seam [] ys zero e = refl
got_seam [] ys (suc n) e = absurd (omega (arith, e))
got_seam (x ∷ xs) ys zero e = absurd (omega (arith, e))
got_seam (x ∷ xs) ys (suc n) e = got_seam xs ys n (omega (arith, e))

-- ---- the first entry of another term

agreed_low : (log es : List Entry) (i : ℕ) → i ≤ agreed log i es
agreed_low log [] i = omega arith
agreed_low log (e ∷ es) i = elim (has_term (slice_get log i) e.term) as (λ b. i ≤ cond b (agreed log (i + 1) es) i) [
  | true ↦ let more = agreed_low log es (i + 1) in omega (arith, more)
  | false ↦ omega arith
]

not_of_term : (o : Option Entry) (t : ℕ) → (o ≡ None → ⊥) → has_term o t ≡ false → t ≡ term_of o → ⊥
not_of_term None t some is e = some refl
not_of_term (Some d) t some is e = elim (eqb_tells d.term t) [
  | inl same ↦ absurd (cc (same.0, is))
  | inr other ↦ other.1 (sym e)
]

within_some : (log : List Entry) (j : ℕ) → j < length log → slice_get log j ≡ None → ⊥
within_some [] j lt e = omega (arith, lt)
within_some (d ∷ log) zero lt e = cc e
within_some (d ∷ log) (suc j) lt e = within_some log j (omega (arith, lt)) e

-- the first entry where log and entries part is of another term in each
agreed_parts : (log es : List Entry) (i : ℕ) → agreed log i es < i + length es → agreed log i es < length log → term_of (slice_get es (agreed log i es - i)) ≡ term_of (slice_get log (agreed log i es)) → ⊥
agreed_parts log [] i lt within e = omega (arith, lt)
agreed_parts log (e ∷ es) i lt within same =
    let P : Bool → Type 0 = λ b. has_term (slice_get log i) e.term ≡ b → cond b (agreed log (i + 1) es) i < i + length (e ∷ es) → cond b (agreed log (i + 1) es) i < length log → term_of (slice_get (e ∷ es) (cond b (agreed log (i + 1) es) i - i)) ≡ term_of (slice_get log (cond b (agreed log (i + 1) es) i)) → ⊥ in
    let parts : P (has_term (slice_get log i) e.term) = elim (has_term (slice_get log i) e.term) as P [
      | true ↦ λ is below inside alike.
          let j = agreed log (i + 1) es in
          let low = agreed_low log es (i + 1) in
          let back : j - i ≡ suc (j - (i + 1)) = omega (arith, low) in
          agreed_parts log es (i + 1) (omega (arith, below)) inside (ap (λ n. term_of (slice_get (e ∷ es) n)) (sym back) ∙ alike)
      | false ↦ λ is below inside alike.
          let none : i - i ≡ zero = omega arith in
          not_of_term (slice_get log i) e.term (within_some log i inside) is (ap (λ n. term_of (slice_get (e ∷ es) n)) (sym none) ∙ alike)
    ] in
    parts refl lt within same

-- ---- cuts

cut_there : (log es : List Entry) (prev : ℕ) → prev ≤ length log → agreed log prev es < prev + length es → Cut (agreed log prev es) log (take (agreed log prev es) log ++ drop (agreed log prev es - prev) es)
cut_there log es prev within lt =
    let j = agreed log prev es in
    let far : Between prev (prev + length es) (length log) j = agreed_between log es prev within in
    let len : length (take j log) ≡ j = omega (arith, length-take j log, far.most) in
    let at : slice_get (take j log ++ drop (j - prev) es) j ≡ slice_get es (j - prev) = got_seam (take j log) (drop (j - prev) es) j (sym len) ∙ got_drop es (j - prev) in
    record {
      within = far.most;
      begins = take-append-le j (take j log) (drop (j - prev) es) (omega (arith, len)) ∙ take-take j j log (omega arith);
      more = omega (arith, length-append (take j log) (drop (j - prev) es), len, length-drop (j - prev) es, far.low, lt);
      other = λ low same. agreed_parts log es prev lt low (ap term_of (sym at ∙ same));
    }

-- entries that a log agrees with up to an index cut it there
accepted_cut : (log es new : List Entry) (prev j : ℕ) → j ≡ agreed log prev es → prev ≤ length log → j < prev + length es → new ≡ take j log ++ drop (j - prev) es → Cut j log new
accepted_cut log es new prev j at within lt is =
    let P : ℕ → Type 0 = λ i. i < prev + length es → new ≡ take i log ++ drop (i - prev) es → Cut i log new in
    let here : P (agreed log prev es) = λ low whole_is. subst (λ (l : List Entry). Cut (agreed log prev es) log l) (sym whole_is) (cut_there log es prev within low) in
    subst P (sym at) here lt is

-- ---- what a log tells

pub tells_cut : (stored : List Entry) (old new : ShortLog) (es rest : List Entry) (prev j : ℕ) → old.elsewhere ≤ length stored → IsSaved old → j ≤ old.elsewhere + vec_len old.tail → prev ≤ j → j ≡ agreed (whole old stored) prev es → j < prev + length es → rest ≡ drop (j - prev) es → whole new stored ≡ take j (whole old stored) ++ rest → new.saved ≡ min old.saved j → Tells stored old new
tells_cut stored old new es rest prev j there all within low at lt part is saved =
    let len : length (whole old stored) ≡ old.elsewhere + vec_len old.tail = whole_length old stored there in
    let here : j ≡ new.saved = omega (arith, saved, all, within) in
    let cut : Cut j (whole old stored) (whole new stored) = accepted_cut (whole old stored) es (whole new stored) prev j at (omega (arith, len, within, low)) lt (is ∙ ap (λ (xs : List Entry). take j (whole old stored) ++ xs) part) in
    inr (subst (λ (k : ℕ). Cut k (whole old stored) (whole new stored)) here cut)

-- ---- what follows from a cut

-- no longer beginning of the old log is one of the new
pub cut_most : (k j : ℕ) (old new : List Entry) → Cut k old new → j ≤ length old → take j new ≡ take j old → j ≤ k
cut_most k j old new cut within same = elim (ltb_tells k j) [
  | inl lt ↦
      let at : slice_get new k ≡ slice_get old k = sym (got_take new k j lt.1) ∙ ap (λ xs. slice_get xs k) same ∙ got_take old k j lt.1 in
      absurd (cut.other (omega (arith, lt.1, within)) at)
  | inr ge ↦ ge.1
]

-- and the new log is another
pub cut_changes : (k : ℕ) (old new : List Entry) → Cut k old new → new ≡ old → ⊥
cut_changes k old new cut same = cut.other (omega (arith, cut.more, ap length same)) (ap (λ xs. slice_get xs k) same)
