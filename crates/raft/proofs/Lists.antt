use Rattle.std.proofs.Common.{◌≡◌, ◌⊎◌, ◌∙◌, ℕ, zero, suc, ◌+◌, ◌-◌, ◌≤◌, ◌<◌, Bool, ◌&&◌, true, false, not, cond, nat_lt, if◌then◌else◌, Option, Some, option_map, List, [], ◌∷◌, slice_get, slice_set, slice_index_or, ◌++◌, map, take, drop, length, replicate, refl, sym, ap, arith, add-one, inl, inr}
use Rattle.std.proofs.lemmas.List.{drop_all, map_push, length-take, length-drop}
use Rattle.std.proofs.Common.{length-append}
use Rattle.std.proofs.lemmas.Bool.Decides.{leb_tells, eqb_tells}
use Rattle.std.proofs.lemmas.Option.{slice_get_past}
use Rattle.std.proofs.Math.Seq.{drop-cons}
use Rattle.model.specs.declared.entry.Entry.{Entry}
use Rattle.model.specs.Lists.{nth_or, with_nth}
use Rattle.model.specs.Stamps.{above}
use Rattle.model.specs.Members.{others, agreed, has_term, term_of, stands}
use Rattle.model.specs.Steps.{go_on, accepted}
use Rattle.raft.specs.Follows.{may_follow, go_on_from}

-- what a loop over the members sends: nothing to me, one message to each other
pub sent_more : {A : Type 0} (f : ℕ → A) (i me : ℕ) → (i + 1 ≡ me → ⊥) → map f (others (i + 1) me) ≡ map f (others i me) ++ f (i + 1) ∷ []
sent_more f i me h = rw add-one (elim (eqb_tells (suc i) me) [
  | inl e ↦ absurd (h (add-one i ∙ e.1))
  | inr e ↦ rw e.0 (map_push f (others i me) (suc i))
])

pub sent_same : {A : Type 0} (f : ℕ → A) (i me : ℕ) → i + 1 ≡ me → map f (others (i + 1) me) ≡ map f (others i me)
sent_same f i me h = rw add-one (elim (eqb_tells (suc i) me) [
  | inl e ↦ rw e.0 refl
  | inr e ↦ absurd (e.1 (sym (add-one i) ∙ h))
])

-- one entry more of the comparison
pub agreed_step : (log es : List Entry) (j k : ℕ) (e : Entry) → k < length es → e ≡ slice_index_or es k e → agreed log j (drop k es) ≡ (if has_term (slice_get log j) e.term then agreed log (j + 1) (drop (k + 1) es) else j)
agreed_step log es j k e lt is = rw (add-one k, drop-cons es k e, ← is) refl

pub agreed_all : (log es : List Entry) (j k : ℕ) → length es ≤ k → agreed log j (drop k es) ≡ j
agreed_all log es j k h = rw (drop_all k es h) refl

-- one entry more of the test
pub go_on_step : (es : List Entry) (t s bound k : ℕ) (e : Entry) → k < length es → e ≡ slice_index_or es k e → go_on_from t s bound (drop k es) ≡ (may_follow t s bound e && go_on_from e.term (e.stamp + 1) bound (drop (k + 1) es))
go_on_step es t s bound k e lt is = rw (add-one k, drop-cons es k e, ← is) refl

pub go_on_all : (es : List Entry) (t s bound k : ℕ) → length es ≤ k → go_on_from t s bound (drop k es) ≡ true
go_on_all es t s bound k h = rw (drop_all k es h) refl

pub go_on_is : (prev : Option Entry) (bound : ℕ) (es : List Entry) → go_on prev bound es ≡ go_on_from (term_of prev) (above (option_map (λ d. d.stamp) prev)) bound es
go_on_is prev bound [] = refl
go_on_is prev bound (e ∷ es) = ap (λ b. may_follow (term_of prev) (above (option_map (λ d. d.stamp) prev)) bound e && b) (go_on_is (Some e) bound es)

-- how far members are known to match
pub none_within : (m : ℕ) → nth_or [] m 0 ≤ 100000
none_within zero = omega arith
none_within (suc m) = omega arith

zeros_within : (n k : ℕ) → nth_or (replicate n 0) (suc k) 0 ≤ 100000
zeros_within zero k = omega arith
zeros_within (suc n) zero = omega arith
zeros_within (suc n) (suc k) = zeros_within n k

pub zeros : (n m : ℕ) → nth_or (replicate n 0) m 0 ≤ 100000
zeros n zero = omega arith
zeros n (suc k) = zeros_within n k

set_within : (xs : List ℕ) (k v j : ℕ) → nth_or xs (suc j) 0 ≤ 100000 → v ≤ 100000 → nth_or (slice_set xs k v) (suc j) 0 ≤ 100000
set_within [] k v j h w = h
set_within (x ∷ xs) zero v zero h w = w
set_within (x ∷ xs) zero v (suc j) h w = h
set_within (x ∷ xs) (suc k) v zero h w = h
set_within (x ∷ xs) (suc k) v (suc j) h w = set_within xs k v j h w

pub noted_within : (xs : List ℕ) (k v m : ℕ) → nth_or xs m 0 ≤ 100000 → v ≤ 100000 → nth_or (with_nth xs k v) m 0 ≤ 100000
noted_within xs zero v m h w = h
noted_within xs (suc k) v zero h w = omega arith
noted_within xs (suc k) v (suc j) h w = set_within xs k v j h w

-- the length of a log that took entries
pub ltb_tells : (m n : ℕ) → ((nat_lt m n ≡ true) × (m < n)) ⊎ ((nat_lt m n ≡ false) × (n ≤ m))
ltb_tells m n = elim (leb_tells (suc m) n) [ inl h ↦ inl (h.0, omega (arith, h.1)) | inr h ↦ inr (h.0, omega (arith, h.1)) ]

cond_both : {A : Type 0} (P : A → Type 0) (b : Bool) (u v : A) → P u → P v → P (cond b u v)
cond_both P true u v p q = p
cond_both P false u v p q = q

pub record Between (a b c v : ℕ) : Type 0 where
  pub low : a ≤ v
  pub high : v ≤ b
  pub most : v ≤ c

pub agreed_between : (log es : List Entry) (i : ℕ) → i ≤ length log → Between i (i + length es) (length log) (agreed log i es)
agreed_between log [] i h = record { low = omega arith; high = omega arith; most = h }
agreed_between log (e ∷ es) i h = elim (ltb_tells i (length log)) [
  | inl lt ↦
      let more = agreed_between log es (i + 1) (omega (arith, lt.1)) in
      cond_both (Between i (i + length (e ∷ es)) (length log)) (has_term (slice_get log i) e.term) _ _
      (record { low = omega (arith, more.low); high = omega (arith, more.high); most = more.most })
      (record { low = omega arith; high = omega arith; most = h })
  | inr ge ↦ rw (slice_get_past log i (omega (arith, ge.1))) (record { low = omega arith; high = omega arith; most = h })
]

pub room_accepted : (log : List Entry) (prev : ℕ) (es : List Entry) → length log ≤ 100000 → prev ≤ length log → nat_lt 100000 (length (accepted log prev es)) ≡ (nat_lt (agreed log prev es) (prev + length es) && nat_lt 100000 (prev + length es))
room_accepted log prev es small within =
    let j = agreed log prev es in
    let end = prev + length es in
    let far : Between prev (prev + length es) (length log) j = agreed_between log es prev within in
    elim (eqb_tells j end) [
      | inl e ↦ elim (ltb_tells j end) [
        | inl lt ↦ absurd (omega (arith, lt.1, e.1))
        | inr ge ↦ elim (ltb_tells 100000 (length log)) [ inl big ↦ absurd (omega (arith, big.1)) | inr ok ↦ rw (e.0, ge.0, ok.0) refl ]
      ]
      | inr e ↦ elim (ltb_tells j end) [
        | inl lt ↦
            let len : length (take j log ++ drop (j - prev) es) ≡ end = length-append (take j log) (drop (j - prev) es) ∙ omega (arith, length-take j log, length-drop (j - prev) es, far.low, far.high, far.most) in
            rw (e.0, lt.0, len) refl
        | inr ge ↦ absurd (e.1 (omega (arith, ge.1, far.high)))
      ]
    ]

pub is_so : (b : Bool) → not b ≡ false → b ≡ true
is_so true e = refl
is_so false e = absurd (cc e)

pub stands_within : (log : List Entry) (prev t : ℕ) → stands log prev t ≡ true → prev ≤ length log
stands_within log zero t e = omega arith
stands_within log (suc i) t e = elim (ltb_tells i (length log)) [
  | inl lt ↦ omega (arith, lt.1)
  | inr ge ↦ let none : has_term (slice_get log i) t ≡ false = rw (slice_get_past log i (omega (arith, ge.1))) refl in absurd (cc (none, e))
]

-- where entries can come in any log
pub record Reach (a b v : ℕ) : Type 0 where
  pub low : a ≤ v
  pub high : v ≤ b

pub agreed_reach : (log es : List Entry) (i : ℕ) → Reach i (i + length es) (agreed log i es)
agreed_reach log [] i = record { low = omega arith; high = omega arith }
agreed_reach log (e ∷ es) i =
    let more = agreed_reach log es (i + 1) in
    cond_both (Reach i (i + length (e ∷ es))) (has_term (slice_get log i) e.term) _ _
    (record { low = omega (arith, more.low); high = omega (arith, more.high) })
    (record { low = omega arith; high = omega arith })
