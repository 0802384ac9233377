-- What the laws of `refused` rest on besides the clauses that they speak of.
use Rattle.std.proofs.Common.{◌≡◌, ◌⊎◌, ℕ, ◌+◌, ◌-◌, ◌<◌, Bool, true, false, not, nat_lt, nat_le, Result, Ok, Err, refl, sym, ap, arith, inl, inr}
use Rattle.std.proofs.lemmas.Bool.{cases_lt, lt-ltb, le-ltb, cases_Bool}
use Rattle.fault.specs.declared.refusal.Refusal.{Refusal}
use Rattle.fault.specs.declared.refusal.Refusal.TheVariants.{EmptyPeriod}
use Rattle.namesyntax.specs.Names.{Bytes}
use Rattle.model.specs.Answers.{SystemTime}
use Rattle.std.specs.Prelude.{IfOk}
use Rattle.sqlchecks.specs.Answering.{◌>>=◌, ◌>>◌, refuse_if, Gives}
use Rattle.sqlread.specs.declared.time.SystemTime.{SystemTime as TimeRead}
use Rattle.sqlread.specs.Shapes.{time_of}
use Rattle.sqlchecks.specs.Literals.{instant_named}
use Rattle.sqlread.specs.Questions.{time_in}

-- ---- FROM .. TO

pub ends_before : (s end : ℕ) (time : SystemTime) → (refuse_if (not (nat_lt s end)) EmptyPeriod >> (Ok (record { first = s; last = end - 1 }))) ≡ Ok time → time.last + 1 ≡ end
ends_before s end time e = elim (cases_lt s end) [
  | inl lt ↦
      let q : Ok (record { first = s; last = end - 1 }) ≡ Ok time = rw (lt-ltb s end lt) at e in
      let l : end - 1 ≡ time.last = cc in
      omega (arith, l, lt)
  | inr ge ↦
      let q : Err EmptyPeriod ≡ Ok time = rw (le-ltb s end ge) at e in
      cc
]

pub last_before : (from to : Bytes) (end : ℕ) (time : SystemTime) → instant_named to ≡ Ok end → time_in (inr (inl (from, to))) ≡ Ok time → time.last + 1 ≡ end
unfolding time_in
last_before from to end time named is = elim (instant_named from) as (λ f. (f >>= (λ start. instant_named to >>= (λ e. refuse_if (not (nat_lt start e)) EmptyPeriod >> (Ok (record { first = start; last = e - 1 }))))) ≡ Ok time → time.last + 1 ≡ end) [
  | Ok s ↦ λ h. ends_before s end time (rw named at h)
  | Err r ↦ λ h. cc
] is

-- ---- BETWEEN

pub ends_at : (s end : ℕ) (time : SystemTime) → (refuse_if (not (nat_le s end)) EmptyPeriod >> (Ok (record { first = s; last = end }))) ≡ Ok time → time.last ≡ end
ends_at s end time e = elim (cases_Bool (nat_le s end)) [
  | inl low ↦
      let q : Ok (record { first = s; last = end }) ≡ Ok time = rw low at e in
      cc
  | inr high ↦
      let q : Err EmptyPeriod ≡ Ok time = rw high at e in
      cc
]

pub last_of : (from to : Bytes) (last : ℕ) (time : SystemTime) → instant_named to ≡ Ok last → time_in (inr (inr (from, to))) ≡ Ok time → time.last ≡ last
unfolding time_in
last_of from to last time named is = elim (instant_named from) as (λ f. (f >>= (λ start. instant_named to >>= (λ e. refuse_if (not (nat_le start e)) EmptyPeriod >> (Ok (record { first = start; last = e }))))) ≡ Ok time → time.last ≡ last) [
  | Ok s ↦ λ h. ends_at s last time (rw named at h)
  | Err r ↦ λ h. cc
] is

-- ---- what is read

pub from_to_ends : (r : Result TimeRead Refusal) (from to : Bytes) (end : ℕ) → Gives time_of r (time_in (inr (inl (from, to)))) → instant_named to ≡ Ok end → IfOk r (λ time. time.last + 1 ≡ end)
from_to_ends (Ok time) from to end is named = last_before from to end (time_of time) named is
from_to_ends (Err e) from to end is named = tt

pub between_ends : (r : Result TimeRead Refusal) (from to : Bytes) (last : ℕ) → Gives time_of r (time_in (inr (inr (from, to)))) → instant_named to ≡ Ok last → IfOk r (λ time. time.last ≡ last)
between_ends (Ok time) from to last is named = last_of from to last (time_of time) named is
between_ends (Err e) from to last is named = tt
