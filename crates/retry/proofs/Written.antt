-- What is known of each client where one client's requests change.
use Rattle.std.proofs.Common.{◌≡◌, ◌∙◌, ℕ, ◌==◌, cond, nat_eq, Bool, true, false, Option, Some, Result, Ok, Err, sym, ap, subst, inl, inr, refl}
use Rattle.std.specs.Result.{OnErr}
use Rattle.std.specs.Option.{IsSome}
use Rattle.std.specs.HashMap.{HashMap, get, UpdatesBy, WritesThrough}
use Rattle.std.proofs.lemmas.Bool.{cases_Bool, eqb-true}
use Rattle.std.proofs.lemmas.Bool.Decides.{eqb_tells}
use Rattle.retry.specs.declared.Latest.{Latest}

pub turned : (a b : ℕ) → nat_eq a b ≡ nat_eq b a
turned a b = elim (eqb_tells a b) [
  | inl y ↦ rw y.1 refl
  | inr n ↦ elim (eqb_tells b a) [ inl y ↦ absurd (n.1 (sym y.1)) | inr m ↦ n.0 ∙ sym m.0 ]
]

pub on_err_too : {A E P : Type 0} (r : Result A E) → P → OnErr r P
on_err_too (Ok a) p = tt
on_err_too (Err e) p = p

module _ {S X : Type 0} (f : Option Latest → X) (m n : HashMap ℕ Latest S) (client : ℕ) where
  -- by the client's new value, and as before for each other
  pub changed : (w : Latest) → UpdatesBy nat_eq (nat_eq client) m n (Some w) → (x : X) → f (Some w) ≡ x → (c : ℕ) → f (get nat_eq n c) ≡ cond (c == client) x (f (get nat_eq m c))
  changed w updates x is c = ap f (updates.0 c) ∙ by (c == client) (ap (λ b. cond b (Some w) (get nat_eq m c)) (turned client c))
    where
      by : (b : Bool) → cond (nat_eq client c) (Some w) (get nat_eq m c) ≡ cond b (Some w) (get nat_eq m c) → f (cond (nat_eq client c) (Some w) (get nat_eq m c)) ≡ cond b x (f (get nat_eq m c))
      by true e = ap f e ∙ is
      by false e = ap f e

  module _ (v w : Latest) (value : Some v ≡ get nat_eq m client) (writes : WritesThrough nat_eq (nat_eq client) m w n) where
    pub written : (x : X) → f (Some w) ≡ x → (c : ℕ) → f (get nat_eq n c) ≡ cond (c == client) x (f (get nat_eq m c))
    written x is = changed w (writes.3 (subst IsSome value refl)) x is

    pub written_back : f (Some w) ≡ f (Some v) → (c : ℕ) → f (get nat_eq n c) ≡ f (get nat_eq m c)
    written_back is c = written (f (Some v)) is c ∙ elim (cases_Bool (c == client)) [
      | inl y ↦ rw y (ap f value ∙ ap (λ k. f (get nat_eq m k)) (sym (eqb-true c client y)))
      | inr other ↦ rw other refl
    ]
