-- What is told at the ends of a function that puts texts.
use Rattle.std.proofs.Common.{◌≡◌, ℕ, List, Result, Ok, Err, subst}
use Rattle.std.specs.Prelude.{MatchResult}
use Rattle.std.specs.Result.{IsErr}
use Rattle.answertext.specs.Sinks.{Puts}

-- a fault
pub at_err : {T E : Type 0} (r : Result T E) (P Q : Type 0) → IsErr r → Q → MatchResult r (λ _. P) (λ _. Q)
at_err (Ok x) P Q failed q = cc
at_err (Err e) P Q failed q = q

-- after what came before
pub after : {T E : Type 0} (r : Result T E) (P Q P' Q' : Type 0) → MatchResult r (λ _. P) (λ _. Q) → (P → P') → (Q → Q') → MatchResult r (λ _. P') (λ _. Q')
after (Ok x) P Q P' Q' m f g = f m
after (Err e) P Q P' Q' m f g = g m

-- of another text that is the same
module _ {S : Type 0} (takes begins : S → List ℕ → S → Type 0) where
  pub puts_same : {E : Type 0} (a b : S) (r : Result (Unit {0}) E) (x y : List ℕ) → x ≡ y → Puts takes begins a r x b → Puts takes begins a r y b
  puts_same {E} a b r x y e p = let P : List ℕ → Type 0 = λ t. Puts takes begins a r t b in subst P e p

  pub fault_in : {E : Type 0} (a b : S) (r : Result (Unit {0}) E) (x y : List ℕ) → IsErr r → x ≡ y → begins a x b → Puts takes begins a r y b
  fault_in {E} a b r x y failed e p = let P : List ℕ → Type 0 = λ t. begins a t b in at_err r (takes a y b) (begins a y b) failed (subst P e p)
