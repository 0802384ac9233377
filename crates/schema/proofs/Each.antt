-- Lists of checks, one after another.
use Rattle.std.proofs.Common.{◌≡◌, ℕ, ◌+◌, ◌<◌, ◌≤◌, List, [], ◌∷◌, ◌++◌, length, take, drop, get_or, Some, None, Result, Ok, Err, IsErrAnd, refl, sym, ◌∙◌, ap, arith, add-one}
use Rattle.std.proofs.lemmas.List.{drop_all}
use Rattle.std.proofs.Math.Seq.{take-suc, drop-cons as drop_next}
use Rattle.fault.specs.declared.refusal.Refusal.{Refusal}
use Rattle.schema.specs.Checks.{Check, first_failing, each_after, each, Answers}

-- where none of the first fails, the first that fails is among the second
pub passed : (xs ys : List Check) → first_failing xs ≡ None → first_failing (xs ++ ys) ≡ first_failing ys
passed [] ys none = refl
passed (x ∷ xs) ys none = grind (arith, passed xs ys)

pub failed : (xs ys : List Check) (r : Refusal) → first_failing xs ≡ Some r → first_failing (xs ++ ys) ≡ Some r
failed [] ys r fails = cc
failed (x ∷ xs) ys r fails = grind (arith, failed xs ys r)

module _ {A : Type 0} (checks : List A → A → List Check) (xs : List A) (i : ℕ) (d : A) where
  -- the checks of what is left are those of the next, and then those of the rest
  pub each_after-next : i < length xs → each_after (take i xs) checks (drop i xs) ≡ checks (take i xs) (get_or xs i d) ++ each_after (take (i + 1) xs) checks (drop (i + 1) xs)
  each_after-next h = rw (add-one, take-suc xs i d h, drop_next xs i d h) refl

-- the first that fails among what is left is the first of all
pub record LeftAsAll {A : Type 0} (checks : List A → A → List Check) (xs : List A) (i : ℕ) : Type 0 where
  pub same : first_failing (each_after (take i xs) checks (drop i xs)) ≡ first_failing (each checks xs)

module _ {A : Type 0} (checks : List A → A → List Check) (xs : List A) where
  pub left_next : (i : ℕ) (x : A) → i < length xs → LeftAsAll checks xs i → x ≡ get_or xs i x → first_failing (checks (take i xs) x) ≡ None → LeftAsAll checks xs (i + 1)
  left_next i x h left is none = record { same = sym (ap first_failing (each_after-next checks xs i x h) ∙ passed (checks (take i xs) (get_or xs i x)) (each_after (take (i + 1) xs) checks (drop (i + 1) xs)) (ap (λ y. first_failing (checks (take i xs) y)) (sym is) ∙ none)) ∙ left.same }

  pub left_failed : (i : ℕ) (x : A) (r : Refusal) → i < length xs → LeftAsAll checks xs i → x ≡ get_or xs i x → first_failing (checks (take i xs) x) ≡ Some r → first_failing (each checks xs) ≡ Some r
  left_failed i x r h left is some = sym left.same ∙ ap first_failing (each_after-next checks xs i x h) ∙ failed (checks (take i xs) (get_or xs i x)) (each_after (take (i + 1) xs) checks (drop (i + 1) xs)) r (ap (λ y. first_failing (checks (take i xs) y)) (sym is) ∙ some)

  pub left_end : (i : ℕ) → length xs ≤ i → LeftAsAll checks xs i → first_failing (each checks xs) ≡ None
  left_end i h left = sym left.same ∙ rw (drop_all i xs h) refl

pub answers_err : {X : Type 0} (result : Result X Refusal) (r : Refusal) (checks : List Check) → IsErrAnd result (λ e. e ≡ r) → first_failing checks ≡ Some r → Answers result checks
answers_err (Ok x) r checks is some = absurd is
answers_err (Err e) r checks is some = some ∙ ap Some (sym is)
