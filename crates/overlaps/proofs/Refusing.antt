-- What the laws of `refused` rest on besides the clauses that they speak of.
use Rattle.std.proofs.Common.{◌≡◌, ◌∙◌, Bool, true, false, List, [], ◌∷◌, ◌++◌, Some, ap, refl, inl, inr}
use Rattle.std.specs.Prelude.{find}
use Rattle.std.specs.List.{list_any}
use Rattle.std.proofs.lemmas.Bool.{cases_Bool}

find_past : {T : Type 0} (test : T → Bool) (before : List T) (x : T) (after : List T) → list_any test before ≡ false → test x ≡ true → find test (before ++ x ∷ after) ≡ Some x
find_past test [] x after none here = rw here refl
find_past test (y ∷ before) x after none here = elim (cases_Bool (test y)) [
  | inl h ↦ absurd (let e : true ≡ false = rw h at none in cc)
  | inr h ↦ rw h (find_past test before x after (rw h at none) here)
]

pub found_past : {T : Type 0} (test : T → Bool) (items before : List T) (x : T) (after : List T) → items ≡ before ++ x ∷ after → list_any test before ≡ false → test x ≡ true → find test items ≡ Some x
found_past test items before x after stored none here = ap (find test) stored ∙ find_past test before x after none here
