-- The fields from a place on, and where they stand.
use Rattle.std.proofs.Common.{◌≡◌, ℕ, zero, suc, ◌+◌, ◌<◌, length, List, [], ◌∷◌, drop, Some, None, refl, ap, ◌∙◌, arith}
use Rattle.std.proofs.Common.{Bool}
use Rattle.csv.specs.Records.{field_at}
use Rattle.transfer.specs.Lines.{before_field}

at_next : (fields : List (List ℕ)) (place : ℕ) (field : List ℕ) → field_at fields place ≡ Some field → drop place fields ≡ field ∷ drop (suc place) fields
unfolding field_at
at_next [] place field e = absurd cc
at_next (f ∷ fs) zero field e = let same : f ≡ field = cc in ap (λ x. x ∷ fs) same
at_next (f ∷ fs) (suc place) field e = at_next fs place field e

pub drop_field : (fields : List (List ℕ)) (place : ℕ) (field : List ℕ) → field_at fields place ≡ Some field → drop place fields ≡ field ∷ drop (place + 1) fields
drop_field fields place field e = let next : suc place ≡ place + 1 = omega arith in at_next fields place field e ∙ ap (λ n. field ∷ drop n fields) next

-- each place below their number has one
pub some_at : (fields : List (List ℕ)) (place : ℕ) → place < length fields → field_at fields place ≡ None → ⊥
unfolding field_at
some_at [] place lt e = omega arith
some_at (f ∷ fs) zero lt e = cc
some_at (f ∷ fs) (suc place) lt e = some_at fs place (omega arith) e

-- where no field is left to be passed no byte is
pub none_left : (quoted : Bool) (left : ℕ) (rest : List ℕ) → left ≡ 0 → before_field quoted left rest ≡ 0
none_left quoted left [] e = refl
none_left quoted left (b ∷ bs) e = ap (λ n. before_field quoted n (b ∷ bs)) e
