-- A lemma on copies of terms.
use Rattle.std.proofs.Common.{◌≡◌, List, [], ◌∷◌, map, refl}
use Rattle.std.specs.List.{AllZip}
use Rattle.sqlread.specs.declared.term.Term.{Term}
use Rattle.sqlread.specs.Shapes.{term_of}

-- copies of terms mean what the terms mean
pub copies_mean : (terms copies : List Term) → AllZip (λ term copy. term_of copy ≡ term_of term) terms copies → map term_of copies ≡ map term_of terms
copies_mean [] [] same = refl
copies_mean [] (copy ∷ copies) same = absurd same
copies_mean (term ∷ terms) [] same = absurd same
copies_mean (term ∷ terms) (copy ∷ copies) same = λ i. same.0 i ∷ copies_mean terms copies same.1 i
