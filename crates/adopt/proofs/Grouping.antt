-- Flights that are read, one text more at a time.
use Rattle.std.proofs.Common.{◌≡◌, ◌<◌, ◌+◌, ◌∙◌, ℕ, List, [], ◌∷◌, ◌++◌, length, get_or, take, ap, sym, subst}
use Rattle.std.specs.List.{AllZip}
use Rattle.std.specs.declared.string.String.{String}
use Rattle.std.specs.declared.alloc.Global.{Global}
use Rattle.std.proofs.lemmas.List.{take_more}
use Rattle.flight.specs.declared.flight.Flight.{Flight}
use Rattle.adopt.specs.Group.{IsRead}

zip_push : (xs : List (String Global)) (ys : List Flight) (x : String Global) (y : Flight) → AllZip IsRead xs ys → IsRead x y → AllZip IsRead (xs ++ x ∷ []) (ys ++ y ∷ [])
zip_push [] [] x y zip here = (here, tt)
zip_push [] (b ∷ ys) x y zip here = absurd zip
zip_push (a ∷ xs) [] x y zip here = absurd zip
zip_push (a ∷ xs) (b ∷ ys) x y (first, zip) here = (first, zip_push xs ys x y zip here)

-- one text more
pub zip_more : (xs : List (String Global)) (ys : List Flight) (i : ℕ) (x : String Global) (y : Flight) → i < length xs → x ≡ get_or xs i x → AllZip IsRead (take i xs) ys → IsRead x y → AllZip IsRead (take (i + 1) xs) (ys ++ y ∷ [])
zip_more xs ys i x y less is zip here =
    let grown : take i xs ++ x ∷ [] ≡ take (i + 1) xs = ap (λ (z : String Global). take i xs ++ z ∷ []) is ∙ sym (take_more xs i x less) in
    subst (λ zs. AllZip IsRead zs (ys ++ y ∷ [])) grown (zip_push (take i xs) ys x y zip here)
