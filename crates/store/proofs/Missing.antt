-- Databases that are there, and members whose database is missing.
use Rattle.std.proofs.Common.{◌≡◌, ◌∙◌, ◌+◌, ◌&&◌, ℕ, Bool, true, false, cond, Option, Some, None, List, [], ◌∷◌, ◌++◌, filter, map, take, slice_get, refl, ap, add-one, append-nil}
use Rattle.std.specs.Prelude.{is_none, is_some}
use Rattle.std.proofs.lemmas.List.{map-append}
use Rattle.std.proofs.lemmas.List.Elements.{filter-append}
use Rattle.std.proofs.lemmas.List.Sums.{fold-append}
use Rattle.store.specs.declared.seat.Seat.{Seat}
use Rattle.store.specs.Opening.{there_in}
use Rattle.store.specs.Seats.{IsMissing, missing_in}
use Rattle.store.proofs.Became.{next_of}

-- one database more
pub there_more : {I : Type 0} (images : List (Option I)) (image : Option I) → there_in (images ++ image ∷ []) ≡ there_in images + cond (is_some image) 1 0
there_more {I} images image = fold-append (λ (n : ℕ) (x : Option I). n + cond (is_some x) 1 0) 0 images (image ∷ [])

both_none : {A B : Type 0} (o : Option A) (p : Option B) → (o ≡ None → p ≡ None → ⊥) → (is_none o && is_none p) ≡ false
both_none None None some = absurd (some refl refl)
both_none None (Some y) some = refl
both_none (Some x) p some = refl

module _ {K J I : Type 0} {an : _} {g : _} {s : _} {d : _} where
  -- the seats before one, and that one
  missing_next : (seats : List (Seat K J I an g s d)) (k : ℕ) (seat : Seat K J I an g s d) → slice_get seats k ≡ Some seat → missing_in (take (k + 1) seats) ≡ missing_in (take k seats) ++ missing_in (seat ∷ [])
  missing_next seats k seat there =
      ap (λ (n : ℕ). missing_in (take n seats)) (add-one k)
      ∙ ap missing_in (next_of seats k seat there)
      ∙ ap (map (λ (x : Seat K J I an g s d). x.member)) (filter-append (λ (x : Seat K J I an g s d). is_none x.node && is_none x.image) (take k seats) (seat ∷ []))
      ∙ map-append (λ (x : Seat K J I an g s d). x.member) (filter (λ (x : Seat K J I an g s d). is_none x.node && is_none x.image) (take k seats)) (filter (λ (x : Seat K J I an g s d). is_none x.node && is_none x.image) (seat ∷ []))

  -- one whose database is missing
  pub missing_more : (seats : List (Seat K J I an g s d)) (k : ℕ) (seat : Seat K J I an g s d) → slice_get seats k ≡ Some seat → IsMissing seat → missing_in (take (k + 1) seats) ≡ missing_in (take k seats) ++ seat.member ∷ []
  missing_more seats k seat there m =
      let both : (is_none seat.node && is_none seat.image) ≡ true = ap (λ o. is_none o && is_none seat.image) m.0 ∙ ap is_none m.1 in
      missing_next seats k seat there ∙ ap (λ (b : Bool). missing_in (take k seats) ++ map (λ (x : Seat K J I an g s d). x.member) (cond b (seat ∷ []) [])) both

  -- one whose database is there
  pub missing_same : (seats : List (Seat K J I an g s d)) (k : ℕ) (seat : Seat K J I an g s d) → slice_get seats k ≡ Some seat → (IsMissing seat → ⊥) → missing_in (take (k + 1) seats) ≡ missing_in (take k seats)
  missing_same seats k seat there m =
      missing_next seats k seat there ∙ ap (λ (b : Bool). missing_in (take k seats) ++ map (λ (x : Seat K J I an g s d). x.member) (cond b (seat ∷ []) [])) (both_none seat.node seat.image (λ n i. m (n, i))) ∙ append-nil (missing_in (take k seats))
