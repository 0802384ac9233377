-- Texts that grow element by element.
use Rattle.std.proofs.Common.{◌≡◌, ◌∙◌, ℕ, ◌+◌, ◌<◌, List, [], ◌∷◌, ◌++◌, length, map, take, get_or, sym, ap}
use Rattle.std.proofs.lemmas.List.{take_more, map-append}
use Rattle.flight.specs.Spelling.{each_text}
use Rattle.flight.specs.Additions.{Adds}
use Rattle.flight.proofs.Lists.{each_push}

module _ {A : Type 0} (all : List A) (i : ℕ) (x : A) (within : i < length all) (is : x ≡ get_or all i x) where
  more : take (i + 1) all ≡ take i all ++ x ∷ []
  more = take_more all i x within ∙ ap (λ y. take i all ++ y ∷ []) (sym is)

  pub seen_more : {V : Type 0} (view : A → V) → map view (take (i + 1) all) ≡ map view (take i all) ++ view x ∷ []
  seen_more view = ap (map view) more ∙ map-append view (take i all) (x ∷ [])

  module _ (a b c : List ℕ) where
    -- one element more
    pub adds_one : (spell : A → List ℕ → List ℕ) → Adds a b (each_text spell (take i all)) → Adds b c (spell x) → Adds a c (each_text spell (take (i + 1) all))
    adds_one spell p q = λ rest. q rest ∙ p (spell x rest) ∙ ap (λ l. a ++ l) (sym (ap (λ l. each_text spell l rest) more ∙ each_push spell (take i all) x rest))

    -- as it is seen
    pub adds_seen : {V : Type 0} (view : A → V) (spell : V → List ℕ → List ℕ) → Adds a b (each_text spell (map view (take i all))) → Adds b c (spell (view x))
        → Adds a c (each_text spell (map view (take (i + 1) all)))
    adds_seen view spell p q = λ rest.
        q rest ∙ p (spell (view x) rest) ∙ ap (λ l. a ++ l) (sym (ap (λ l. each_text spell l rest) (seen_more view) ∙ each_push spell (map view (take i all)) (view x) rest))
