-- Texts one after another, with and without commas between them.
use Rattle.std.proofs.Common.{◌≡◌, ◌∙◌, ℕ, ◌+◌, ◌<◌, List, [], ◌∷◌, ◌++◌, length, map, take, drop, get_or, refl, sym, ap, append_assoc, arith}
use Rattle.std.proofs.lemmas.List.{append-nil, take_more, take-append-drop, length-append}
use Rattle.std.proofs.lemmas.Grind.{flat_map-append}
use Rattle.std.specs.List.{flat_map}
use Rattle.answertext.specs.Answers.{joined}

-- what stands before the next one
abbrev pub comma_after : {A : Type 0} → List A → List ℕ
comma_after [] = []
comma_after (x ∷ xs) = 44 ∷ []

comma-more : {A : Type 0} (xs : List A) (x : A) → comma_after (xs ++ x ∷ []) ≡ 44 ∷ []
comma-more [] x = refl
comma-more (y ∷ ys) x = refl

joined-more : {A : Type 0} (f : A → List ℕ) (xs : List A) (x : A) → joined (map f (xs ++ x ∷ [])) ≡ joined (map f xs) ++ (comma_after xs ++ f x)
joined-more f [] x = refl
joined-more f (y ∷ []) x = refl
joined-more f (y ∷ z ∷ zs) x =
    ap (λ l. f y ++ (44 ∷ l)) (joined-more f (z ∷ zs) x) ∙ sym (append_assoc (f y) (44 ∷ joined (map f (z ∷ zs))) (44 ∷ f x))

joined-rest : {A : Type 0} (f : A → List ℕ) (xs ys : List A) → 0 < length xs → joined (map f (xs ++ ys)) ≡ joined (map f xs) ++ flat_map (λ y. 44 ∷ f y) ys
joined-rest f [] ys none = absurd (omega arith)
joined-rest f (x ∷ []) [] some = sym (append-nil (f x))
joined-rest f (x ∷ []) (y ∷ ys) some = ap (λ l. f x ++ (44 ∷ l)) (joined-rest f (y ∷ []) ys (omega arith))
joined-rest f (x ∷ z ∷ zs) ys some =
    ap (λ l. f x ++ (44 ∷ l)) (joined-rest f (z ∷ zs) ys (omega arith)) ∙ sym (append_assoc (f x) (44 ∷ joined (map f (z ∷ zs))) (flat_map (λ y. 44 ∷ f y) ys))

module _ {A : Type 0} (f : A → List ℕ) (all : List A) (i : ℕ) (item : A) (within : i < length all) (is : item ≡ get_or all i item) where
  more : take (i + 1) all ≡ take i all ++ item ∷ []
  more = take_more all i item within ∙ ap (λ x. take i all ++ x ∷ []) (sym is)

  -- with commas between them
  module _ (comma : List ℕ) (before : comma ≡ comma_after (take i all)) where
    pub joined-next : joined (map f (take i all)) ++ (comma ++ f item) ≡ joined (map f (take (i + 1) all))
    joined-next =
        ap (λ c. joined (map f (take i all)) ++ (c ++ f item)) before
        ∙ sym (joined-more f (take i all) item)
        ∙ ap (λ l. joined (map f l)) (sym more)

    -- those after it
    abbrev pub joined_after : List ℕ
    joined_after = flat_map (λ x. 44 ∷ f x) (drop (i + 1) all)

    pub joined-all : (joined (map f (take i all)) ++ (comma ++ f item)) ++ joined_after ≡ joined (map f all)
    joined-all =
        let some : 0 < length (take (i + 1) all) = omega (arith, ap length more, length-append (take i all) (item ∷ [])) in
        ap (λ l. l ++ joined_after) joined-next
        ∙ sym (joined-rest f (take (i + 1) all) (drop (i + 1) all) some)
        ∙ ap (λ l. joined (map f l)) (take-append-drop (i + 1) all)

    pub comma-next : 44 ∷ [] ≡ comma_after (take (i + 1) all)
    comma-next = sym (comma-more (take i all) item) ∙ ap comma_after (sym more)

  -- with nothing between them
  pub flat-next : flat_map f (take i all) ++ f item ≡ flat_map f (take (i + 1) all)
  flat-next =
      ap (λ l. flat_map f (take i all) ++ l) (sym (append-nil (f item)))
      ∙ sym (flat_map-append f (take i all) (item ∷ []))
      ∙ ap (flat_map f) (sym more)

  abbrev pub flat_after : List ℕ
  flat_after = flat_map f (drop (i + 1) all)

  pub flat-all : (flat_map f (take i all) ++ f item) ++ flat_after ≡ flat_map f all
  flat-all =
      ap (λ l. l ++ flat_after) flat-next
      ∙ sym (flat_map-append f (take (i + 1) all) (drop (i + 1) all))
      ∙ ap (flat_map f) (take-append-drop (i + 1) all)

-- each made from an item of another list
pub flat_of_map : {A B : Type 0} (f : B → List ℕ) (g : A → B) (list : List A) → flat_map (λ a. f (g a)) list ≡ flat_map f (map g list)
flat_of_map f g [] = refl
flat_of_map f g (a ∷ list) = ap (λ l. f (g a) ++ l) (flat_of_map f g list)

module _ {A B : Type 0} (f : B → List ℕ) (g : A → B) (all : List A) (i : ℕ) (item : A) (within : i < length all) (is : item ≡ get_or all i item) where
  pub mapped-next : flat_map f (map g (take i all)) ++ f (g item) ≡ flat_map f (map g (take (i + 1) all))
  mapped-next =
      ap (λ l. l ++ f (g item)) (sym (flat_of_map f g (take i all)))
      ∙ flat-next (λ a. f (g a)) all i item within is
      ∙ flat_of_map f g (take (i + 1) all)

  pub mapped-all : (flat_map f (map g (take i all)) ++ f (g item)) ++ flat_after (λ a. f (g a)) all i item within is ≡ flat_map f (map g all)
  mapped-all =
      ap (λ l. (l ++ f (g item)) ++ flat_after (λ a. f (g a)) all i item within is) (sym (flat_of_map f g (take i all)))
      ∙ flat-all (λ a. f (g a)) all i item within is
      ∙ flat_of_map f g all
