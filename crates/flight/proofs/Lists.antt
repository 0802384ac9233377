-- Lists that are read element by element.
use Rattle.std.proofs.Common.{◌≡◌, ◌≢◌, ◌∙◌, ℕ, ◌<◌, ◌≤◌, List, [], ◌∷◌, ◌++◌, length, refl, sym, ap, subst, arith, append_assoc, append-nil, inl, inr, length-append}
use Rattle.std.specs.Prelude.{All, ⊤}
use Rattle.std.proofs.lemmas.List.Elements.{All-push, All-head, All-tail, All-same}
use Rattle.fault.specs.declared.refusal.Refusal.{Refusal}
use Rattle.flight.specs.Spelling.{each_text}
use Rattle.flight.specs.Reading.{Spells, SpellsOnly, SpellsOnlyTo, IsUnread, IsUnreadTo, IsNotBegun}
use Rattle.flight.specs.Courses.{IsUntil, until_text}

module _ {A : Type 0} (Is : A → Type 0) where
  pub all_later : (xs : List A) (y : A) (ys : List A) → All Is (xs ++ y ∷ ys) → Is y × All Is ys
  all_later [] y ys h = (All-head Is y ys h, All-tail Is y ys h)
  all_later (x ∷ xs) y ys h = all_later xs y ys (All-tail Is x (xs ++ y ∷ ys) h)

-- These elements were read from the text, and this is left of it. A list of elements that fits, and that the text spells, begins with
-- them, and what is left spells its others.
pub record Taken (A : Type 0) (Is : A → Type 0) (spell : A → List ℕ → List ℕ) (Fits : List A → List ℕ → Type 0) (text : List ℕ) (taken : List A) (left : List ℕ) : Type 0 where
  pub whole : text ≡ each_text spell taken left
  pub range : All Is taken
  pub goes_on : (xs : List A) (other : List ℕ) → All Is xs → Fits xs other → text ≡ each_text spell xs other → (more : List A) × (xs ≡ taken ++ more) × (left ≡ each_text spell more other)

pub each_push : {A : Type 0} (spell : A → List ℕ → List ℕ) (xs : List A) (x : A) (rest : List ℕ) → each_text spell (xs ++ x ∷ []) rest ≡ each_text spell xs (spell x rest)
each_push spell [] x rest = refl
each_push spell (y ∷ ys) x rest = ap (spell y) (each_push spell ys x rest)

module _ {A : Type 0} (Is : A → Type 0) (spell : A → List ℕ → List ℕ) (Fits : List A → List ℕ → Type 0) (text : List ℕ) where
  module _ (taken : List A) (left : List ℕ) where
    -- a list that fits, and goes on, goes on with this element
    abbrev pub IsNext : A → List ℕ → Type 0
    IsNext x rest = (y : A) (ys : List A) (other : List ℕ) → Is y → Fits (taken ++ y ∷ ys) other → left ≡ spell y (each_text spell ys other) → (y ≡ x) × (each_text spell ys other ≡ rest)

    further : (x : A) (rest : List ℕ) → IsNext x rest → ((other : List ℕ) → Fits taken other → left ≢ other)
        → (xs : List A) (other : List ℕ) → All Is xs → Fits xs other → (more : List A) → xs ≡ taken ++ more → left ≡ each_text spell more other
        → (later : List A) × (xs ≡ (taken ++ x ∷ []) ++ later) × (rest ≡ each_text spell later other)
    further x rest only stays xs other is fits [] p e = absurd (stays other (subst (λ (l : List A). Fits l other) (p ∙ append-nil taken) fits) e)
    further x rest only stays xs other is fits (y ∷ ys) p e =
        let parts = all_later Is taken y ys (All-same Is _ _ (sym p) is) in
        let o = only y ys other parts.0 (subst (λ (l : List A). Fits l other) p fits) e in
        (ys, p ∙ ap (λ z. taken ++ z ∷ ys) o.0 ∙ sym (append_assoc taken (x ∷ []) ys), sym o.1)

    -- one element more
    pub taken_more : (x : A) (rest : List ℕ) → Taken A Is spell Fits text taken left → Spells Is spell left x rest → IsNext x rest
        → ((other : List ℕ) → Fits taken other → left ≢ other) → Taken A Is spell Fits text (taken ++ x ∷ []) rest
    taken_more x rest t s only stays = record {
      whole = t.whole ∙ ap (λ l. each_text spell taken l) s.1 ∙ sym (each_push spell taken x rest);
      range = All-push Is taken x t.range s.0;
      goes_on = λ xs other is fits e.
          let g = t.goes_on xs other is fits e in
          further x rest only stays xs other is fits g.0 g.1 g.2;
    }

    all_of : (xs : List A) (other : List ℕ) → ((y : A) (ys : List A) → Is y → xs ≡ taken ++ y ∷ ys → left ≢ spell y (each_text spell ys other)) → All Is xs
        → (more : List A) → xs ≡ taken ++ more → left ≡ each_text spell more other → (xs ≡ taken) × (other ≡ left)
    all_of xs other none is [] p e = (p ∙ append-nil taken, sym e)
    all_of xs other none is (y ∷ ys) p e = absurd (none y ys (all_later Is taken y ys (All-same Is _ _ (sym p) is)).0 p e)

    -- no element follows
    pub taken_all : Taken A Is spell Fits text taken left → (xs : List A) (other : List ℕ) → All Is xs → Fits xs other
        → ((y : A) (ys : List A) → Is y → xs ≡ taken ++ y ∷ ys → left ≢ spell y (each_text spell ys other)) → text ≡ each_text spell xs other → (xs ≡ taken) × (other ≡ left)
    taken_all t xs other is fits none e =
        let g = t.goes_on xs other is fits e in
        all_of xs other none is g.0 g.1 g.2

-- ---- so many

module _ {A : Type 0} (Is : A → Type 0) (spell : A → List ℕ → List ℕ) (count : ℕ) (text : List ℕ) (taken : List A) (left : List ℕ) where
  abbrev pub TakenOf : Type 0
  TakenOf = Taken A Is spell (λ xs other. length xs ≡ count) text taken left

  too_few : (other : List ℕ) → length taken < count → length taken ≡ count → left ≢ other
  too_few other few full = λ e. absurd (omega arith)

  pub counted_more : (x : A) (rest : List ℕ) → TakenOf → length taken < count → Spells Is spell left x rest → SpellsOnly Is spell left x rest
      → Taken A Is spell (λ xs other. length xs ≡ count) text (taken ++ x ∷ []) rest
  counted_more x rest t few s only = taken_more Is spell (λ xs other. length xs ≡ count) text taken left x rest t s (λ y ys other is fits e. only y (each_text spell ys other) is e) (λ other full. too_few other few full)

  none_left : (y : A) (ys : List A) (xs : List A) → count ≤ length taken → length xs ≡ count → xs ≡ taken ++ y ∷ ys → ⊥
  none_left y ys xs full long p =
      let all : length xs ≡ length (taken ++ y ∷ ys) = ap length p in
      let parts = length-append taken (y ∷ ys) in
      absurd (omega (arith, all, parts))

  pub counted_only : TakenOf → count ≤ length taken → SpellsOnly (λ xs. (length xs ≡ count) × All Is xs) (each_text spell) text taken left
  counted_only t full = λ xs other is e. taken_all Is spell (λ zs o. length zs ≡ count) text taken left t xs other is.1 is.0 (λ y ys ok p g. none_left y ys xs full is.0 p) e

  one_more : (r : Refusal) → ((w : A) (other : List ℕ) → Is w → left ≢ spell w other) → length taken < count → (xs : List A) (other : List ℕ) → length xs ≡ count → All Is xs
      → (more : List A) → xs ≡ taken ++ more → left ≡ each_text spell more other → ⊥
  one_more r none few xs other long is [] p e =
      let all : length xs ≡ length taken = ap length (p ∙ append-nil taken) in absurd (omega arith)
  one_more r none few xs other long is (y ∷ ys) p e = none y (each_text spell ys other) (all_later Is taken y ys (All-same Is _ _ (sym p) is)).0 e

  pub counted_unread : (r : Refusal) → TakenOf → length taken < count → IsUnread Is spell left r → IsUnread (λ xs. (length xs ≡ count) × All Is xs) (each_text spell) text r
  counted_unread r t few (inl memory) = inl memory
  counted_unread r t few (inr (bad, none)) = inr (
    bad,
    λ xs other is e.
        let g = t.goes_on xs other is.1 is.0 e in
        one_more r none few xs other is.0 is.1 g.0 g.1 g.2,
  )

-- ---- until a text begins with another word

-- where nothing more is asked of what follows
pub only_to : {A : Type 0} (Is : A → Type 0) (spell : A → List ℕ → List ℕ) (text : List ℕ) (v : A) (rest : List ℕ) → SpellsOnly Is spell text v rest → SpellsOnlyTo Is spell (λ _. ⊤) text v rest
only_to Is spell text v rest only = λ w other is free e. only w other is e

pub unread_to : {A : Type 0} (Is : A → Type 0) (spell : A → List ℕ → List ℕ) (text : List ℕ) (f : Refusal) → IsUnread Is spell text f → IsUnreadTo Is spell (λ _. ⊤) text f
unread_to Is spell text f (inl memory) = inl memory
unread_to Is spell text f (inr (bad, none)) = inr (bad, λ w other is free e. none w other is e)

-- each element is spelled before what fits, as the elements behind it do where what follows them does
module _ {A : Type 0} (Is : A → Type 0) (spell : A → List ℕ → List ℕ) (word : List ℕ) (Fits : List ℕ → Type 0)
    (fits_on : (ys : List A) (other : List ℕ) → Fits other → Fits (each_text spell ys other)) (text : List ℕ) (taken : List A) (left : List ℕ) where
  abbrev pub TakenUntil : Type 0
  TakenUntil = Taken A Is spell (λ xs other. IsNotBegun word other × Fits other) text taken left

  pub until_more : (x : A) (rest : List ℕ) → TakenUntil → (r : List ℕ) × (left ≡ word ++ r) → Spells Is spell left x rest → SpellsOnlyTo Is spell Fits left x rest
      → Taken A Is spell (λ xs other. IsNotBegun word other × Fits other) text (taken ++ x ∷ []) rest
  until_more x rest t begun s only =
      taken_more Is spell (λ xs other. IsNotBegun word other × Fits other) text taken left x rest t s (λ y ys other is fits e. only y (each_text spell ys other) is (fits_on ys other fits.1) e)
      (λ other fits e. fits.0 begun.0 (sym e ∙ begun.1))

  -- a text in which an element is not spelled
  no_more : (r : List ℕ) × (left ≡ word ++ r) → ((w : A) (other : List ℕ) → Is w → Fits other → left ≢ spell w other)
      → (xs : List A) (other : List ℕ) → All Is xs → IsNotBegun word other → Fits other → (more : List A) → xs ≡ taken ++ more → left ≡ each_text spell more other → ⊥
  no_more begun none xs other is not fits [] p e = not begun.0 (sym e ∙ begun.1)
  no_more begun none xs other is not fits (y ∷ ys) p e = none y (each_text spell ys other) (all_later Is taken y ys (All-same Is _ _ (sym p) is)).0 (fits_on ys other fits) e

  -- the elements alone
  pub list_broken : TakenUntil → (r : List ℕ) × (left ≡ word ++ r) → (f : Refusal) → IsUnreadTo Is spell Fits left f
      → IsUnreadTo (All Is) (each_text spell) (λ other. IsNotBegun word other × Fits other) text f
  list_broken t begun f (inl memory) = inl memory
  list_broken t begun f (inr (bad, none)) = inr (
    bad,
    λ w other is fits e.
        let g = t.goes_on w other is fits e in
        no_more begun none w other is fits.0 fits.1 g.0 g.1 g.2,
  )

  pub list_only : ((x : A) (r : List ℕ) → (m : List ℕ) × (spell x r ≡ word ++ m)) → TakenUntil → IsNotBegun word left
      → SpellsOnlyTo (All Is) (each_text spell) (λ other. IsNotBegun word other × Fits other) text taken left
  list_only begins t over = λ w other is fits e.
      taken_all Is spell (λ xs o. IsNotBegun word o × Fits o) text taken left t w other is fits
      (λ y ys ok p g. let b = begins y (each_text spell ys other) in over b.0 (g ∙ b.1)) e

  -- and what ends them
  module _ {E : Type 0} (IsLast : E → Type 0) (last : E → List ℕ → List ℕ) (never : (e : E) (other : List ℕ) → IsNotBegun word (last e other) × Fits (last e other)) where
    pub until_broken : TakenUntil → (r : List ℕ) × (left ≡ word ++ r) → (f : Refusal) → IsUnreadTo Is spell Fits left f → IsUnread (IsUntil Is IsLast) (until_text spell last) text f
    until_broken t begun f (inl memory) = inl memory
    until_broken t begun f (inr (bad, none)) = inr (
      bad,
      λ w other is e.
          let n = never w.1 other in
          let g = t.goes_on w.0 (last w.1 other) is.0 n e in
          no_more begun none w.0 (last w.1 other) is.0 n.0 n.1 g.0 g.1 g.2,
    )

    module _ (begins : (x : A) (r : List ℕ) → (m : List ℕ) × (spell x r ≡ word ++ m)) (t : TakenUntil) (over : IsNotBegun word left) where
      whole_of : (w : List A × E) (other : List ℕ) → IsUntil Is IsLast w → text ≡ until_text spell last w other → (w.0 ≡ taken) × (last w.1 other ≡ left)
      whole_of w other is e = list_only begins t over w.0 (last w.1 other) is.0 (never w.1 other) e

      pub until_unread : (f : Refusal) → IsUnread IsLast last left f → IsUnread (IsUntil Is IsLast) (until_text spell last) text f
      until_unread f (inl memory) = inl memory
      until_unread f (inr (bad, none)) = inr (bad, λ w other is e. none w.1 other is.1 (sym (whole_of w other is e).1))

      pub until_only : (v : E) (rest : List ℕ) → SpellsOnly IsLast last left v rest → SpellsOnly (IsUntil Is IsLast) (until_text spell last) text (taken, v) rest
      until_only v rest only = λ w other is e.
          let a = whole_of w other is e in
          let o = only w.1 other is.1 (sym a.1) in
          ((λ i. (a.0 i, o.0 i)), o.1)

      pub until_whole : (v : E) (rest : List ℕ) → Spells IsLast last left v rest → Spells (IsUntil Is IsLast) (until_text spell last) text (taken, v) rest
      until_whole v rest s = ((t.range, s.0), t.whole ∙ ap (λ l. each_text spell taken l) s.1)
