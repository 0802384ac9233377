-- What is known of checks that let a value through, and of the tokens of lists.
use Rattle.std.proofs.Common.{◌≡◌, ◌<◌, Bool, true, false, List, [], ◌∷◌, ◌++◌, length, Option, Some, None, Result, Ok, Err, refl, ap, ◌∙◌, arith, inl, inr}
use Rattle.std.specs.Prelude.{◌⊎◌, ◌&&◌, ◌||◌, not}
use Rattle.std.specs.List.{AllByRecursion}
use Rattle.fault.specs.declared.refusal.Refusal.{Refusal}
use Rattle.phrase.specs.Grammar.{Phrase, row, spell_all}
use Rattle.sqltokens.specs.What.{What}
use Rattle.sqlchecks.specs.Answering.{◌>>=◌, ◌>>◌, refuse_if, or_refuse}

pub decided : (b : Bool) → (b ≡ true) ⊎ (b ≡ false)
decided true = inl refl
decided false = inr refl

pub both_true : (a b : Bool) → (a && b) ≡ true → (a ≡ true) × (b ≡ true)
both_true true b e = (refl, e)
both_true false b e = absurd cc

pub none_true : (a b : Bool) → (a || b) ≡ false → (a ≡ false) × (b ≡ false)
none_true true b e = absurd cc
none_true false b e = (refl, e)

pub not_false : (a : Bool) → not a ≡ false → a ≡ true
not_false true e = refl
not_false false e = absurd cc

pub not_true : (a : Bool) → not a ≡ true → a ≡ false
not_true true e = absurd cc
not_true false e = refl

abbrev pub okay : {A : Type 0} → A → Result A Refusal
okay a = Ok a

pub ok_is : {A : Type 0} (x y : A) → okay x ≡ okay y → x ≡ y
ok_is x y e = cc

-- ---- one check after the other

pub after_ok : {A B : Type 0} (r : Result A Refusal) (f : A → Result B Refusal) (b : B) → (r >>= f) ≡ Ok b → (a : A) × (r ≡ Ok a) × (f a ≡ Ok b)
after_ok (Ok a) f b e = (a, refl, e)
after_ok (Err x) f b e = absurd cc

pub not_refused : {B : Type 0} (test : Bool) (x : Refusal) (r : Result B Refusal) (b : B) → (refuse_if test x >> r) ≡ Ok b → (test ≡ false) × (r ≡ Ok b)
not_refused true x r b e = absurd cc
not_refused false x r b e = (refl, e)

pub unrefused : {B : Type 0} (test : Bool) (x : Refusal) (r : Result B Refusal) (b : B) → test ≡ false → r ≡ Ok b → (refuse_if test x >> r) ≡ Ok b
unrefused true x r b e h = absurd cc
unrefused false x r b e h = h

pub some_of : {A : Type 0} (x : Refusal) (o : Option A) (a : A) → or_refuse x o ≡ Ok a → o ≡ Some a
some_of x None a e = absurd cc
some_of {A} x (Some b) a e = ap (λ (c : A). Some c) (ok_is b a e)

-- ---- all of a list

module _ {A : Type 0} (P : A → Type 0) where
  pub all_both : (xs ys : List A) → AllByRecursion P xs → AllByRecursion P ys → AllByRecursion P (xs ++ ys)
  all_both [] ys p q = q
  all_both (x ∷ xs) ys p q = (p.0, all_both xs ys p.1 q)

  pub all_before : (xs ys : List A) → AllByRecursion P (xs ++ ys) → AllByRecursion P xs
  all_before [] ys p = tt
  all_before (x ∷ xs) ys p = (p.0, all_before xs ys p.1)

  pub all_behind : (xs ys : List A) → AllByRecursion P (xs ++ ys) → AllByRecursion P ys
  all_behind [] ys p = p
  all_behind (x ∷ xs) ys p = all_behind xs ys p.1

-- ---- rows of the grammar

module _ {A : Type 0} (p q : Phrase What A) (test : What → Bool) where
  pub row_fits : ((a : A) → p.fits a → q.fits a) → (list : List A) → 0 < length list → AllByRecursion p.fits list → (row p test q).fits list
  row_fits same [] some fits = absurd (omega arith)
  row_fits same (a ∷ list) some fits = ((fits.0, others list fits.1), refl) where
    others : (rest : List A) → AllByRecursion p.fits rest → AllByRecursion q.fits rest
    others [] h = tt
    others (b ∷ rest) h = (same b h.0, others rest h.1)

  pub fits_row : ((a : A) → q.fits a → p.fits a) → (list : List A) → (row p test q).fits list → (0 < length list) × AllByRecursion p.fits list
  fits_row same [] fits = let never = fits.1 in absurd cc
  fits_row same (a ∷ list) fits = (omega arith, (fits.0.0, others list fits.0.1)) where
    others : (rest : List A) → AllByRecursion q.fits rest → AllByRecursion p.fits rest
    others [] h = tt
    others (b ∷ rest) h = (same b h.0, others rest h.1)

  module _ (P : What → Type 0) where
    abbrev pub Each : List A → Type 0
    Each list = AllByRecursion (λ a. AllByRecursion P (p.spell a)) list

    pub row_all : ((a : A) → AllByRecursion P (p.spell a) → AllByRecursion P (q.spell a)) → (list : List A) → 0 < length list → Each list → AllByRecursion P ((row p test q).spell list)
    row_all same [] some all = absurd (omega arith)
    row_all same (a ∷ list) some all = all_both P (p.spell a) (spell_all q.spell list) all.0 (others list all.1) where
      others : (rest : List A) → AllByRecursion (λ b. AllByRecursion P (p.spell b)) rest → AllByRecursion P (spell_all q.spell rest)
      others [] h = tt
      others (b ∷ rest) h = all_both P (q.spell b) (spell_all q.spell rest) (same b h.0) (others rest h.1)

    pub all_row : ((a : A) → AllByRecursion P (q.spell a) → AllByRecursion P (p.spell a)) → (list : List A) → 0 < length list → AllByRecursion P ((row p test q).spell list) → Each list
    all_row same [] some all = absurd (omega arith)
    all_row same (a ∷ list) some all = (all_before P (p.spell a) (spell_all q.spell list) all, others list (all_behind P (p.spell a) (spell_all q.spell list) all)) where
      others : (rest : List A) → AllByRecursion P (spell_all q.spell rest) → AllByRecursion (λ b. AllByRecursion P (p.spell b)) rest
      others [] h = tt
      others (b ∷ rest) h = (same b (all_before P (q.spell b) (spell_all q.spell rest) h), others rest (all_behind P (q.spell b) (spell_all q.spell rest) h))
