-- Reserved words by their first letter.
use Rattle.std.proofs.Common.{◌≡◌, ℕ, Bool, false, List, [], ◌∷◌, map, Option, Some, refl, sym, ap, ◌∙◌, eqb, inl, inr}
use Rattle.std.specs.Prelude.{if◌then◌else◌, ◌&&◌}
use Rattle.std.specs.Str.{str_eq_ignore_ascii_case, str_to_ascii_lowercase, bytes_eq}
use Rattle.std.specs.Char.{to_ascii_lowercase}
use Rattle.sqltokens.specs.declared.token.Keyword.{Keyword}
use Rattle.sqltokens.specs.declared.token.TheConstants.{KEYWORDS}
use Rattle.sqltokens.specs.Lexing.{keyword_in, keyword_of}
use Rattle.phrase.proofs.Laws.{if_true, if_false}
use Rattle.sqltokens.proofs.Texts.{decide}

abbrev begins_with : ℕ → List ℕ → Bool
begins_with letter [] = false
begins_with letter (c ∷ cs) = eqb (to_ascii_lowercase c) letter

abbrev with_letter : ℕ → List (List ℕ × Keyword) → List (List ℕ × Keyword)
with_letter letter [] = []
with_letter letter (k ∷ ks) = if begins_with letter k.0 then k ∷ with_letter letter ks else with_letter letter ks

-- a word that begins with another letter is another word
is_other : (k : List ℕ) (b : ℕ) (bs : List ℕ) → begins_with (to_ascii_lowercase b) k ≡ false → str_eq_ignore_ascii_case k (b ∷ bs) ≡ false
is_other [] b bs e = refl
is_other (c ∷ cs) b bs e = ap (λ (x : Bool). x && bytes_eq (str_to_ascii_lowercase cs) (str_to_ascii_lowercase bs)) e

among_others : (ks : List (List ℕ × Keyword)) (b : ℕ) (bs : List ℕ) → keyword_in (with_letter (to_ascii_lowercase b) ks) (b ∷ bs) ≡ keyword_in ks (b ∷ bs)
among_others [] b bs = refl
among_others (k ∷ ks) b bs =
    let rest = among_others ks b bs in
    let letter = to_ascii_lowercase b in
    elim (decide (begins_with letter k.0)) [
      | inl h ↦
          ap (λ (l : List (List ℕ × Keyword)). keyword_in l (b ∷ bs)) (if_true (begins_with letter k.0) (k ∷ with_letter letter ks) (with_letter letter ks) h)
          ∙ ap (λ (o : Option Keyword). if str_eq_ignore_ascii_case k.0 (b ∷ bs) then Some k.1 else o) rest
      | inr h ↦
          ap (λ (l : List (List ℕ × Keyword)). keyword_in l (b ∷ bs)) (if_false (begins_with letter k.0) (k ∷ with_letter letter ks) (with_letter letter ks) h)
          ∙ rest
          ∙ sym (if_false (str_eq_ignore_ascii_case k.0 (b ∷ bs)) (Some k.1) (keyword_in ks (b ∷ bs)) (is_other k.0 b bs h))
    ]

-- those that begin with a word's first letter are as good as all
pub by_letter : (letter b : ℕ) (bs : List ℕ) → to_ascii_lowercase b ≡ letter → keyword_in (with_letter letter (map (λ k. (k.0.now, k.1)) KEYWORDS)) (b ∷ bs) ≡ keyword_of (b ∷ bs)
unfolding keyword_of
by_letter letter b bs e =
    let all = map (λ k. (k.0.now, k.1)) KEYWORDS in
    ap (λ (n : ℕ). keyword_in (with_letter n all) (b ∷ bs)) (sym e) ∙ among_others all b bs
