-- Lemmas on what a text is.
use Rattle.std.proofs.Common.{◌≡◌, ◌≢◌, ◌∙◌, ℕ, suc, ◌<◌, ◌^◌, List, [], ◌∷◌, ◌++◌, length, map, get_or, drop, refl, sym, ap, subst, arith}
use Rattle.std.specs.Prelude.{codes, decimal, Some, None}
use Rattle.std.specs.Char.{to_ascii_lowercase}
use Rattle.std.proofs.lemmas.List.{length-map}
use Rattle.lines.specs.Reading.{HasNoSpace}
use Rattle.lines.proofs.Lines.{same_split, decimal_no_space}
use Rattle.storecommands.specs.declared.text.Kind.{Kind}
use Rattle.storecommands.specs.declared.text.Kind.TheVariants.{Own, Question}
use Rattle.storecommands.specs.Text.{EndsName, IsQuestion, IsReadAs}

-- ---- questions

-- two parts of one text that are as long are the same
same_parts : (v w x y : List ℕ) → length v ≡ length w → v ++ x ≡ w ++ y → (v ≡ w) × (x ≡ y)
same_parts [] [] x y l e = (refl, e)
same_parts [] (d ∷ w) x y l e = absurd (omega (arith, l))
same_parts (c ∷ v) [] x y l e = absurd (omega (arith, l))
same_parts (c ∷ v) (d ∷ w) x y l e =
    let rest = same_parts v w x y (omega (arith, l)) (ap (drop 1) e) in
    let first : c ≡ d = ap (λ l. get_or l 0 0) e in
    ((λ i. first i ∷ rest.0 i), rest.1)

six : (w : List ℕ) → map to_ascii_lowercase w ≡ codes "select" → length w ≡ 6
six w e = sym (length-map w to_ascii_lowercase) ∙ ap length e

-- what the first six bytes of a question are
pub question_is : (text word rest : List ℕ) → text ≡ word ++ rest → length word ≡ 6 → IsQuestion text → (map to_ascii_lowercase word ≡ codes "select") × EndsName rest
question_is text word rest is long (w, r, e, m, ends) =
    let same = same_parts w word r rest (six w m ∙ sym long) (sym e ∙ is) in
    (subst (λ v. map to_ascii_lowercase v ≡ codes "select") same.0 m, subst EndsName same.1 ends)

-- ---- members

tail_no_space : (c : ℕ) (cs : List ℕ) → HasNoSpace (c ∷ cs) → HasNoSpace cs
tail_no_space c cs h = λ i lt. h (suc i) (omega (arith, lt))

spaced : (v x : List ℕ) → HasNoSpace (v ++ 32 ∷ x) → ⊥
spaced [] x h = h 0 (omega arith) refl
spaced (c ∷ v) x h = spaced v x (tail_no_space c (v ++ 32 ∷ x) h)

module _ (text rest : List ℕ) (is : text ≡ codes "@" ++ rest) where
  at_member : (m : ℕ) (words : List ℕ) → text ≡ codes "@" ++ (decimal m ++ 32 ∷ words) → rest ≡ decimal m ++ 32 ∷ words
  at_member m words e = ap (drop 1) (sym is ∙ e)

  -- no space follows: it is nothing
  pub no_space : HasNoSpace rest → (kind : Kind) (words : List ℕ) → IsReadAs text kind words → ⊥
  no_space h Own words r = r.1 (rest, is)
  no_space h (Question None) words r = r.1 (rest, is)
  no_space h (Question (Some m)) words r = spaced (decimal m) words (subst HasNoSpace (at_member m words r.0) h)

  module _ (word after : List ℕ) (split : rest ≡ word ++ 32 ∷ after) (first : HasNoSpace word) where
    parts : (m : ℕ) (words : List ℕ) → m < 2 ^ 64 → text ≡ codes "@" ++ (decimal m ++ 32 ∷ words) → (word ≡ decimal m) × (after ≡ words)
    parts m words small e = same_split word (decimal m) after words first (decimal_no_space m small) (sym split ∙ at_member m words e)

    -- no member is named: it is nothing
    pub no_member : ((n : ℕ) → n < 2 ^ 64 → word ≢ decimal n) → (kind : Kind) (words : List ℕ) → IsReadAs text kind words → ⊥
    no_member none Own words r = r.1 (rest, is)
    no_member none (Question None) words r = r.1 (rest, is)
    no_member none (Question (Some m)) words r = none m r.1 (parts m words r.1 r.0).0

    -- no question follows: it is nothing
    pub no_question : (IsQuestion after → ⊥) → (kind : Kind) (words : List ℕ) → IsReadAs text kind words → ⊥
    no_question none Own words r = r.1 (rest, is)
    no_question none (Question None) words r = r.1 (rest, is)
    no_question none (Question (Some m)) words r = none (subst IsQuestion (sym (parts m words r.1 r.0).1) r.2)
