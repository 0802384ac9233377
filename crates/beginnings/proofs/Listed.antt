-- What is kept of nodes, one after the other.
use Rattle.std.proofs.Common.{◌≡◌, ◌≢◌, ◌∙◌, ℕ, ◌+◌, ◌<◌, ◌≤◌, List, [], ◌∷◌, ◌++◌, length, take, get_or, refl, sym, ap, arith, subst, inl, inr, length-append}
use Rattle.std.specs.Prelude.{All, codes}
use Rattle.std.proofs.lemmas.List.{take_more}
use Rattle.fault.specs.declared.refusal.Refusal.{Refusal}
use Rattle.hex.specs.Hex.{encode_lower}
use Rattle.flight.specs.Additions.{Adds}
use Rattle.flight.specs.Spelling.{each_text, number_text}
use Rattle.flight.specs.Reading.{Spells, SpellsOnly, IsUnread, SpellsOnlyTo, IsUnreadTo}
use Rattle.flight.proofs.Lists.{Taken, taken_more, taken_all, all_later, each_push}
use Rattle.flight.proofs.Lengths.{after_number}
use Rattle.beginnings.specs.Lines.{digest_text, part_text, IsKept, IsOver}
use Rattle.beginnings.specs.declared.beginning.Beginning.{Beginning}

word_on : (word rest : List ℕ) → length rest ≤ length (word ++ rest)
word_on word rest = omega (arith, length-append word rest)

-- a text is longer than what follows a part of it
pub part_on : (b : Beginning) (rest : List ℕ) → length rest < length (part_text b rest)
part_on b rest =
    let digest = digest_text b.digest rest in
    omega (arith, length-append (encode_lower b.digest) rest, after_number 45 b.answers digest, after_number 43 b.bytes (number_text 45 b.answers digest), word_on (codes ":") (number_text 43 b.bytes (number_text 45 b.answers digest)))

abbrev pub PartsTaken : List ℕ → List Beginning → List ℕ → Type 0
PartsTaken text taken left = Taken Beginning IsKept part_text (λ xs other. IsOver other) text taken left

nothing_left : (left : List ℕ) → 0 < length left → (other : List ℕ) → IsOver other → left ≢ other
nothing_left left some other over = λ e. absurd (omega (arith, some, ap length (e ∙ over)))

module _ (text : List ℕ) (taken : List Beginning) (left : List ℕ) (some : 0 < length left) (t : PartsTaken text taken left) where
  pub parts_more : (x : Beginning) (rest : List ℕ) → Spells IsKept part_text left x rest → SpellsOnly IsKept part_text left x rest → PartsTaken text (taken ++ x ∷ []) rest
  parts_more x rest s only = taken_more IsKept part_text (λ xs other. IsOver other) text taken left x rest t s
      (λ y ys other is over e. only y (each_text part_text ys other) is e)
      (λ other over. nothing_left left some other over)

  none_of : ((w : Beginning) (other : List ℕ) → IsKept w → left ≢ part_text w other) → (xs : List Beginning) → All IsKept xs → (more : List Beginning) → xs ≡ taken ++ more → (other : List ℕ) → IsOver other
      → left ≡ each_text part_text more other → ⊥
  none_of none xs is [] p other over e = nothing_left left some other over e
  none_of none xs is (y ∷ ys) p other over e = none y (each_text part_text ys other) (all_later IsKept taken y ys (subst (All IsKept) p is)).0 e

  pub parts_unread : (r : Refusal) → IsUnread IsKept part_text left r → IsUnreadTo (All IsKept) (each_text part_text) IsOver text r
  parts_unread r (inl memory) = inl memory
  parts_unread r (inr (bad, none)) = inr (
    bad,
    λ xs other is over e.
        let g = t.goes_on xs other is over e in
        none_of none xs is g.0 g.1 other over g.2,
  )

pub none_left : (left : List ℕ) → length left ≡ 0 → left ≡ []
none_left [] none = refl
none_left (b ∷ bs) none = absurd (omega (arith, none))

-- nothing follows
module _ (text : List ℕ) (taken : List Beginning) (left : List ℕ) (over : left ≡ []) (t : PartsTaken text taken left) where
  pub parts_whole : Spells (All IsKept) (each_text part_text) text taken []
  parts_whole = (t.range, t.whole ∙ ap (each_text part_text taken) over)

  none_more : (y : Beginning) (ys : List Beginning) (other : List ℕ) → left ≢ part_text y (each_text part_text ys other)
  none_more y ys other = λ e. absurd (omega (arith, part_on y (each_text part_text ys other), ap length (sym over ∙ e)))

  pub parts_only : SpellsOnlyTo (All IsKept) (each_text part_text) IsOver text taken []
  parts_only = λ xs other is end e.
      let a = taken_all IsKept part_text (λ ys o. IsOver o) text taken left t xs other is end (λ y ys ok p g. none_more y ys other g) e in
      (a.0, end)

-- ---- parts that are written

-- one part more
pub parts_added : (all : List Beginning) (i : ℕ) (d : Beginning) (a b c : List ℕ) → i < length all → Adds a b (each_text part_text (take i all)) → Adds b c (part_text (get_or all i d))
    → Adds a c (each_text part_text (take (i + 1) all))
parts_added all i d a b c less p q = λ rest.
    let x = get_or all i d in
    q rest ∙ (p (part_text x rest) ∙ ap (λ l. a ++ l) (sym (ap (λ l. each_text part_text l rest) (take_more all i d less) ∙ each_push part_text (take i all) x rest)))
