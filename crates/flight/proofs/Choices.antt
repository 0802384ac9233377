-- Values that are told apart by their first word.
use Rattle.std.proofs.Common.{◌≡◌, ◌∙◌, ℕ, List, ◌++◌, refl, sym, ap, arith, inl, inr, None, Some}
use Rattle.std.specs.Prelude.{codes}
use Rattle.fault.specs.declared.refusal.Refusal.{Refusal}
use Rattle.flight.specs.Spelling.{asked_text}
use Rattle.flight.specs.Ranges.{IsAsked}
use Rattle.flight.specs.Reading.{SpellsOnly, IsUnread, IsAfter}
use Rattle.flight.proofs.Numbers.{not_number}

-- what follows a word is that of one case
module _ {V W : Type 0} (word : List ℕ) (into : V → W) (IsV : V → Type 0) (spellV : V → List ℕ → List ℕ) (IsW : W → Type 0) (spellW : W → List ℕ → List ℕ)
    (of : (w : W) (rest other : List ℕ) → IsW w → word ++ rest ≡ spellW w other → (v : V) × (w ≡ into v) × IsV v × (rest ≡ spellV v other))
    (text rest : List ℕ) (begun : text ≡ word ++ rest) where
  pub case_only : (v : V) (left : List ℕ) → SpellsOnly IsV spellV rest v left → SpellsOnly IsW spellW text (into v) left
  case_only v left only = λ w other is e.
      let f = of w rest other is (sym begun ∙ e) in
      let o = only f.0 other f.2 f.3 in
      (f.1 ∙ ap into o.0, o.1)

  pub case_unread : (r : Refusal) → IsUnread IsV spellV rest r → IsUnread IsW spellW text r
  case_unread r (inl memory) = inl memory
  case_unread r (inr (bad, none)) = inr (
    bad,
    λ w other is e.
        let f = of w rest other is (sym begun ∙ e) in
        none f.0 other f.2 f.3,
  )

-- ---- what an entry bears

pub asked_closed : (text rest : List ℕ) → IsAfter (codes "close\n") text rest → SpellsOnly IsAsked asked_text text None rest
asked_closed text rest after None other is e = (refl, after.1 other e)
asked_closed text rest after (Some r) other is e = absurd (not_number 99 (codes "lose\n" ++ rest) 32 r.client _ (omega arith) (omega (arith, is.0.1)) (sym after.0 ∙ e))
