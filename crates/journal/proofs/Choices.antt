-- Values that are told apart by their first word, before what fits behind them.
use Rattle.std.proofs.Common.{◌≡◌, ◌∙◌, List, ℕ, ◌++◌, sym, ap, inl, inr}
use Rattle.fault.specs.declared.refusal.Refusal.{Refusal}
use Rattle.flight.specs.Reading.{SpellsOnly, SpellsOnlyTo, IsUnread, IsUnreadTo}

module _ {V W : Type 0} (word : List ℕ) (into : V → W) (IsV : V → Type 0) (spellV : V → List ℕ → List ℕ) (IsW : W → Type 0) (spellW : W → List ℕ → List ℕ) (Fits : List ℕ → Type 0)
    (of : (w : W) (rest other : List ℕ) → IsW w → word ++ rest ≡ spellW w other → (v : V) × (w ≡ into v) × IsV v × (rest ≡ spellV v other))
    (text rest : List ℕ) (begun : text ≡ word ++ rest) where
  pub case_only_to : (v : V) (left : List ℕ) → SpellsOnlyTo IsV spellV Fits rest v left → SpellsOnlyTo IsW spellW Fits text (into v) left
  case_only_to v left only = λ w other is fits e.
      let f = of w rest other is (sym begun ∙ e) in
      let o = only f.0 other f.2 fits f.3 in
      (f.1 ∙ ap into o.0, o.1)

  pub case_unread_to : (r : Refusal) → IsUnreadTo IsV spellV Fits rest r → IsUnreadTo IsW spellW Fits text r
  case_unread_to r (inl memory) = inl memory
  case_unread_to r (inr (bad, none)) = inr (
    bad,
    λ w other is fits e.
        let f = of w rest other is (sym begun ∙ e) in
        none f.0 other f.2 fits f.3,
  )

  pub case_only_before : (v : V) (left : List ℕ) → SpellsOnly IsV spellV rest v left → SpellsOnlyTo IsW spellW Fits text (into v) left
  case_only_before v left only = case_only_to v left (λ w other is fits e. only w other is e)

  pub case_unread_before : (r : Refusal) → IsUnread IsV spellV rest r → IsUnreadTo IsW spellW Fits text r
  case_unread_before r (inl memory) = inl memory
  case_unread_before r (inr (bad, none)) = case_unread_to r (inr (bad, λ w other is fits e. none w other is e))
