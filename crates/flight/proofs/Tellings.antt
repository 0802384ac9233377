-- Steps with their outcomes.
use Rattle.std.proofs.Common.{◌≡◌, ℕ, List, [], ◌++◌, refl, sym, inl, inr}
use Rattle.std.specs.Prelude.{codes, All, ⊤}
use Rattle.fault.specs.declared.refusal.Refusal.{Refusal}
use Rattle.flight.specs.declared.life.Step.{Step}
use Rattle.flight.specs.declared.outcome.Outcome.{Outcome}
use Rattle.flight.specs.declared.flight.Version.{Version}
use Rattle.flight.specs.Spelling.{outcome_text, outcomes_text, each_text, made_text, step_text}
use Rattle.flight.specs.Ranges.{IsOutcome, AreOutcomes, IsSilent, IsStep}
use Rattle.flight.specs.Lives.{with_outcomes}
use Rattle.flight.specs.Courses.{IsNoOutcome}
use Rattle.flight.specs.Reading.{SpellsOnly, SpellsOnlyTo, IsUnread, IsUnreadTo, IsAfter}

pub outcome_begins : (o : Outcome) (r : List ℕ) → (m : List ℕ) × (outcome_text o r ≡ codes "outcome " ++ m)
outcome_begins o r = (_, refl)

-- ---- lists of outcomes, behind which anything but an outcome fits

module _ (text : List ℕ) where
  pub fits_more : (f : Refusal) → IsUnreadTo (All IsOutcome) (each_text outcome_text) (λ other. IsNoOutcome other × ⊤) text f
      → IsUnreadTo (All IsOutcome) (each_text outcome_text) IsNoOutcome text f
  fits_more f (inl memory) = inl memory
  fits_more f (inr (bad, none)) = inr (bad, λ w other is not e. none w other is (not, tt) e)

-- ---- a step is what it took and what it told

module _ (version : Version) (node : ℕ) (text first : List ℕ) (after : IsAfter (codes "step ") text first) where
  -- the step but for its outcomes
  silent : (w : Step) → IsStep version node w → IsSilent version node (with_outcomes [] w)
  silent w is = (is.0, is.1, is.2, refl)

  made_in : (w : Step) (other : List ℕ) → text ≡ step_text version w other → first ≡ made_text version (with_outcomes [] w) (outcomes_text version w.outcomes other)
  made_in w other e = sym (after.1 (made_text version w (outcomes_text version w.outcomes other)) e)

  pub step_unmade : (f : Refusal) → IsUnread (IsSilent version node) (made_text version) first f → IsUnreadTo (IsStep version node) (step_text version) IsNoOutcome text f
  step_unmade f (inl memory) = inl memory
  step_unmade f (inr (bad, none)) = inr (bad, λ w other is not e. none (with_outcomes [] w) (outcomes_text version w.outcomes other) (silent w is) (made_in w other e))

  module _ (step : Step) (second : List ℕ) (made : SpellsOnly (IsSilent version node) (made_text version) first step second) where
    told_in : (w : Step) (other : List ℕ) → IsStep version node w → text ≡ step_text version w other
        → (with_outcomes [] w ≡ step) × (second ≡ outcomes_text version w.outcomes other)
    told_in w other is e =
        let o = made (with_outcomes [] w) (outcomes_text version w.outcomes other) (silent w is) (made_in w other e) in
        (o.0, sym o.1)

    pub step_untold : (f : Refusal) → IsUnreadTo (AreOutcomes version) (outcomes_text version) IsNoOutcome second f → IsUnreadTo (IsStep version node) (step_text version) IsNoOutcome text f
    step_untold f (inl memory) = inl memory
    step_untold f (inr (bad, none)) = inr (bad, λ w other is not e. none w.outcomes other is.3 not (told_in w other is e).1)

    pub step_only : (outcomes : List Outcome) (left : List ℕ) → SpellsOnlyTo (AreOutcomes version) (outcomes_text version) IsNoOutcome second outcomes left
        → SpellsOnlyTo (IsStep version node) (step_text version) IsNoOutcome text (with_outcomes outcomes step) left
    step_only outcomes left only = λ w other is not e.
        let t = told_in w other is e in
        let o = only w.outcomes other is.3 not t.1 in
        ((λ i. with_outcomes (o.0 i) (t.0 i)), o.1)
