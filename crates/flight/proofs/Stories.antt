-- The steps and answers of a flight in turn.
use Rattle.std.proofs.Common.{◌≡◌, ◌∙◌, ℕ, List, [], ◌∷◌, ◌++◌, refl, sym, ap, arith, inl, inr, get_or}
use Rattle.std.specs.Prelude.{codes, All, ⊤}
use Rattle.fault.specs.declared.refusal.Refusal.{Refusal}
use Rattle.fault.specs.declared.refusal.Refusal.TheVariants.{BadFlight}
use Rattle.flight.specs.declared.life.Step.{Step}
use Rattle.flight.specs.declared.life.Ending.{Ending}
use Rattle.flight.specs.declared.life.Ending.TheVariants.{Up, Stopped, Torn}
use Rattle.flight.specs.declared.flight.Version.{Version}
use Rattle.flight.specs.declared.flight.Answered.{Answered}
use Rattle.flight.specs.Spelling.{each_text, step_text, ending_text, answer_text, closing_text}
use Rattle.flight.specs.Courses.{until_text, IsUntil, IsNoOutcome}
use Rattle.flight.specs.Reading.{Spells, SpellsOnly, IsUnread, IsNotBegun, IsAfter}
use Rattle.flight.proofs.Lists.{TakenUntil, until_broken, until_unread, until_only, unread_to}

-- the byte of a text at a place
abbrev at : ℕ → List ℕ → ℕ
at i text = get_or text i 0

pub step_begins : (v : Version) (s : Step) (r : List ℕ) → (m : List ℕ) × (step_text v s r ≡ codes "step " ++ m)
step_begins v s r = (_, refl)

-- no step is an outcome
pub steps_no_outcome : (v : Version) (steps : List Step) (other : List ℕ) → IsNoOutcome other → IsNoOutcome (each_text (step_text v) steps other)
steps_no_outcome v [] other not = not
steps_no_outcome v (s ∷ steps) other not = λ r e. absurd (omega (arith, ap (at 0) e))

-- no ending is a step or an outcome
pub ending_no_step : (v : Version) (e : Ending) (other : List ℕ) → IsNotBegun (codes "step ") (ending_text v e other) × IsNoOutcome (ending_text v e other)
ending_no_step v Up other = (λ r e. absurd (omega (arith, ap (at 0) e)), λ r e. absurd (omega (arith, ap (at 0) e)))
ending_no_step v Stopped other = (λ r e. absurd (omega (arith, ap (at 2) e)), λ r e. absurd (omega (arith, ap (at 0) e)))
ending_no_step v (Torn s) other = (λ r e. absurd (omega (arith, ap (at 0) e)), λ r e. absurd (omega (arith, ap (at 0) e)))

pub answer_begins : (a : Answered) (r : List ℕ) → (m : List ℕ) × (answer_text a r ≡ codes "answer " ++ m)
answer_begins a r = (_, refl)

pub end_no_answer : (other : List ℕ) → IsNotBegun (codes "answer ") (codes "end\n" ++ other) × ⊤
end_no_answer other = (λ r e. absurd (omega (arith, ap (at 0) e)), tt)

-- ---- the answers and the last line

module _ (Is : Answered → Type 0) (text : List ℕ) (taken : List Answered) (left : List ℕ) (t : TakenUntil Is answer_text (codes "answer ") (λ _. ⊤) (λ ys other free. tt) text taken left) where
  abbrev last_line : Unit {0} → List ℕ → List ℕ
  last_line u rest = codes "end\n" ++ rest

  abbrev IsLastLine : Unit {0} → Type 0
  IsLastLine u = ⊤

  without_end : (r : Refusal) → IsUnread (IsUntil Is IsLastLine) (until_text answer_text last_line) text r → IsUnread (All Is) closing_text text r
  without_end r (inl memory) = inl memory
  without_end r (inr (bad, none)) = inr (bad, λ w other is e. none (w, tt) other (is, tt) e)

  pub answers_broken : (r : List ℕ) × (left ≡ codes "answer " ++ r) → (f : Refusal) → IsUnread Is answer_text left f → IsUnread (All Is) closing_text text f
  answers_broken begun f unread = without_end f (until_broken Is answer_text (codes "answer ") (λ _. ⊤) (λ ys other free. tt) text taken left IsLastLine last_line (λ u other. end_no_answer other) t begun f (unread_to Is answer_text left f unread))

  module _ (over : IsNotBegun (codes "answer ") left) where
    pub answers_unended : (f : Refusal) → f ≡ BadFlight → IsNotBegun (codes "end\n") left → IsUnread (All Is) closing_text text f
    answers_unended f bad not =
        without_end f (until_unread Is answer_text (codes "answer ") (λ _. ⊤) (λ ys other free. tt) text taken left IsLastLine last_line (λ u other. end_no_answer other) answer_begins t over f (inr (bad, λ u other is e. not other e)))

    pub answers_only : (rest : List ℕ) → IsAfter (codes "end\n") left rest → SpellsOnly (All Is) closing_text text taken rest
    answers_only rest after = λ w other is e.
        let o = until_only Is answer_text (codes "answer ") (λ _. ⊤) (λ ys other free. tt) text taken left IsLastLine last_line (λ u other. end_no_answer other) answer_begins t over tt rest (λ u last ok p. (refl, after.1 last p)) (w, tt) other (is, tt) e in
        (ap (λ p. p.0) o.0, o.1)

    pub answers_whole : (rest : List ℕ) → IsAfter (codes "end\n") left rest → Spells (All Is) closing_text text taken rest
    answers_whole rest after = (t.range, t.whole ∙ ap (λ l. each_text answer_text taken l) after.0)
