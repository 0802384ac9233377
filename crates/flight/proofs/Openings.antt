-- A life is its opening and its course, and the lives of a flight stand in turn.
use Rattle.std.proofs.Common.{◌≡◌, ℕ, List, [], ◌∷◌, ◌++◌, refl, sym, ap, arith, inl, inr, get_or}
use Rattle.std.specs.Prelude.{codes, ⊤}
use Rattle.fault.specs.declared.refusal.Refusal.{Refusal}
use Rattle.flight.specs.declared.life.Step.{Step}
use Rattle.flight.specs.declared.life.Ending.{Ending}
use Rattle.flight.specs.declared.flight.Version.{Version}
use Rattle.flight.specs.declared.flight.Answered.{Answered}
use Rattle.flight.specs.Contents.{OpeningContents, LifeContents}
use Rattle.flight.specs.Spelling.{opening_text, life_text, closing_text}
use Rattle.flight.specs.Ranges.{IsOpening, IsLife}
use Rattle.flight.specs.Courses.{course_text, IsCourse}
use Rattle.flight.specs.Reading.{SpellsOnly, IsUnread, IsNotBegun}

-- the byte of a text at a place
abbrev at : ℕ → List ℕ → ℕ
at i text = get_or text i 0

pub life_begins : (v : Version) (l : LifeContents) (r : List ℕ) → (m : List ℕ) × (life_text v l r ≡ codes "life " ++ m)
life_begins v l r = (_, refl)

-- what follows the lives is no life
pub closing_no_life : (answers : List Answered) (other : List ℕ) → IsNotBegun (codes "life ") (closing_text answers other) × ⊤
closing_no_life [] other = (λ r e. absurd (omega (arith, ap (at 0) e)), tt)
closing_no_life (a ∷ answers) other = (λ r e. absurd (omega (arith, ap (at 0) e)), tt)

module _ (version : Version) (node : ℕ) (text : List ℕ) (opening : OpeningContents) (rest : List ℕ) (openings : SpellsOnly (IsOpening version) (opening_text version) text opening rest) where
  course_in : (w : LifeContents) (other : List ℕ) → IsLife version node w → text ≡ life_text version w other → (w.opening ≡ opening) × (rest ≡ course_text version (w.steps, w.ending) other)
  course_in w other is e = let o = openings w.opening (course_text version (w.steps, w.ending) other) is.0 e in (o.0, sym o.1)

  pub life_unread : (r : Refusal) → IsUnread (IsCourse version node) (course_text version) rest r → IsUnread (IsLife version node) (life_text version) text r
  life_unread r (inl memory) = inl memory
  life_unread r (inr (bad, none)) = inr (bad, λ w other is e. none (w.steps, w.ending) other (is.1, is.2) (course_in w other is e).1)

  pub life_only : (steps : List Step) (ending : Ending) (left : List ℕ) → SpellsOnly (IsCourse version node) (course_text version) rest (steps, ending) left
      → SpellsOnly (IsLife version node) (life_text version) text (record { opening = opening; steps = steps; ending = ending }) left
  life_only steps ending left only = λ w other is e.
      let c = course_in w other is e in
      let o = only (w.steps, w.ending) other (is.1, is.2) c.1 in
      ((λ i. record { opening = c.0 i; steps = (o.0 i).0; ending = (o.0 i).1 }), o.1)
