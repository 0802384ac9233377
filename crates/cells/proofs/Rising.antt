-- Marks that rise.
use Rattle.std.proofs.Common.{◌≡◌, ◌∙◌, ℕ, ℤ, Bool, true, false, ◌&&◌, nat_lt, List, [], ◌∷◌, ◌++◌, Some, None, refl, ap, arith, append-nil, ◌+◌, max, if◌then◌else◌}
use Rattle.std.proofs.lemmas.Bool.Decides.{nat_tests}
use Rattle.flight.specs.declared.life.Step.{Step}
use Rattle.flight.specs.declared.life.Ending.TheVariants.{Up}
use Rattle.flight.specs.declared.life.Packet.{Packet}
use Rattle.flight.specs.declared.life.Life.{Life}
use Rattle.flight.specs.declared.outcome.Outcome.{Outcome}
use Rattle.flight.specs.Lives.{last_of, last_mark, mark_for, sent_at, all_steps, torn_step, step_of, with_outcomes}
use Rattle.node.specs.Work.{Work}
use Rattle.cells.specs.Lives.{marks_rise, work_of}

both : (a b : Bool) → (a && b) ≡ true → (a ≡ true) × (b ≡ true)
both true b h = (refl, h)
both false b h = absurd (cc h)

-- one step more, with a mark above the last one and above its envelope's
pub marks_rise-append : (mark : ℕ) (xs : List Step) (s : Step) → marks_rise mark xs ≡ true → nat_lt (last_of mark xs) s.mark ≡ true → nat_lt (sent_at s.packet) s.mark ≡ true → marks_rise mark (xs ++ s ∷ []) ≡ true
unfolding last_of marks_rise
marks_rise-append mark [] s h a b = rw (a, b) refl
marks_rise-append mark (x ∷ xs) s h a b =
    let parts = both (nat_lt mark x.mark && nat_lt (sent_at x.packet) x.mark) (marks_rise x.mark xs) h in
    rw (parts.0, marks_rise-append x.mark xs s parts.1 a b) refl

-- the mark of a step is above both marks
mark_is : (full over : Bool) (a b m : ℕ) → Some m ≡ (if full then None else if over then None else Some (max a b + 1)) → m ≡ max a b + 1
mark_is true over a b m e = absurd (cc e)
mark_is false true a b m e = absurd (cc e)
mark_is false false a b m e = cc e

above_both : (a b m : ℕ) → m ≡ max a b + 1 → (nat_lt a m ≡ true) × (nat_lt b m ≡ true)
above_both a b m e = (grind (arith, nat_tests), grind (arith, nat_tests))

pub mark_above : (life : Life) (p : Packet) (m : ℕ) → Some m ≡ mark_for life p → (nat_lt (last_mark life) m ≡ true) × (nat_lt (sent_at p) m ≡ true)
mark_above life p m e = above_both (last_mark life) (sent_at p) m (mark_is _ _ _ _ m e)

-- a life that has not ended, with one step more
pub rises_whole : (life : Life) (steps : List Step) (s : Step) → life.ending ≡ Up → marks_rise life.opening.mark (all_steps life) ≡ true → Some s.mark ≡ mark_for life s.packet → steps ≡ life.steps.items ++ s ∷ [] → marks_rise life.opening.mark (steps ++ torn_step life.ending) ≡ true
rises_whole life steps s up rises m e =
    let above = mark_above life s.packet s.mark m in
    let no_more : torn_step life.ending ≡ [] = ap torn_step up in
    let all : all_steps life ≡ life.steps.items = ap (λ xs. life.steps.items ++ xs) no_more ∙ append-nil life.steps.items in
    rw (no_more, append-nil steps, e) (marks_rise-append _ life.steps.items s (rw all at rises) (rw all at above.0) above.1)

-- with a torn step
pub rises_torn : (life : Life) (steps : List Step) (s : Step) → life.ending ≡ Up → marks_rise life.opening.mark (all_steps life) ≡ true → Some s.mark ≡ mark_for life s.packet → steps ≡ life.steps.items → marks_rise life.opening.mark (steps ++ s ∷ []) ≡ true
rises_torn life steps s up rises m e =
    let above = mark_above life s.packet s.mark m in
    let no_more : torn_step life.ending ≡ [] = ap torn_step up in
    let all : all_steps life ≡ life.steps.items = ap (λ xs. life.steps.items ++ xs) no_more ∙ append-nil life.steps.items in
    rw e (marks_rise-append _ life.steps.items s (rw all at rises) (rw all at above.0) above.1)

-- ---- the step that a packet makes, whatever it told

pub made_for : (life : Life) (s : Step) (m : ℕ) (reading : ℤ) (p : Packet) (outcomes : List Outcome) → s ≡ with_outcomes outcomes (step_of m reading p) → Some m ≡ mark_for life p → Some s.mark ≡ mark_for life s.packet
made_for life s m reading p outcomes e for = rw e for

pub made_of : (s : Step) (m : ℕ) (reading : ℤ) (p : Packet) (w : Work) (outcomes : List Outcome) → s ≡ with_outcomes outcomes (step_of m reading p) → w ≡ work_of p → w ≡ work_of s.packet
made_of s m reading p w outcomes e of = rw e of
