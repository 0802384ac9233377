-- The join of the lives is one, and what it leads to is one: where a moment has no events, nothing explains the lives.
use Rattle.std.proofs.Common.{◌≡◌, ◌∙◌, ℕ, List, [], ◌∷◌, ◌++◌, length, sym, subst}
use Rattle.model.specs.Worlds.{Event}
use Rattle.sqlread.specs.Meaning.{language_of}
use Rattle.moments.specs.declared.moment.Moment.{Moment}
use Rattle.moments.specs.declared.recorded.AuditFault.{AuditFault}
use Rattle.moments.specs.Moments.{all_moments, IsTimeline}
use Rattle.moments.specs.Past.{Past, beginning, after}
use Rattle.moments.specs.Behind.{Evidence, IsBehind}
use Rattle.moments.specs.Faults.{NoneAre}
use Rattle.auditor.specs.Audited.{Leads, Explains, IsStuck, IsFirst}
use Rattle.auditor.proofs.Alike.{same_after}
use Rattle.auditor.proofs.Sorting.{sorted_once}

-- whichever events led up to a moment that has none, nothing leads past it
not_past : (r : Evidence) (n : ℕ) (p q past : Past) (before later : List Moment) (m : Moment) (es events : List Event) → Leads r n p before es past → NoneAre (IsBehind r n past m) → Leads r n p (before ++ m ∷ later) events q → ⊥
not_past r n p q past [] later m es events led none goes =
    let B : Past → Type 0 = λ x. IsBehind r n x m goes.0 in
    none goes.0 (subst B (sym led.1) goes.3)
not_past r n p q past (k ∷ before) later m es events led none goes =
    let L : Past → Type 0 = λ x. Leads r n x before led.1 past in
    let next = subst L (same_after r n p k led.0 goes.0 led.3 goes.3) led.4 in
    not_past r n (after (language_of r.tables) n p k.mark goes.0) q past before later m led.1 goes.1 next none goes.4

by_moment : (r : Evidence) (moments : List Moment) (f : AuditFault) → IsTimeline r.lives r.answers moments → IsStuck r (length r.lives) (beginning (length r.lives)) moments f → NoneAre (Explains r)
by_moment r moments f timeline stuck events e =
    let same : e.moments ≡ stuck.before ++ stuck.moment ∷ stuck.later =
    sorted_once (λ (m : Moment). m.mark) (all_moments r.lives r.answers) e.moments moments e.timeline.rises e.timeline.stays timeline.rises timeline.stays ∙ stuck.is in
    let L : List Moment → Type 0 = λ ms. Leads r (length r.lives) (beginning (length r.lives)) ms events e.end in
    not_past r (length r.lives) (beginning (length r.lives)) e.end stuck.past stuck.before stuck.later stuck.moment stuck.events events stuck.leads stuck.none (subst L same e.leads)

pub unexplained : (r : Evidence) (f : AuditFault) → IsFirst r f → NoneAre (Explains r)
unexplained r f (moments, timeline, stuck) = by_moment r moments f timeline stuck
