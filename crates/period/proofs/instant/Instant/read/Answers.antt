use Rattle.std.proofs.lemmas.Result.{IfOk-weaker}
use Rattle.std.proofs.Common.{refl, sym, ◌∙◌}
use Rattle.fault.specs.declared.refusal.Refusal.TheVariants.{OutOfRange}
use Rattle.period.proofs.ReadingLemmas.{instant_at-some, instant_at-none}
use Rattle.period.proofs.DayLemmas.{ok_or-IfOk, ok_or-no_syntax}
use Rattle.period.proofs.InstantLemmas.{found_instant, IsInstantText-shape, IsInstantText-instant_text}
use Rattle.period.specs.declared.instant.Instant.{Instant}
use Rattle.period.proofs.instant.Instant.read.Goals as goal

pub instant_of-requires-clause-date : goal.instant_of-requires-clause-date
instant_of-requires-clause-date c = (instant_at-some c.as_bytes.result.now c.in-Some.parts (sym c.instant_parts.ensures ∙ c.in-Some.is)).1

pub instant_of-requires-clause-time : goal.instant_of-requires-clause-time
instant_of-requires-clause-time c = (instant_at-some c.as_bytes.result.now c.in-Some.parts (sym c.instant_parts.ensures ∙ c.in-Some.is)).2

pub returns-in-Some-clause-value : goal.returns-in-Some-clause-value
returns-in-Some-clause-value c =
    let read = instant_at-some c.as_bytes.result.now c.in-Some.parts (sym c.instant_parts.ensures ∙ c.in-Some.is) in
    let spelled = sym read.0 ∙ c.as_bytes.ensures.value in
    rw c.ok_or.ensures.value (ok_or-IfOk c.instant_of.result OutOfRange _ (rw spelled at c.instant_of.ensures.some))

pub returns-in-Some-clause-every : goal.returns-in-Some-clause-every
returns-in-Some-clause-every c = λ n is named.
    let read = instant_at-some c.as_bytes.result.now c.in-Some.parts (sym c.instant_parts.ensures ∙ c.in-Some.is) in
    let spelled = sym read.0 ∙ c.as_bytes.ensures.value in
    rw c.ok_or.ensures.value (found_instant (λ (i : Instant). i.microseconds) c.instant_of.result OutOfRange c.args.text.now (rw spelled at c.instant_of.ensures.some) (rw spelled at c.instant_of.ensures.none) n is named)

pub returns-in-Some-clause-shape : goal.returns-in-Some-clause-shape
returns-in-Some-clause-shape c =
    let read = instant_at-some c.as_bytes.result.now c.in-Some.parts (sym c.instant_parts.ensures ∙ c.in-Some.is) in (
      λ e. absurd (ok_or-no_syntax c.instant_of.result c.args.at (sym c.ok_or.ensures.value ∙ e)),
      λ none. absurd (none (c.in-Some.parts, (read.1, read.2, sym c.as_bytes.ensures.value ∙ read.0))),
    )

pub returns-in-None-clause-every : goal.returns-in-None-clause-every
returns-in-None-clause-every c = λ i is named.
    let none = rw c.as_bytes.ensures.value at (instant_at-none c.as_bytes.result.now (sym c.instant_parts.ensures ∙ c.in-None.is)) in
    absurd (none (IsInstantText-shape i c.args.text.now named))

pub returns-in-None-clause-shape : goal.returns-in-None-clause-shape
returns-in-None-clause-shape c =
    let none = rw c.as_bytes.ensures.value at (instant_at-none c.as_bytes.result.now (sym c.instant_parts.ensures ∙ c.in-None.is)) in
    (λ e. none, λ no. refl)

pub returns-in-Some-clause-prints : goal.returns-in-Some-clause-prints
returns-in-Some-clause-prints c =
    IfOk-weaker c.ok_or.result _ _ (λ i named. IsInstantText-instant_text i.microseconds c.args.text.now named) (returns-in-Some-clause-value c)
