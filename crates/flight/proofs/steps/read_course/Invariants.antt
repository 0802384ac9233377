use Rattle.std.proofs.Common.{length}
use Rattle.std.specs.Prelude.{codes}
use Rattle.std.specs.Str.{IsUtf8}
use Rattle.flight.specs.Spelling.{step_text}
use Rattle.flight.specs.Ranges.{IsStep}
use Rattle.flight.specs.Courses.{IsNoOutcome}
use Rattle.flight.proofs.Lists.{TakenUntil}
use Rattle.flight.proofs.Stories.{steps_no_outcome}
use Rattle.flight.proofs.steps.read_course.Given as goal

abbrev pub invariant-loop-rest : goal.invariant-loop-rest
invariant-loop-rest l = record { utf8 : IsUtf8 l.rest; taken : TakenUntil (IsStep l.version l.node) (step_text l.version) (codes "step ") IsNoOutcome (steps_no_outcome l.version) l.text l.steps.items l.rest }

abbrev pub decreases-loop-rest : goal.decreases-loop-rest
decreases-loop-rest l = length l.rest
