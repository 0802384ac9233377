use Rattle.std.proofs.Common.{arith}
use Rattle.std.proofs.lemmas.Bool.Decides.{nat_tests}
use Rattle.period.proofs.PeriodLemmas.{SameDays-ends}
use Rattle.period.proofs.period.Period.equals.Goals as goal

pub returns-then-eq : goal.returns-then-eq
returns-then-eq c =
    let ends = SameDays-ends c.args.self c.args.other in
    (λ yes. ends.1 (grind (arith, nat_tests), grind (arith, nat_tests)), λ same. let e = ends.0 same in grind (arith, nat_tests))

pub returns-else-eq : goal.returns-else-eq
returns-else-eq c =
    let ends = SameDays-ends c.args.self c.args.other in
    (λ yes. grind (arith, nat_tests), λ same. let e = ends.0 same in grind (arith, nat_tests))
