use Rattle.std.proofs.Common.{◌≡◌, ◌++◌, take}
use Rattle.std.specs.List.{flat_map}
use Rattle.report.specs.Machine.{earlier_tokens}
use Rattle.report.proofs.machine.put_each_earlier.Given as goal

abbrev pub invariant-loop-moment : goal.invariant-loop-moment
invariant-loop-moment l = (l.writer.before ≡ l.initial.writer.before)
    × (l.writer.tokens ≡ l.initial.writer.tokens ++ flat_map earlier_tokens (take l.moment-index l.earlier))
