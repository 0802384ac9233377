use Rattle.std.proofs.Common.{◌≡◌, ◌++◌, drop}
use Rattle.report.specs.Machine.{members_tokens}
use Rattle.report.proofs.machine.put_each_member.Given as goal

abbrev pub invariant-loop-place : goal.invariant-loop-place
invariant-loop-place l = (l.writer.before ≡ l.initial.writer.before)
    × (l.writer.tokens ++ members_tokens l.place l.files (drop l.place l.nodes) ≡ l.initial.writer.tokens ++ members_tokens 0 l.files l.nodes)
