use Rattle.std.proofs.Common.{◌≡◌, ◌++◌, take, string_bytes}
use Rattle.report.specs.Whole.{sealed_files}
use Rattle.report.proofs.whole.put_files.Given as goal

abbrev pub invariant-loop-node : goal.invariant-loop-node
invariant-loop-node l = string_bytes l.text ≡ string_bytes l.initial.text ++ sealed_files (take l.node-index l.nodes)
