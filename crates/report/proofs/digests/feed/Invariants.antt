use Rattle.std.proofs.Common.{◌++◌, ℕ, List, take}
use Rattle.sha2.specs.Hashers.{Holds256}
use Rattle.report.specs.Digests.{said_by}
use Rattle.report.proofs.digests.feed.Given as goal

abbrev pub invariant-loop-answer : goal.invariant-loop-answer
invariant-loop-answer l = (m : List ℕ) → Holds256 l.initial.hasher m → Holds256 l.hasher (m ++ said_by (take l.answer-index l.answers))
