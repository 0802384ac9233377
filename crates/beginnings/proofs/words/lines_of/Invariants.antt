use Rattle.std.proofs.Common.{◌≡◌, take, string_bytes}
use Rattle.beginnings.specs.Words.{node_lines}
use Rattle.beginnings.proofs.words.lines_of.Given as goal

abbrev pub invariant-loop-place : goal.invariant-loop-place
invariant-loop-place l = string_bytes l.text ≡ node_lines 1 (take l.place l.found)
