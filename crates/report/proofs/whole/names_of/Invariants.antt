use Rattle.std.proofs.Common.{◌≡◌, map, take, string_bytes}
use Rattle.report.proofs.whole.names_of.Given as goal

abbrev pub invariant-loop-file : goal.invariant-loop-file
invariant-loop-file l = map string_bytes l.names.items ≡ map (λ f. f.name.now) (take l.file-index l.files)
