use Rattle.std.proofs.Common.{◌≡◌, map, take, string_bytes}
use Rattle.looks.proofs.separated.names_of.Given as goal

abbrev pub invariant-loop-column : goal.invariant-loop-column
invariant-loop-column l = map string_bytes l.names.items ≡ map (λ c. c.name) (take l.column-index l.columns)
