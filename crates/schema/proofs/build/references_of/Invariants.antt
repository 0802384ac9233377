use Rattle.std.proofs.Common.{◌≡◌, map, take}
use Rattle.schema.specs.Tables.{reference_of}
use Rattle.schema.proofs.build.references_of.Given as goal

abbrev pub invariant-loop-key : goal.invariant-loop-key
invariant-loop-key l = l.references.items ≡ map (reference_of (map (λ e. e.0) l.tables.entries) (map (λ e. e.0) l.columns.entries)) (take l.key-index l.keys)
