use Rattle.std.proofs.Common.{◌≡◌, map, take}
use Rattle.schema.specs.Tables.{place}
use Rattle.schema.proofs.build.places.Given as goal

abbrev pub invariant-loop-name : goal.invariant-loop-name
invariant-loop-name l = l.places.items ≡ map (place (map (λ e. e.0) l.columns.entries)) (take l.name-index l.names)
