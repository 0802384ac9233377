use Rattle.std.proofs.Common.{◌≡◌, ◌||◌, not}
use Rattle.schema.specs.Tables.{numbers_below, is_one_of}
use Rattle.schema.proofs.build.places_but.Given as goal

abbrev pub invariant-loop-place : goal.invariant-loop-place
invariant-loop-place l = l.places.items ≡ numbers_below l.place (λ c. not (is_one_of l.periods c || is_one_of l.key c))
