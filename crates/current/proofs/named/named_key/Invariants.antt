use Rattle.std.proofs.Common.{◌≡◌, ℕ, ◌<◌, length}
use Rattle.std.specs.Prelude.{slice_get}
use Rattle.current.specs.Named.{said_at}
use Rattle.current.proofs.named.named_key.Given as goal

abbrev pub invariant-loop-place : goal.invariant-loop-place
invariant-loop-place l = record {
  long : length l.values.items ≡ l.place;
  named : (place : ℕ) → place < l.place → said_at place l.conditions ≡ slice_get l.values.items place;
}
