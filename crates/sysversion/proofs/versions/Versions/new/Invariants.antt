use Rattle.std.proofs.Common.{◌≡◌, ℕ, [], length}
use Rattle.std.specs.Prelude.{slice_get}
use Rattle.std.specs.Option.{option_map_or}
use Rattle.sysversion.specs.Versions.{versions_of_table}
use Rattle.sysversion.proofs.versions.Versions.new.Given as goal

abbrev pub invariant-loop : goal.invariant-loop
invariant-loop l = record {
  long : length l.tables.items ≡ l.counter;
  versions : (n : ℕ) → option_map_or versions_of_table (slice_get l.tables.items n) [] ≡ [];
}
