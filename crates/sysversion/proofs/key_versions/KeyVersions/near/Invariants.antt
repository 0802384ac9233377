use Rattle.std.proofs.Common.{◌≡◌, ℕ, ◌+◌, ◌<◌, ◌≤◌, ◌++◌, length, map}
use Rattle.rowlaws.specs.Rows.{Has}
use Rattle.sysversion.specs.Lists.{version_of}
use Rattle.sysversion.proofs.Near.{picked}
use Rattle.sysversion.proofs.key_versions.KeyVersions.near.Given as goal

abbrev pub invariant-loop-place : goal.invariant-loop-place
invariant-loop-place l = record {
  found : map (λ v. version_of v.now) l.found.items ++ picked (map version_of l.versions) l.place-iterator ≡ picked (map version_of l.versions) l.initial.place-iterator;
  within : (place : ℕ) → Has l.place-iterator place → place < length l.versions;
  few : l.count + length l.place-iterator ≤ l.fn.count + length l.initial.place-iterator;
  counted : length l.found.items ≤ l.count;
}
