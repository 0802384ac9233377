use Rattle.std.proofs.Common.{◌≡◌, map}
use Rattle.flight.specs.declared.flight.Flight.{Flight as Held}
use Rattle.flight.proofs.records.Records.of.Given as goal

abbrev pub invariant-loop-flight : goal.invariant-loop-flight
invariant-loop-flight l = record {
  lives : l.lives.items ≡ map (λ (f : Held). f.lives) l.yielded;
  answers : l.answers.items ≡ map (λ (f : Held). f.answers) l.yielded;
}
