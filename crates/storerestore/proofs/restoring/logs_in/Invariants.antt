use Rattle.std.proofs.Common.{◌≡◌}
use Rattle.std.specs.Prelude.{map}
use Rattle.storerestore.specs.declared.looking.Looked.{Looked}
use Rattle.storerestore.proofs.restoring.logs_in.Given as goal

abbrev pub invariant-loop-looked : goal.invariant-loop-looked
invariant-loop-looked l = l.logs.items ≡ map (λ (looked : Looked). looked.log) l.yielded
