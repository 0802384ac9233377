use Rattle.std.proofs.Common.{length}
use Rattle.std.specs.Prelude.{codes, map, ⊤}
use Rattle.std.specs.Str.{IsUtf8}
use Rattle.flight.specs.Contents.{in_life}
use Rattle.flight.specs.Spelling.{life_text}
use Rattle.flight.specs.Ranges.{IsLife}
use Rattle.flight.proofs.Lists.{TakenUntil}
use Rattle.flight.proofs.lives.read_lives.Given as goal

abbrev pub invariant-loop-version : goal.invariant-loop-version
invariant-loop-version l = record { utf8 : IsUtf8 l.rest; taken : TakenUntil (IsLife l.version l.node) (life_text l.version) (codes "life ") (λ _. ⊤) (λ ys other free. tt) l.text (map in_life l.lives.items) l.rest }

abbrev pub decreases-loop-version : goal.decreases-loop-version
decreases-loop-version l = length l.rest
