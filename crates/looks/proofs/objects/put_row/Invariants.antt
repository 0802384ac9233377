use Rattle.std.proofs.Common.{◌≡◌, ◌++◌, map, take}
use Rattle.looks.specs.Objects.{slot_token}
use Rattle.looks.proofs.objects.put_row.Given as goal

abbrev pub invariant-loop-column : goal.invariant-loop-column
invariant-loop-column l =
    (l.writer.before ≡ l.initial.writer.before)
    × (l.writer.tokens ≡ l.initial.writer.tokens ++ map (λ c. slot_token l.row c.shows) (take l.column-index l.columns))
