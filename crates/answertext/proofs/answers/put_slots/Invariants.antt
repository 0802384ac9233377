use Rattle.std.proofs.Common.{◌≡◌, map, take}
use Rattle.answertext.specs.Answers.{joined, slot_text}
use Rattle.answertext.proofs.Joining.{comma_after}
use Rattle.answertext.proofs.answers.put_slots.Given as goal

abbrev pub invariant-loop-column : goal.invariant-loop-column
invariant-loop-column g l =
    (l.comma ≡ comma_after (take l.column-index l.columns))
    × g.S.Sink.takes l.initial.sink (joined (map (λ c. slot_text l.row c.shows) (take l.column-index l.columns))) l.sink
