use Rattle.std.proofs.Common.{take}
use Rattle.std.specs.List.{flat_map}
use Rattle.answertext.specs.Answers.{row_text}
use Rattle.answertext.proofs.answers.put_rows.Given as goal

abbrev pub invariant-loop-row : goal.invariant-loop-row
invariant-loop-row g l = g.S.Sink.takes l.initial.sink (flat_map (row_text l.columns) (take l.row-index l.rows)) l.sink
