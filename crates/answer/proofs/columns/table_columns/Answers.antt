use Rattle.std.proofs.Common.{sym, ◌∙◌, arith}
use Rattle.answer.proofs.Places.{next_none, next_some, all_columns}
use Rattle.answer.proofs.columns.table_columns.Goals as goal
use Rattle.answer.proofs.columns.table_columns.Goals.{in-Some+in_ok-name+in_ok-push, in_default}

pub loop-place-preserved : goal.loop-place-preserved
loop-place-preserved c =
    elim c.match-shows_at.branch [
      | in-Some+in_ok-name+in_ok-push w ↦
          let next = next_some c.args.table.now c.loop-place.place w.column.result.0.now w.column.result.1 w.in-Some.shows w.column.ensures (sym c.shows_at.ensures ∙ w.in-Some.is) in
          let before = c.loop-place.invariant in
          let pushed = w.in_ok-push.ensures.items in
          let copied = w.in_ok-name.ensures in
          let written = w.as_str.ensures.written in
          cc
      | in_default w ↦
          let next = next_none c.args.table.now c.loop-place.place (omega arith) (sym c.shows_at.ensures ∙ w.in_default.is) in
          let before = c.loop-place.invariant in
          cc
    ]

pub returns : goal.returns
returns c = c.loop-place.invariant ∙ all_columns c.args.table.now c.loop-place.place (omega arith)
