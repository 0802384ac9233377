use Rattle.std.proofs.Common.{rules, ◌≢◌}
use Rattle.std.specs.Prelude.{codes}
use Rattle.lines.proofs.Lines.{line_unspaced}
use Rattle.lines.proofs.line.read_line.Goals as goal
use Rattle.lines.proofs.line.read_line.Goals.{in-settle, in-recover, in_default-text}

pub returns-in_default-clause-none : goal.returns-in_default-clause-none
returns-in_default-clause-none c = elim c.match-text.branch [
  | in-settle w ↦ rw w.result-is tt
  | in-recover w ↦ rw w.result-is tt
  | in_default-text w ↦
      let settle : c.args.text.now ≢ codes "settle" = search rules in
      let recover : c.args.text.now ≢ codes "recover" = search rules in
      rw w.result-is (line_unspaced c.args.members c.args.text.now c.in_default.ensures.none settle recover)
]
