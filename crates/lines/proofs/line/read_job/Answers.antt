use Rattle.std.proofs.Common.{rules, ◌≢◌}
use Rattle.std.specs.Prelude.{codes}
use Rattle.lines.proofs.Lines.{job_unspaced, job_word}
use Rattle.lines.proofs.line.read_job.Goals as goal
use Rattle.lines.proofs.line.read_job.Goals.{in-timeout, in-beat, in-close, in-floor, in_default-text}

pub returns-in_default-clause-none : goal.returns-in_default-clause-none
returns-in_default-clause-none c = elim c.match-text.branch [
  | in-timeout w ↦ rw w.result-is tt
  | in-beat w ↦ rw w.result-is tt
  | in-close w ↦ rw w.result-is tt
  | in-floor w ↦ rw w.result-is tt
  | in_default-text w ↦
      let timeout : c.args.text.now ≢ codes "timeout" = search rules in
      let beat : c.args.text.now ≢ codes "beat" = search rules in
      let close : c.args.text.now ≢ codes "close" = search rules in
      let floor : c.args.text.now ≢ codes "floor" = search rules in
      rw w.result-is (job_unspaced c.args.text.now c.in_default.ensures.none timeout beat close floor)
]

pub returns-in_default-word-clause-none : goal.returns-in_default-word-clause-none
returns-in_default-word-clause-none c =
    let submit : c.in-Some.word.now ≢ codes "submit" = search rules in
    let deliver : c.in-Some.word.now ≢ codes "deliver" = search rules in
    job_word c.args.text.now c.in-Some.word.now c.in-Some.rest.now c.in-Some.ensures.parts c.in-Some.ensures.first submit deliver
