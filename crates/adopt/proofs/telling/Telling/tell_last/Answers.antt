use Rattle.std.proofs.Common.{◌∙◌, ◌+◌, ◌++◌, sym, ap, append-nil, append_assoc}
use Rattle.moments.specs.View.{past_of}
use Rattle.adopt.specs.Lines.{down_lines, summary_at}
use Rattle.adopt.specs.Spelled.{last_lines}
use Rattle.adopt.proofs.Placing.{run_again, run_itself, last_more}
use Rattle.adopt.proofs.telling.Telling.tell_last.Goals as goal

pub loop-at-init : goal.loop-at-init
loop-at-init c = record { lines = sym (append-nil c.args.self.now.lines.items); run = run_itself c.args.self.now.replay c.requires.live }

pub loop-at-preserved : goal.loop-at-preserved
loop-at-preserved c =
    let old = c.args.self.now in
    let cur = c.loop-at.self in
    let i = c.loop-at.at in
    let inv = c.loop-at.invariant in
    let w = (past_of old.replay).world in
    record {
      lines = c.in_ok-stop.ensures.lines ∙ (λ j. inv.lines j ++ down_lines (i + 1) (summary_at (inv.run.past j).world (i + 1))) ∙ append_assoc old.lines.items (last_lines w i) (down_lines (i + 1) (summary_at w (i + 1))) ∙ ap (λ xs. old.lines.items ++ xs) (last_more w i);
      run = run_again old.replay cur.replay c.stop.new.self.replay inv.run c.in_ok-stop.ensures.run;
    }
