use Rattle.std.proofs.Common.{[], ◌∷◌, inr, string_bytes}
use Rattle.std.proofs.lemmas.Result.{on_ok_weaker}
use Rattle.store.specs.Lines.{no_lines, one_block, waiting}
use Rattle.store.proofs.Continuing.{continues_both}
use Rattle.store.proofs.Texts.{line_there}
use Rattle.store.proofs.Written.{line_added, then_err}
use Rattle.store.proofs.scribe.Scribe.tell.Goals as goal

pub returns-clause-continues : goal.returns-clause-continues
returns-clause-continues g c =
    let old = c.args.self.now in
    let mid = c.add.new.self in
    let line = c.args.line.now in
    on_ok_weaker c.flush.result
    (λ written. continues_both g.J.Device.contents old mid c.flush.new.self (waiting (line ∷ [])) (one_block []) c.in_ok-add.ensures.continues (written.1 (line_there (string_bytes old.buffer) (string_bytes mid.buffer) line (line_added (string_bytes old.buffer) (string_bytes mid.buffer) line c.in_ok-add.ensures.ok))))
    c.flush.ensures.continues

pub returns-clause-lost : goal.returns-clause-lost
returns-clause-lost g c =
    then_err c.flush.result (λ lost. inr (continues_both g.J.Device.contents c.args.self.now c.add.new.self c.flush.new.self (waiting (c.args.line.now ∷ [])) no_lines c.in_ok-add.ensures.continues lost)) c.flush.ensures.lost
