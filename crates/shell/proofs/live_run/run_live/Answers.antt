use Rattle.std.proofs.Common.{string_bytes}
use Rattle.shell.proofs.Playing.{run_ended}
use Rattle.shell.proofs.live_run.run_live.Goals as goal

pub returns-clause-said : goal.returns-clause-said
returns-clause-said g c =
    let script = c.in_ok-script.script in
    run_ended (g.I.Read.remaining c.args.reader.now) (string_bytes c.in_ok-text.text) c.in_ok-text.ensures.text c.args.live.nodes script.schema script.lines.items
    (rw c.as_str.ensures.value at c.in_ok-script.ensures.lines) c.args.look.form _ (λ a line said b p. p) _ _ _ _ c.run_by.result c.run_by.ensures.printed
