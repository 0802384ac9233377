use Rattle.std.proofs.Common.{inr, string_bytes}
use Rattle.answertext.specs.Sinks.{AppendsBeginning}
use Rattle.shell.proofs.Scripts.{on_err}
use Rattle.shell.proofs.since_run.run_since.Goals as goal

pub returns-in_err-tell-clause-begun : goal.returns-in_err-tell-clause-begun
returns-in_err-tell-clause-begun g c =
    let text = string_bytes c.in_ok-status.text in
    let begun : AppendsBeginning (g.O.Outlet.holds c.args.outlet.now) (g.O.Outlet.holds c.tell.new.outlet) text = rw c.as_str.ensures.value at c.in_err-tell.ensures.written in
    on_err c.from_residual-in_err-tell.result _ (inr (c.in_ok-status.status, text, c.in_ok-status.ensures.ok, begun))
