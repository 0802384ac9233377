use Rattle.std.specs.Prelude.{codes}
use Rattle.report.specs.Machine.{optional_text, what_tokens}
use Rattle.report.proofs.Adding.{three}
use Rattle.report.proofs.machine.put_what.Goals as goal

pub returns : goal.returns
unfolding what_tokens
returns c =
    let d = c.args.difference.now in
    three c.put_optional_text-3.result c.args.writer.now c.put_optional_text.new.writer c.put_optional_text-2.new.writer c.put_optional_text-3.new.writer
    (optional_text (codes "question") d.question) (optional_text (codes "recorded") d.recorded) (optional_text (codes "run") d.given) c.in_ok-put_optional_text.ensures c.in_ok-put_optional_text-2.ensures c.put_optional_text-3.ensures
