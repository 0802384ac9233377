use Rattle.std.specs.Option.{is_none}
use Rattle.std.proofs.lemmas.Result.{IfOk-weaker}
use Rattle.diagnosis.proofs.Judged.{judged, refused_script}
use Rattle.diagnosis.proofs.faultless.fault_of_script.Goals as goal

pub returns-in-Ok : goal.returns-in-Ok
returns-in-Ok c =
    IfOk-weaker c.fault_of_lines.result _ _
    (λ fault is. judged c.args.text.now c.in-Ok.script.members c.in-Ok.script.schema c.in-Ok.script.lines.items (is_none fault) c.one_answer.ensures.reading c.in-Ok.ensures.lines (let items = c.deref.ensures.value in cc))
    c.fault_of_lines.ensures

pub returns-in-Err : goal.returns-in-Err
returns-in-Err c = IfOk-weaker c.refused.result _ _ (λ fault h. refused_script c.args.text.now c.in-Err.refusal fault c.faults.ensures.read c.in-Err.ensures.err h) c.refused.ensures
