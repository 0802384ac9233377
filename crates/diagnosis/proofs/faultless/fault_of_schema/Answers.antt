use Rattle.std.proofs.lemmas.Result.{IfOk-weaker}
use Rattle.diagnosis.proofs.Judged.{refused_schema}
use Rattle.diagnosis.proofs.faultless.fault_of_schema.Goals as goal

pub returns-in-Err : goal.returns-in-Err
returns-in-Err c = IfOk-weaker c.refused.result _ _ (λ fault h. refused_schema c.args.text.now c.in-Err.refusal fault c.schema_says.ensures.one c.in-Err.ensures.err h) c.refused.ensures
