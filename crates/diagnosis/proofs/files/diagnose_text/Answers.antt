use Rattle.std.proofs.lemmas.Result.{IfOk-weaker}
use Rattle.diagnosis.proofs.Judged.{of_script, of_schema}
use Rattle.diagnosis.proofs.files.diagnose_text.Goals as goal

pub returns-in-Script-clause-clean : goal.returns-in-Script-clause-clean
returns-in-Script-clause-clean c = IfOk-weaker c.diagnose_script.result _ _ (λ told is. of_script c.args.subject c.args.text.now told.is_clean c.in-Script.is c.utf8.text is) c.diagnose_script.ensures.clean

pub returns-in-Schema-clause-clean : goal.returns-in-Schema-clause-clean
returns-in-Schema-clause-clean c = IfOk-weaker c.diagnose_schema.result _ _ (λ told is. of_schema c.args.subject c.args.text.now told.is_clean c.in-Schema.is c.utf8.text is) c.diagnose_schema.ensures.clean
