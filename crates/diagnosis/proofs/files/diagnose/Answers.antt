use Rattle.std.proofs.Common.{subst}
use Rattle.std.specs.Prelude.{◌↔◌, IsTrue}
use Rattle.std.proofs.lemmas.Result.{IfOk-weaker}
use Rattle.diagnosis.specs.Faultless.{IsFaultless}
use Rattle.diagnosis.proofs.Judged.{no_text}
use Rattle.diagnosis.proofs.files.diagnose.Goals as goal

pub returns-in-Ok-clause-clean : goal.returns-in-Ok-clause-clean
returns-in-Ok-clause-clean c = IfOk-weaker c.diagnose_text.result _ _ (λ told is. subst (λ bytes. IsTrue told.is_clean ↔ IsFaultless c.args.subject bytes) c.in-Ok.ensures.cases.0 is) c.diagnose_text.ensures.clean

pub returns-in-Err-clause-clean : goal.returns-in-Err-clause-clean
returns-in-Err-clause-clean c = IfOk-weaker c.diagnose_bytes.result _ _ (λ told is. no_text c.args.subject c.args.bytes.now told.is_clean c.in-Err.ensures.cases.0 is) c.diagnose_bytes.ensures.clean
