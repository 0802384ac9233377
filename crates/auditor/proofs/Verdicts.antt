-- What is known of a fault, and the same of the same answers.
use Rattle.std.proofs.Common.{◌≡◌, ◌≢◌, List, subst}
use Rattle.std.specs.Prelude.{Result, Ok, Err, IfErr, OnOk}
use Rattle.std.specs.declared.vec.Vec.{Vec}
use Rattle.std.specs.declared.alloc.Global.{Global}
use Rattle.flight.specs.declared.flight.Version.{Version}
use Rattle.flight.specs.declared.life.Life.{Life}
use Rattle.sqlchecks.specs.Columns.{Tables}
use Rattle.moments.specs.Behind.{Evidence}
use Rattle.moments.specs.Faults.{NoneAre}
use Rattle.moments.specs.declared.recorded.AuditFault.{AuditFault}
use Rattle.moments.specs.declared.recorded.AuditFault.TheVariants.{NoMemory as NoMemoryLeft}
use Rattle.moments.specs.declared.recorded.Recorded.{Recorded}
use Rattle.auditor.specs.Faults.{IsOrderFault, OfRun}
use Rattle.auditor.specs.Joined.{Explains, IsFirst}
use Rattle.auditor.specs.Verdict.{IsExplained, IsFaultOf}

-- what is known of a fault
pub fault_told : {T : Type 0} (r : Evidence) (a : Result T AuditFault) → IfErr a (IsOrderFault r.lives) → IfErr a (OfRun (λ _. NoneAre (Explains r))) → IfErr a (OfRun (IsFirst r))
    → IfErr a (λ fault. fault ≢ NoMemoryLeft → IsFaultOf r fault)
fault_told r (Ok v) order none first = order
fault_told r (Err fault) order none first = λ found. record { found = found; order = order; none = none; first = first }

module _ {T : Type 0} (a : Result T AuditFault) (version : Version) (tables : Tables) (led lives : List (Vec Life Global)) (given judged : List Recorded) (led_same : led ≡ lives) (same : given ≡ judged) where
  pub explained_same : OnOk a (IsExplained (record { version = version; tables = tables; lives = led; answers = given })) → OnOk a (IsExplained (record { version = version; tables = tables; lives = lives; answers = judged }))
  explained_same h =
      let P : List (Vec Life Global) → List Recorded → Type 0 = λ ls xs. OnOk a (IsExplained (record { version = version; tables = tables; lives = ls; answers = xs })) in
      subst (P lives) same (subst (λ ls. P ls given) led_same h)

  pub fault_same : IfErr a (λ fault. fault ≢ NoMemoryLeft → IsFaultOf (record { version = version; tables = tables; lives = led; answers = given }) fault)
      → IfErr a (λ fault. fault ≢ NoMemoryLeft → IsFaultOf (record { version = version; tables = tables; lives = lives; answers = judged }) fault)
  fault_same h =
      let P : List (Vec Life Global) → List Recorded → Type 0 = λ ls xs. IfErr a (λ fault. fault ≢ NoMemoryLeft → IsFaultOf (record { version = version; tables = tables; lives = ls; answers = xs }) fault) in
      subst (P lives) same (subst (λ ls. P ls given) led_same h)
