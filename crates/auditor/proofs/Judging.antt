-- What is said of a fault.
use Rattle.moments.specs.declared.recorded.AuditFault.{AuditFault}
use Rattle.moments.specs.declared.recorded.AuditFault.TheVariants.{NoMemory, OutOfOrder, Broken, Unsent, Wrong}
use Rattle.auditor.specs.Faults.{OfRun}
use Rattle.moments.specs.Faults.{IsNo}

pub no_weaker : (P Q : AuditFault → Type 0) (f : AuditFault) → ((g : AuditFault) → P g → Q g) → IsNo P f → IsNo Q f
no_weaker P Q NoMemory weaker h = h
no_weaker P Q (OutOfOrder node mark) weaker h = h
no_weaker P Q (Broken node mark) weaker h = weaker _ h
no_weaker P Q (Unsent node mark) weaker h = weaker _ h
no_weaker P Q (Wrong node mark) weaker h = weaker _ h

-- ---- 51, 52 and 54

pub no_of : (P Q : AuditFault → Type 0) (f : AuditFault) → ((g : AuditFault) → P g → Q g) → IsNo P f → OfRun Q f
no_of P Q NoMemory weaker h = tt
no_of P Q (OutOfOrder node mark) weaker h = absurd h
no_of P Q (Broken node mark) weaker h = weaker _ h
no_of P Q (Unsent node mark) weaker h = weaker _ h
no_of P Q (Wrong node mark) weaker h = weaker _ h
