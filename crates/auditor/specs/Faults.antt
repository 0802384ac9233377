-- What each fault of an audit says.
use Rattle.std.specs.Prelude.{List}
use Rattle.std.specs.declared.vec.Vec.{Vec}
use Rattle.std.specs.declared.alloc.Global.{Global}
use Rattle.flight.specs.declared.life.Life.{Life}
use Rattle.moments.specs.declared.recorded.AuditFault.{AuditFault}
use Rattle.moments.specs.declared.recorded.AuditFault.TheVariants.{NoMemory, OutOfOrder, Broken, Unsent, Wrong}
use Rattle.moments.specs.Rising.{Rise}

-- 53 exactly where marks do not rise, want of memory aside
abbrev pub IsOrderFault : List (Vec Life Global) → AuditFault → Type 0
IsOrderFault lives NoMemory = Unit {0}
IsOrderFault lives (OutOfOrder node mark) = Rise lives → ⊥
IsOrderFault lives (Broken node mark) = Rise lives
IsOrderFault lives (Unsent node mark) = Rise lives
IsOrderFault lives (Wrong node mark) = Rise lives

-- this holds of 51, 52 and 54
abbrev pub OfRun : (AuditFault → Type 0) → AuditFault → Type 0
OfRun so NoMemory = Unit {0}
OfRun so (OutOfOrder node mark) = Unit {0}
OfRun so (Broken node mark) = so (Broken node mark)
OfRun so (Unsent node mark) = so (Unsent node mark)
OfRun so (Wrong node mark) = so (Wrong node mark)
