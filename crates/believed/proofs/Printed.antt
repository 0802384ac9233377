-- The table of refusals prints what number and text print.
use Rattle.std.proofs.Common.{◌≡◌, Some, None, refl}
use Rattle.fault.specs.declared.refusal.Refusal.{Refusal}
use Rattle.fault.specs.declared.refusal.Refusal.TheVariants.{Syntax, UnknownTable, UnknownColumn, WrongType, NotAssignable, EmptyPeriod, OutOfRange, TooLarge, BadSchema, KeyOverlap, NoParent, RowLimit, NumberRange, Old, Gap, NotLeader, NotClosed, TimeFull, LogFull, TermFull, StoreFault, NodeDown, LifeFull, NoMemory, BadStore, NoView, BadFlight, BrokenLife, Unsent, StampOrder, WrongAnswer, BadScript}
use Rattle.std.specs.Fmt.{digits}
use Rattle.fault.specs.Refusal as before
use Rattle.believed.specs.Refusals as now

pub shown_same : (r : Refusal) → now.shown r ≡ before.shown r
unfolding digits
shown_same (Syntax at) = refl
shown_same UnknownTable = refl
shown_same UnknownColumn = refl
shown_same WrongType = refl
shown_same NotAssignable = refl
shown_same EmptyPeriod = refl
shown_same OutOfRange = refl
shown_same TooLarge = refl
shown_same BadSchema = refl
shown_same KeyOverlap = refl
shown_same (NoParent table key day) = refl
shown_same RowLimit = refl
shown_same NumberRange = refl
shown_same Old = refl
shown_same Gap = refl
shown_same (NotLeader (Some node)) = refl
shown_same (NotLeader None) = refl
shown_same (NotClosed (Some instant)) = refl
shown_same (NotClosed None) = refl
shown_same TimeFull = refl
shown_same LogFull = refl
shown_same TermFull = refl
shown_same StoreFault = refl
shown_same NodeDown = refl
shown_same LifeFull = refl
shown_same NoMemory = refl
shown_same BadStore = refl
shown_same NoView = refl
shown_same BadFlight = refl
shown_same (BrokenLife node mark) = refl
shown_same (Unsent node mark) = refl
shown_same (StampOrder node mark) = refl
shown_same (WrongAnswer node mark) = refl
shown_same (BadScript line) = refl
