-- The refusals of the whole product, as contracts see them: of each its number and the bytes that it prints.
-- Numbers and texts are this product's own.
use Rattle.std.specs.Prelude.{ℕ, List, ◌++◌, codes, decimal, Some, None}
use Rattle.fault.specs.declared.refusal.Refusal.{Refusal}
use Rattle.fault.specs.declared.refusal.Refusal.TheVariants.{Syntax, UnknownTable, UnknownColumn, WrongType, NotAssignable, EmptyPeriod, OutOfRange, TooLarge, BadSchema, KeyOverlap, NoParent, RowLimit, NumberRange, Old, Gap, NotLeader, NotClosed, TimeFull, LogFull, TermFull, StoreFault, NodeDown, LifeFull, NoMemory, BadStore, NoView, BadFlight, BrokenLife, Unsent, StampOrder, WrongAnswer, BadScript}

-- the number by which a refusal is known
abbrev pub number_of : Refusal → ℕ
number_of (Syntax at) = 10
number_of UnknownTable = 11
number_of UnknownColumn = 12
number_of WrongType = 13
number_of NotAssignable = 14
number_of EmptyPeriod = 15
number_of OutOfRange = 16
number_of TooLarge = 17
number_of BadSchema = 18
number_of KeyOverlap = 20
number_of (NoParent table key day) = 21
number_of RowLimit = 22
number_of NumberRange = 23
number_of Old = 30
number_of Gap = 31
number_of (NotLeader hint) = 32
number_of (NotClosed closed) = 33
number_of TimeFull = 35
number_of LogFull = 36
number_of TermFull = 37
number_of StoreFault = 40
number_of NodeDown = 41
number_of LifeFull = 42
number_of NoMemory = 43
number_of BadStore = 44
number_of NoView = 45
number_of BadFlight = 50
number_of (BrokenLife node mark) = 51
number_of (Unsent node mark) = 52
number_of (StampOrder node mark) = 53
number_of (WrongAnswer node mark) = 54
number_of (BadScript line) = 60

-- the text, without the number
abbrev pub text_of : Refusal → List ℕ
text_of (Syntax at) = codes "syntax error at byte " ++ decimal at
text_of UnknownTable = codes "unknown table"
text_of UnknownColumn = codes "unknown column"
text_of WrongType = codes "wrong type"
text_of NotAssignable = codes "not assignable"
text_of EmptyPeriod = codes "empty period"
text_of OutOfRange = codes "value out of range"
text_of TooLarge = codes "too large"
text_of BadSchema = codes "bad schema"
text_of KeyOverlap = codes "key overlap"
text_of (NoParent table key day) =
    codes "no parent for " ++ table ++ codes " (" ++ key ++ codes ") on " ++ day
text_of RowLimit = codes "row limit"
text_of NumberRange = codes "number out of range"
text_of Old = codes "old request"
text_of Gap = codes "gap in requests"
text_of (NotLeader (Some node)) = codes "not leader, try " ++ decimal node
text_of (NotLeader None) = codes "not leader"
text_of (NotClosed (Some instant)) = codes "not closed, closed to " ++ instant
text_of (NotClosed None) = codes "not closed, nothing closed"
text_of TimeFull = codes "time is full"
text_of LogFull = codes "log is full"
text_of TermFull = codes "term is full"
text_of StoreFault = codes "store fault"
text_of NodeDown = codes "node down"
text_of LifeFull = codes "life is full"
text_of NoMemory = codes "no memory"
text_of BadStore = codes "bad store"
text_of NoView = codes "no view"
text_of BadFlight = codes "bad flight file"
text_of (BrokenLife node mark) =
    codes "broken life of node " ++ decimal node ++ codes " at " ++ decimal mark
text_of (Unsent node mark) =
    codes "unsent message to node " ++ decimal node ++ codes " at " ++ decimal mark
text_of (StampOrder node mark) =
    codes "marks out of order at node " ++ decimal node ++ codes " at " ++ decimal mark
text_of (WrongAnswer node mark) =
    codes "wrong answer of node " ++ decimal node ++ codes " at " ++ decimal mark
text_of (BadScript line) = codes "bad script at line " ++ decimal line

-- the line that a refusal prints: the number, a space and the text
abbrev pub shown : Refusal → List ℕ
shown r = decimal (number_of r) ++ codes " " ++ text_of r
