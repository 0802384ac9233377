-- What comes of a question to the tables of a view.
use Rattle.std.specs.Prelude.{◌≡◌, Result, Ok, Err, List}
use Rattle.fault.specs.declared.refusal.Refusal.{Refusal}
use Rattle.fault.specs.declared.refusal.Refusal.TheVariants as refusal'
use Rattle.answer.specs.declared.Answer.{Answer}
use Rattle.answer.specs.declared.Column.{Column}
use Rattle.view.specs.declared.replay.Reply.{Reply}
use Rattle.view.specs.declared.replay.Reply.TheVariants.{Answered, NotClosed}

-- the reply as a question's outcome
abbrev pub said : Reply → Result Answer Refusal
said (Answered a) = Ok a
said (NotClosed closed) = Err (refusal'.NotClosed closed)

-- an answer has these columns
abbrev pub HasColumns : List Column → Reply → Type 0
HasColumns columns (Answered a) = a.columns.items ≡ columns
HasColumns columns (NotClosed closed) = Unit {0}
