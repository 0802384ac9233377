-- What contracts say of a view, and of what it is told.
use Rattle.std.specs.Prelude.{◌≡◌, List, Result, Ok, Err}
use mathlib.Core.List.{IsPrefix}
use Rattle.fault.specs.declared.refusal.Refusal.{Refusal}
use Rattle.fault.specs.declared.refusal.Refusal.TheVariants.{NotClosed, NoMemory, NoView}
use Rattle.model.specs.Transactions.{Language}
use Rattle.sqlchecks.specs.Columns.{Tables}
use Rattle.sqlread.specs.Shapes.{QueryShape}
use Rattle.answer.specs.declared.Answer.{Answer}
use Rattle.apply.specs.View.{IsAskedOf}
use Rattle.logbook.specs.Pages.{Book}
use Rattle.history.specs.declared.item.Item.{Item}
use Rattle.history.specs.Items.{entries_in, closed_in}
use Rattle.view.specs.declared.told.Name.{Name}
use Rattle.view.specs.declared.told.Notice.{Notice}
use Rattle.view.specs.declared.view.View.{View}
use Rattle.view.specs.declared.view.Marked.{Marked}

-- the items that a view has seen, in their order
abbrev pub seen_by : View → List Item
seen_by v = v.front.seen.log

abbrev pub name_seen : View → Name
name_seen v = v.name

abbrev pub schema_seen : View → Tables
schema_seen v = v.replay.schema

-- the history that what it has seen is of
abbrev pub book_seen : View → Book
book_seen v = v.front.seen.book

-- it is a view of the same life
abbrev pub IsSameView : View → View → Type 0
IsSameView v w = (name_seen w ≡ name_seen v) × (schema_seen w ≡ schema_seen v) × (book_seen w ≡ book_seen v)

abbrev pub name_told : Notice → Name
name_told told = told.name

-- the items that a token tells of, in their order
abbrev pub list_told : Notice → List Item
list_told told = told.front.seen.log

-- the history that they are of
abbrev pub book_told : Notice → Book
book_told told = told.front.seen.book

-- the token tells of this list of the life with this name and history
abbrev pub IsTold : Name → Book → List Item → Notice → Type 0
IsTold name book list told = (name_told told ≡ name) × (book_told told ≡ book) × (list_told told ≡ list)

-- what the view has seen, and so what it answers, rests on at least what was told
abbrev pub RestsOn : Notice → View → Type 0
RestsOn told v = IsPrefix (list_told told) (seen_by v)

-- a token that bears the view's name is of the life that it is a view of
abbrev pub IsOwn : Notice → View → Type 0
IsOwn told v = name_told told ≡ name_seen v → book_told told ≡ book_seen v

-- the answer without its mark
abbrev pub answer_in : Result Marked Refusal → Result Answer Refusal
answer_in (Ok a) = Ok a.answer
answer_in (Err refusal) = Err refusal

-- what comes of a question, by what was seen before it and after it: the answer in the entries seen, or 33 where it is not
-- closed at the closed time of the items seen; or there was no memory or no reading, and nothing more is seen
abbrev pub Answers : Language → QueryShape → List Item → List Item → Result Answer Refusal → Type 0
Answers schema q before after (Ok a) = IsAskedOf schema q (entries_in after) (closed_in after) (Ok a)
Answers schema q before after (Err (NotClosed closed)) = IsAskedOf schema q (entries_in after) (closed_in after) (Err (NotClosed closed))
Answers schema q before after (Err NoMemory) = after ≡ before
Answers schema q before after (Err NoView) = after ≡ before
Answers schema q before after (Err refusal) = ⊥
