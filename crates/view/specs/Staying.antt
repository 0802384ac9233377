-- That answers stay: of lists of items that are seen one after another in one life, and of lists that different members publish.
use Rattle.std.specs.Prelude.{◌≡◌, ℕ, ◌<◌, ◌≤◌, ◌↔◌, List, length, Some, Ok}
use mathlib.Core.List.{IsPrefix}
use Rattle.model.specs.Lists.{nth, IsBeginning}
use Rattle.model.specs.declared.entry.Entry.{Entry}
use Rattle.model.specs.Transactions.{Language}
use Rattle.model.specs.Answers.{Query, SystemTime, IsAnswer, closed_query, read_at}
use Rattle.model.specs.Answers as model
use Rattle.sqlread.specs.Meaning.{select_of}
use Rattle.sqlread.specs.Shapes.{QueryShape}
use Rattle.answer.specs.declared.Answer.{Answer}
use Rattle.answer.specs.Answers.{answer_of}
use Rattle.apply.specs.View.{IsAskedOf}
use Rattle.history.specs.declared.item.Item.{Item}
use Rattle.history.specs.Items.{entries_in, closed_in, Rises}

-- the entries of the items are the first of all, and all that comes after them is stamped above the closed time of the items
pub record IsBegun (items : List Item) (all : List Entry) : Type 0 where
  pub begins : IsBeginning (entries_in items) all
  pub later : (i t : ℕ) (e : Entry) → closed_in items ≡ Some t → length (entries_in items) < i → nth all i ≡ Some e → t < e.stamp

-- what was answered to the questions q and r in two lists of items is the same answer, where q and r ask the same. A question
-- without system time asks AS OF the last instant that its answer names
abbrev pub AreSame : Language → List Item → List Item → Type 0
AreSame language one two = (q r : QueryShape) (a b : Answer) → IsAskedOf language q (entries_in one) (closed_in one) (Ok a) → IsAskedOf language r (entries_in two) (closed_in two) (Ok b)
    → read_at (answer_of a).last (select_of q) ≡ read_at (answer_of b).last (select_of r) → answer_of a ≡ answer_of b

-- an answer never changes: of two lists of one life the longer gives the answers that the shorter one gave
abbrev pub AnswersStay : Type 0
AnswersStay = (language : Language) (early late : List Item) → Rises late → IsPrefix early late → AreSame language early late

-- what is closed in the shorter list has its answer there in the longer one, and no other
abbrev pub ClosedStays : Type 0
ClosedStays = (language : Language) (q : Query) (t : ℕ) (early late : List Item) (a : model.Answer) → Rises late → IsPrefix early late
    → closed_in early ≡ Some t → q.time.last ≤ t → IsAnswer language q (entries_in early) a ↔ IsAnswer language q (entries_in late) a

-- a question with system time that is closed in the shorter list is closed in the longer one, so that it is not refused 33 there
abbrev pub StaysClosed : Type 0
StaysClosed = (q : QueryShape) (time : SystemTime) (r : Query) (early late : List Item) → Rises late → IsPrefix early late
    → (select_of q).time ≡ Some time → closed_query (select_of q) (closed_in early) ≡ Some r → closed_query (select_of q) (closed_in late) ≡ Some r

-- so do lists of different lives, where all of them are the beginnings of one list
abbrev pub LivesAgree : Type 0
LivesAgree = (language : Language) (one two : List Item) (all : List Entry) → IsBegun one all → IsBegun two all → AreSame language one two

-- what was seen earlier in a life is the beginning of what its whole list is the beginning of
abbrev pub BegunEarlier : Type 0
BegunEarlier = (early late : List Item) (all : List Entry) → Rises late → IsPrefix early late → IsBegun late all → IsBegun early all
