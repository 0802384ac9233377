-- A language by which a text says what is not well formed, and a question that has no answer. Two days of a key are filled at
-- instant 1, and at instant 2 an INSERT over no days cuts them into two rows that were not born anew. So the row of both
-- days and the row of the first have one key, one start and one system start, and no order tells the two apart.
use Rattle.std.specs.Prelude.{ℕ, pos, true, Some, List, [], ◌∷◌, Ok}
use Rattle.model.specs.declared.value.Value.{Value}
use Rattle.model.specs.declared.value.Value.TheVariants.{Number}
use Rattle.model.specs.declared.entry.Entry.{Entry}
use Rattle.model.specs.Tables.{Period}
use Rattle.model.specs.Transactions.{Language, Insert}
use Rattle.model.specs.Logs.{IsStamped, closed}
use Rattle.model.specs.Answers.{Select, Answer, IsAnswer, IsClosed, read_at}

abbrev pub key : List Value
key = Number (pos 3) ∷ []

-- days 0 and 1; of a text with nothing in it no day, at day 1
abbrev pub period_said : List ℕ → Period
period_said [] = record { start = 1; end = 1 }
period_said (b ∷ bs) = record { start = 0; end = 2 }

abbrev pub language : Language
language = record {
  tables = 1;
  name = λ n. [];
  references = [];
  reads = λ text. Ok (record { table = 0; action = Insert key [] (period_said text) } ∷ []);
}

-- the client's request with this number and text, stamped so
abbrev pub said : ℕ → List ℕ → Entry
said n text = record { term = 1; stamp = n; request = Some (record { client = 1; number = n; text = text }) }

abbrev pub log : List Entry
log = said 1 (84 ∷ []) ∷ said 2 [] ∷ []

abbrev pub question : Select
question = record { table = 0; time = Some (record { first = 1; last = 2 }); passes = λ row. true }

-- the question is closed, and nothing is its answer
abbrev pub NoAnswer : Type 0
NoAnswer = IsStamped log × IsClosed question (closed log) × ((a : Answer) → IsAnswer language (read_at 2 question) log a → ⊥)
