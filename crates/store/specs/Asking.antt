-- What a store answers.
use Rattle.std.specs.Prelude.{◌≡◌, ℕ, true, Ok, List}
use Rattle.model.specs.Members.{applied, closed_time}
use Rattle.sqlchecks.specs.Columns.{Tables}
use Rattle.sqlread.specs.Meaning.{language_of}
use Rattle.sqlread.specs.Shapes.{QueryShape}
use Rattle.sqlread.specs.Texts.{query_in}
use Rattle.answer.specs.declared.Answer.{Answer}
use Rattle.node.specs.declared.node.Node.{Node}
use Rattle.node.specs.Member.{member_of, tables_of}
use Rattle.node.specs.View.{IsAskedOf}

module _ {K I : Type 0} {g : _} {s : _} where
  -- a node that is up answers a question so, from what it has applied
  abbrev pub IsAnswerOf : (K → Type 0) → Node K I g s → Tables → List ℕ → Answer → Type 0
  IsAnswerOf honest n tables text a = (q : QueryShape) × (query_in tables text ≡ Ok q) × (n.is_up ≡ true) × (honest n.keeper → IsAskedOf (language_of (tables_of n)) q (applied (member_of n)) (closed_time (member_of n)) (Ok a))
