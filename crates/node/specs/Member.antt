-- A node as the crates above see it: the member of the definitions, and its seat in a group.
use Rattle.std.specs.Prelude.{◌≡◌, ℕ}
use Rattle.sqlchecks.specs.Columns.{Tables}
use Rattle.model.specs.Members as model
use Rattle.model.specs.Steps.{Effect}
use Rattle.raft.specs.declared.state.Work.{Work}
use Rattle.apply.specs.View.{reads_in}
use Rattle.raft.specs.View.{node_of, works}
use Rattle.node.specs.declared.node.Node.{Node}

module _ {K I : Type 0} {g : _} {s : _} where
  -- the member of the definitions that a node is: its core, with the log that core and keeper have together
  abbrev pub member_of : Node K I g s → model.Node
  member_of x = node_of x.core (s.stored x.keeper).log

  -- its tables, as they were declared
  abbrev pub tables_of : Node K I g s → Tables
  tables_of x = x.core.schema

  -- how many members its group has
  abbrev pub members_of : Node K I g s → ℕ
  members_of x = x.core.members

  -- which of them it is
  abbrev pub me_of : Node K I g s → ℕ
  me_of x = x.core.me

  -- its tables, its group and its number are as they were
  abbrev pub IsSameSeat : Node K I g s → Node K I g s → Type 0
  IsSameSeat old new = (tables_of new ≡ tables_of old) × (members_of new ≡ members_of old) × (me_of new ≡ me_of old)

  -- how many rows it has counted as read
  abbrev pub reads_of : Node K I g s → ℕ
  reads_of x = reads_in x.tables

  -- what the definitions say of this work at it
  abbrev pub effect_at : Node K I g s → Work → Effect
  effect_at x work = works (tables_of x) (members_of x) (me_of x) work (member_of x)
