-- The members that nodes are, and what comes of a step of one.
use Rattle.std.specs.Prelude.{◌≡◌, ℕ, true, false, Result, Ok, Err, MatchBool}
use Rattle.fault.specs.declared.refusal.Refusal.TheVariants.{NodeDown}
use Rattle.model.specs.Members as model
use Rattle.model.specs.Steps.{Refuses}
use Rattle.model.specs.Worlds.{node_left, stopped}
use Rattle.model.specs.declared.event.Left.{Left}
use Rattle.keep.specs.Durable.{Durable}
use Rattle.sqlchecks.specs.Columns.{Tables}
use Rattle.sqlread.specs.Meaning.{language_of}
use Rattle.node.specs.declared.node.Node.{Node}
use Rattle.node.specs.declared.node.Out.{Out}
use Rattle.node.specs.declared.node.Fault.{Fault}
use Rattle.node.specs.declared.node.Fault.TheVariants.{Kept, Down}
use Rattle.node.specs.Member.{me_of, member_of, members_of, tables_of}
use Rattle.node.specs.View.{IsGiven, started_from, told_between, works}
use Rattle.node.specs.Work.{Work}

-- a member that is down, with this stored
abbrev pub rested : Durable → model.Node
rested d = stopped (started_from d)

-- a member is down, and what is held, if anything is, is what it has stored
abbrev pub Rests : (Durable → Type 0) → model.Node → Type 0
Rests held x = (x.up ≡ false) × ((d : Durable) → held d → x ≡ rested d)

-- what came of a step of member m of n: it gives what its definition says; a refusal leaves it as it is, and one that is down refuses
-- all; else it is down, and has stored what it had before the step or after it
abbrev pub StepsTo : Tables → (n m : ℕ) → Work → model.Node → model.Node → Result Out Fault → Type 0
StepsTo tables n m work x y (Ok out) = (x.up ≡ true) × IsGiven x y (works tables n m work x) out × (out.told.items ≡ told_between (language_of tables) y.log x.commit y.commit)
StepsTo tables n m work x y (Err (Kept refusal)) = (y ≡ x) × MatchBool x.up (Refuses refusal ≡ works tables n m work x) (refusal ≡ NodeDown)
StepsTo tables n m work x y (Err (Down error)) = (x.up ≡ true) × ((left : Left) × (y ≡ stopped (node_left left x (works tables n m work x))))

module _ {K I : Type 0} {g : _} {s : _} where
  -- a node is this member; once it is down, its keeper holds what the member has stored
  abbrev pub IsMember : (held : K → Durable → Type 0) → Node K I g s → model.Node → Type 0
  IsMember held node x = MatchBool node.is_up (x ≡ member_of node) (Rests (held node.keeper) x)

  -- it is this one, m of n
  pub record IsNodeOf (held : K → Durable → Type 0) (tables : Tables) (n m : ℕ) (node : Node K I g s) (x : model.Node) : Type 0 where
    pub tables_are : tables_of node ≡ tables
    pub members_are : members_of node ≡ n
    pub me_is : me_of node ≡ m
    pub is : IsMember held node x
