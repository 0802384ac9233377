-- The members that a store's seats have.
use Rattle.std.specs.Prelude.{◌≡◌, ◌&&◌, ℕ, false, None, List, filter, is_none, map, MatchOption, Result}
use Rattle.model.specs.Members as model
use Rattle.keep.specs.Durable.{Durable}
use Rattle.sqlchecks.specs.Columns.{Tables}
use Rattle.store.specs.declared.seat.Seat.{Seat}
use Rattle.node.specs.declared.node.Out.{Out}
use Rattle.node.specs.declared.node.Fault.{Fault}
use Rattle.node.specs.View.{durable_of}
use Rattle.node.specs.Work.{Work}
use Rattle.store.specs.Nodes.{IsNodeOf, Rests, StepsTo}

module _ {K J I : Type 0} {an : _} {g : _} {s : _} {d : _} where
  -- a seat has no member that is up, and no database
  abbrev pub IsMissing : Seat K J I an g s d → Type 0
  IsMissing seat = (seat.node ≡ None) × (seat.image ≡ None)

  -- the members of these seats whose database is missing, in their order
  abbrev pub missing_in : List (Seat K J I an g s d) → List ℕ
  missing_in seats = map (λ (seat : Seat K J I an g s d). seat.member) (filter (λ (seat : Seat K J I an g s d). is_none seat.node && is_none seat.image) seats)

  -- a seat's node took nothing wrong as true, or its database holds something
  abbrev pub IsClean : (honest : K → Type 0) (holds : I → Durable → Type 0) → Seat K J I an g s d → Type 0
  IsClean honest holds seat = MatchOption seat.node (MatchOption seat.image (Unit {0}) (λ image. (stored : Durable) × holds image stored)) (λ node. honest node.keeper)

  -- the seat of member m of n has this member
  abbrev pub HasMember : (held : K → Durable → Type 0) (holds : I → Durable → Type 0) → Tables → (n m : ℕ) → Seat K J I an g s d → model.Node → Type 0
  HasMember held holds tables n m seat x = (seat.member ≡ m) × MatchOption seat.node (MatchOption seat.image (x.up ≡ false) (λ image. Rests (holds image) x)) (λ node. IsNodeOf held tables n m node x)

  -- what the member of a seat has stored is the same before and after a step
  abbrev pub KeepsStored : (honest : K → Type 0) (held : K → Durable → Type 0) (holds : I → Durable → Type 0) → Work → Result Out Fault → Seat K J I an g s d → Seat K J I an g s d → Type 0
  KeepsStored honest held holds work result before after =
      IsClean honest holds after → (tables : Tables) (n m : ℕ) (x y : model.Node) → HasMember held holds tables n m before x → HasMember held holds tables n m after y → StepsTo tables n m work x y result → durable_of y ≡ durable_of x
