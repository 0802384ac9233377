-- Members that are started over their databases.
use Rattle.std.specs.Prelude.{◌≡◌, ◌↔◌, true, None}
use Rattle.std.specs.Option.{ForSome}
use Rattle.journal.specs.Digests.{summary_of}
use Rattle.node.specs.Member.{member_of}
use Rattle.node.specs.View.{durable_of}
use Rattle.store.specs.declared.seat.Seat.{Seat}
use Rattle.store.specs.declared.tale.Tale.{Tale}
use Rattle.store.specs.Seats.{IsMissing}
use Rattle.store.specs.Tales.{IsFit}

module _ {K J I : Type 0} {an : _} {g : _} {s : _} {d : _} where
  -- what the member of a seat has stored, if it is up, is what is told of it
  abbrev pub FitsTale : (honest : K → Type 0) → Tale → Seat K J I an g s d → Type 0
  FitsTale honest tale seat = ForSome seat.node (λ node. node.is_up ≡ true → honest node.keeper → IsFit tale (summary_of (durable_of (member_of node))))

  -- the same seat; its member is up, unless its database is missing, and has stored what is told of it
  abbrev pub IsStarted : (honest : K → Type 0) → Seat K J I an g s d → Seat K J I an g s d → Type 0
  IsStarted honest before after = (after.member ≡ before.member) × ((after.node ≡ None) ↔ IsMissing before) × FitsTale honest before.tale after
