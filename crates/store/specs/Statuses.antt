-- How the members of a store stand.
use Rattle.std.specs.Prelude.{◌≡◌, ℕ, Bool, true, false, ◌==◌, Option, Some, None, is_none, length, MatchOption, if◌then◌else◌}
use Rattle.model.specs.Members as model
use Rattle.model.specs.Members.{closed_time}
use Rattle.node.specs.Member.{member_of}
use Rattle.store.specs.declared.seat.Seat.{Seat}
use Rattle.store.specs.declared.status.Standing.{Standing}
use Rattle.store.specs.declared.status.Standing.TheVariants.{Leads, Follows, Down, Missing}
use Rattle.store.specs.declared.status.Status.{Status}

-- whether this member is who leads, as far as it is known
abbrev pub leads : Option ℕ → ℕ → Bool
leads None m = false
leads (Some leader) m = leader == m

-- a member that is not up
abbrev pub resting : ℕ → Standing → Status
resting m how = record { member = m; standing = how; term = 0; entries = 0; applied = 0; closed = None }

-- a member that is up, and is this one
abbrev pub taking_part : ℕ → Standing → model.Node → Status
taking_part m how x = record { member = m; standing = how; term = x.term; entries = length x.log; applied = x.commit; closed = closed_time x }

module _ {K J I : Type 0} {an : _} {g : _} {s : _} {d : _} where
  -- this is how the member of a seat stands, if it is not up or took nothing wrong as true
  abbrev pub IsStatus : (honest : K → Type 0) → Option ℕ → Seat K J I an g s d → Status → Type 0
  IsStatus honest leader seat status =
      MatchOption seat.node (status ≡ resting seat.member (if is_none seat.image then Missing else Down))
      (λ node. node.is_up ≡ true → honest node.keeper → status ≡ taking_part seat.member (if leads leader seat.member then Leads else Follows) (member_of node))
