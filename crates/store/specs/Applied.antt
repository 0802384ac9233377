-- What a member has applied after the first entries of its log.
use Rattle.std.specs.Prelude.{◌≡◌, ℕ, true, Option, Some, None, List, take, slice_get, slice_range}
use Rattle.std.specs.Option.{option_and_then}
use Rattle.model.specs.Members.{closed_time}
use Rattle.fault.specs.declared.refusal.Refusal.TheVariants.{NodeDown}
use Rattle.journal.specs.Digests.{digest_of}
use Rattle.node.specs.declared.node.Node.{Node}
use Rattle.node.specs.Member.{me_of, member_of}
use Rattle.store.specs.declared.since.Since.{Since}
use Rattle.store.specs.declared.refusal.StoreRefusal.{StoreRefusal}
use Rattle.store.specs.declared.refusal.StoreRefusal.TheVariants.{Refused}

-- that a member is not up
abbrev pub SaysDown : StoreRefusal → Type 0
SaysDown r = r ≡ Refused NodeDown

-- what stands at a place of a list, as one sees it
abbrev pub found : {S N : Type 0} → List S → ℕ → (S → Option N) → Option N
found seats at node = option_and_then node (slice_get seats at)

module _ {K I : Type 0} {g : _} {s : _} where
  -- the node is up. It has applied so many entries, of which these come after the first ones, and answers up to this instant; of the first
  -- ones this is the digest
  abbrev pub IsSince : (K → Type 0) → Node K I g s → ℕ → Since → Type 0
  IsSince honest n after x = (n.is_up ≡ true) × (honest n.keeper → (x.applied ≡ (member_of n).commit)
      × (x.entries.items ≡ slice_range (member_of n).log after (member_of n).commit)
      × (x.closed ≡ closed_time (member_of n))
      × (x.digest ≡ digest_of (take after (member_of n).log)))

  -- a node is the same member still: nothing but what its database counts may be another
  abbrev pub IsKept : (K → Type 0) → Option (Node K I g s) → Option (Node K I g s) → Type 0
  IsKept honest None new = new ≡ None
  IsKept honest (Some n) None = ⊥
  IsKept honest (Some n) (Some m) = (m.is_up ≡ n.is_up) × (me_of m ≡ me_of n) × (honest m.keeper → honest n.keeper × (member_of m ≡ member_of n))
