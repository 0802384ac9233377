-- What forms the hard state and the log of a member.
use Rattle.std.specs.Prelude.{◌≡◌, ℕ, ◌+◌, ◌≤◌, Bool, true, ◌&&◌, nat_lt, nat_le, Option, Some, None, length}
use Rattle.std.specs.List.{list_all}
use Rattle.std.proofs.Props.{props}
use Rattle.model.specs.declared.entry.Entry.{Entry}
use Rattle.model.specs.declared.entry.Request.{Request}
use Rattle.model.specs.Stamps.{TIME_LAST}
use Rattle.model.specs.Transactions.{Language}
use Rattle.model.specs.Steps.{TERM_LAST, LOG_LIMIT, go_on, is_floor, spells}
use Rattle.keep.specs.declared.change.Change.{Change}
use Rattle.keep.specs.Durable.{Durable}

-- none, or one of the members
abbrev pub is_vote : ℕ → Option ℕ → Bool
is_vote members None = true
is_vote members (Some v) = nat_lt 0 v && nat_le v members

-- the last number of a request, 2^62
abbrev pub NUMBER_LAST : ℕ
NUMBER_LAST = 4611686018427387904

-- the client from 1 to 65535, the number from 1 to the last
abbrev pub is_numbered : Option Request → Bool
is_numbered None = true
is_numbered (Some r) = nat_lt 0 r.client && (nat_le r.client 65535 && (nat_lt 0 r.number && nat_le r.number NUMBER_LAST))

-- an entry by itself: its stamp is an instant, and it is a Close, or a request in range whose text spells a transaction
abbrev pub is_entry : Language → Entry → Bool
is_entry language e = nat_le e.stamp TIME_LAST && (is_numbered e.request && spells language e.request)

-- a member of a group of so many with these tables may have this hard state and this log
pub record IsLog (members : ℕ) (language : Language) (d : Durable) : Type 0 where
  pub term : d.hard.term ≤ TERM_LAST
  pub vote : is_vote members d.hard.vote ≡ true
  -- none, or an instant
  pub floor : is_floor d.hard.floor ≡ true
  pub room : length d.log ≤ LOG_LIMIT
  -- terms are at least 1, do not fall, and are not above the member's; stamps rise
  pub rises : go_on None d.hard.term d.log ≡ true
  pub entries : list_all (is_entry language) d.log ≡ true

-- a fact with one proof at most
pub log_prop : (members : ℕ) (language : Language) (d : Durable) → IsProp (IsLog members language d)
log_prop members language d = hlevel props

-- its numbers fit the store, whatever is stored
pub record IsSmall (c : Change) : Type 0 where
  pub short : c.kept + length c.entries.items ≤ LOG_LIMIT
  pub term : c.hard.term ≤ TERM_LAST
  pub vote : is_vote TERM_LAST c.hard.vote ≡ true
  pub terms : list_all (λ e. nat_le e.term TERM_LAST) c.entries.items ≡ true
