-- How a run goes on, as a process sees it that has the members at its seats and some of the messages under way.
use Rattle.std.specs.Prelude.{◌≡◌, ℕ, Some, Result, List, length, if◌then◌else◌}
use Rattle.fault.specs.declared.refusal.Refusal.{Refusal}
use Rattle.model.specs.Lists.{nth}
use Rattle.model.specs.Transactions.{Language}
use Rattle.model.specs.declared.entry.Told.{Told}
use Rattle.model.specs.Members.{Node}
use Rattle.model.specs.Worlds.{World, Event, Output, run, GivesAll, stopped}
use Rattle.model.specs.Worlds.Output.{Applied}
use Rattle.onelist.specs.Explained.{Gave}

-- events that lead from one world to another, and what each of them gives
pub record Goes (language : Language) (n : ℕ) (w v : World) : Type 0 where
  pub events : List Event
  pub gave : List (List Output)
  pub leads : v ≡ run language n w events
  pub gives : GivesAll language n w events gave

-- one of the events gave this
abbrev pub HasGiven : List (List Output) → Output → Type 0
HasGiven gave output = (k : ℕ) × Gave gave k output

-- in one of the events a member told this outcome of the request of this client and number
pub record WasTold (gave : List (List Output)) (client number : ℕ) (outcome : Result ℕ Refusal) : Type 0 where
  pub member : ℕ
  pub told : Told
  pub client_is : told.client ≡ client
  pub number_is : told.number ≡ number
  pub outcome_is : told.outcome ≡ outcome
  pub given : HasGiven gave (Applied member told)

-- each seat has the member of its number: what it means for a seat to have a node is up to who says so
pub record AreSeated {S : Type 0} (has : ℕ → S → Node → Type 0) (seats : List S) (nodes : List Node) : Type 0 where
  pub all : length nodes ≡ length seats
  pub each : (m : ℕ) (s : S) (x : Node) → nth seats m ≡ Some s → nth nodes m ≡ Some x → has m s x

-- a member after a stop, which does nothing to one that is down
abbrev pub after_stop : Node → Node
after_stop x = if x.up then stopped x else x
