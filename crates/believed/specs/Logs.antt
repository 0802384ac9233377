-- What a log of entries means: the outcomes of its requests, each executed once, and the state of the tables at each instant.
use Rattle.std.specs.Prelude.{ℕ, ◌-◌, ◌<◌, ◌≤◌, ◌==◌, not, nat_lt, nat_le, Option, option_map, option_and_then, unwrap_or, List, [], ◌∷◌, length, take, slice_get, if◌then◌else◌, Result, Err, filter, fold, AllPairs}
use Rattle.std.specs.List.{All}
use Rattle.std.specs.Option.{option_map_or}
use Rattle.std.specs.Result.{result_unwrap_or, result_map_both}
use Rattle.model.specs.Lists.{nth}
use Rattle.model.specs.Tables.{empty_table}
use Rattle.fault.specs.declared.refusal.Refusal.{Refusal}
use Rattle.fault.specs.declared.refusal.Refusal.TheVariants.{Old, Gap}
use Rattle.model.specs.Transactions.{State, Language}
use Rattle.model.specs.declared.entry.Request.{Request}
use Rattle.model.specs.declared.entry.Entry.{Entry}
use Rattle.model.specs.declared.entry.Told.{Told}
use Rattle.model.specs.Stamps.{TIME_LAST}
use Rattle.believed.specs.Transactions.{transacted}

-- stamps are instants and strictly rise
abbrev pub IsStamped : List Entry → Type 0
IsStamped list = All (λ e. e.stamp ≤ TIME_LAST) list × AllPairs (λ d e. d.stamp < e.stamp) list

-- what entries leave: the tables, and for each client the outcomes of its requests that were executed, from the newest back
pub record Replay : Type 0 where
  pub state : State
  pub outcomes : ℕ → List (Result ℕ Refusal)

-- A request is executed if its number comes next for its client, so each is executed once. It is accepted at its instant, or
-- refused, and then it leaves the tables as they were.
unfoldable pub execute : Language → ℕ → Request → Replay → Replay
execute language t r x =
    let result = transacted language t r.text x.state in
    let outcomes = result_map_both (λ next. t) (λ refusal. refusal) result ∷ x.outcomes r.client in
    if not (r.number == length outcomes) then x
    else record { state = result_unwrap_or result x.state; outcomes = λ client. if r.client == client then outcomes else x.outcomes client }

-- what a list of entries leaves, from the first on
unfoldable pub replay : Language → List Entry → Replay
replay language list =
    fold (λ x e. option_map_or (λ r. execute language e.stamp r x) e.request x) (record { state = λ n. empty_table; outcomes = λ client. [] }) list

-- what is told of the request with this number: its outcome, if it is among the latest eight; 31 above, 30 below these
abbrev pub outcome : ℕ → List (Result ℕ Refusal) → Result ℕ Refusal
outcome number outcomes = if nat_lt (length outcomes) number then Err Gap else unwrap_or (slice_get (take 8 outcomes) (length outcomes - number)) (Err Old)

-- what is told of the entry at an index, if it is a request
abbrev pub told_at : Language → List Entry → ℕ → Option Told
told_at language list i =
    let told = λ (r : Request). outcome r.number ((replay language (take i list)).outcomes r.client) in
    option_and_then (λ e. option_map (λ r. record { index = i; client = r.client; number = r.number; outcome = told r }) e.request) (nth list i)

-- what the entries of the list leave that are stamped at most t
unfoldable pub state_at : Language → List Entry → ℕ → State
state_at language list t = (replay language (filter (λ e. nat_le e.stamp t) list)).state
