-- What decided entries come to.
use Rattle.std.specs.Prelude.{ℕ, ◌-◌, Option, Some, None, Result, Ok, Err, List, [], ◌∷◌, ◌++◌, length, slice_get, option_map}
use Rattle.fault.specs.declared.refusal.Refusal.{Refusal}
use Rattle.model.specs.Transactions.{Language}
use Rattle.model.specs.Logs.{outcome}
use Rattle.model.specs.declared.entry.Entry.{Entry}
use Rattle.model.specs.declared.entry.Request.{Request}
use Rattle.journal.specs.Digests.{digest_of}
use Rattle.report.specs.declared.settled.Settled.{Settled}

-- an outcome, if there is one
abbrev pub if_found : Option (Result ℕ Refusal) → List (Result ℕ Refusal)
if_found None = []
if_found (Some outcome) = outcome ∷ []

-- what comes of an entry's request, if it has one, after the entries before it, from the newest back
abbrev pub outcome_in : Language → List Entry → ℕ → Option Request → List (Result ℕ Refusal)
outcome_in schema before stamp request = if_found (option_map (λ r. outcome schema stamp r before) request)

-- what comes of the requests of entries, in their order, after those before them, from the newest back
abbrev pub outcomes_from : Language → List Entry → List Entry → List (Result ℕ Refusal)
outcomes_from schema before [] = []
outcomes_from schema before (e ∷ later) = outcome_in schema before e.stamp e.request ++ outcomes_from schema (e ∷ before) later

-- the stamps of those that are accepted
abbrev pub stamps_in : List (Result ℕ Refusal) → List ℕ
stamps_in [] = []
stamps_in (Ok stamp ∷ later) = stamp ∷ stamps_in later
stamps_in (Err refusal ∷ later) = stamps_in later

-- with the outcomes of all requests, and the stamps of those that are accepted
abbrev pub summed : List Entry → List (Result ℕ Refusal) → List ℕ → Settled
summed list outcomes stamps = record {
  entries = length list;
  requests = length outcomes;
  accepted = length stamps;
  refused = length outcomes - length stamps;
  first = slice_get stamps 0;
  last = slice_get stamps (length stamps - 1);
  log = digest_of list;
}

abbrev pub settled_of : Language → List Entry → Settled
settled_of schema list = summed list (outcomes_from schema [] list) (stamps_in (outcomes_from schema [] list))
