-- Requests that are handed in one after the other, each once the one before it is accepted.
use Rattle.std.specs.Prelude.{◌≡◌, ◌≢◌, ◌+◌, ◌≤◌, ℕ, min, true, false, List, [], ◌∷◌, fold, length, take, slice_get, Some, string_bytes}
use Rattle.transfer.specs.declared.requests.Request.{Request}
use Rattle.store.specs.declared.outcome.Outcome.{Outcome}
use Rattle.store.specs.declared.outcome.Outcome.TheVariants.{Accepted}
use Rattle.transfer.specs.declared.import.Came.{Came}

-- how many rows these requests have, as far as a number of 64 bits counts
abbrev pub rows_in : List Request → ℕ
rows_in requests = fold (λ rows request. min (rows + request.rows) 18446744073709551615) 0 requests

-- takes old text outcome new: what takes requests took this text, and this came of it
module _ {T : Type 0} (takes : T → List ℕ → Outcome → T → Type 0) where
  -- each of these requests was taken, in their order, and accepted
  abbrev pub AreAccepted : T → List Request → T → Type 0
  AreAccepted old [] new = new ≡ old
  AreAccepted old (request ∷ requests) new = (mid : T) × (stamp : ℕ) × takes old (string_bytes request.text) (Accepted stamp) mid × AreAccepted mid requests new

  -- this request was taken and accepted, and is counted
  abbrev pub IsCounted : T → Request → Came → Came → T → Type 0
  IsCounted old request before after new = (stamp : ℕ) × takes old (string_bytes request.text) (Accepted stamp) new
      × (after.requests ≡ before.requests + 1) × (after.rows ≡ min (before.rows + request.rows) 18446744073709551615) × (after.is_whole ≡ before.is_whole)

  -- this request was taken, and not accepted
  abbrev pub IsStopped : T → Request → T → Type 0
  IsStopped old request new = (outcome : Outcome) × takes old (string_bytes request.text) outcome new × ((stamp : ℕ) → outcome ≢ Accepted stamp)

  -- so many of the requests, the first ones, were accepted, and have so many rows
  pub record IsFar (old : T) (requests : List Request) (came : Came) (new : T) : Type 0 where
    pub accepted : AreAccepted old (take came.requests requests) new
    pub rows : came.rows ≡ rows_in (take came.requests requests)
    pub within : came.requests ≤ length requests

  -- these were all, or the next one was taken, and not accepted
  abbrev pub IsEnd : T → List Request → Came → T → Type 0
  IsEnd mid requests came new = (came.is_whole ≡ true → (came.requests ≡ length requests) × (new ≡ mid))
      × (came.is_whole ≡ false → (request : Request) × (slice_get requests came.requests ≡ Some request) × IsStopped mid request new)

  -- an import came so far, and to its end
  abbrev pub IsDone : T → List Request → Came → T → Type 0
  IsDone old requests came new = (mid : T) × IsFar old requests came mid × IsEnd mid requests came new

  -- the status tells whether all were accepted: 0, or else 1, and then the first that was not is the last that was taken
  abbrev pub IsImported : T → List Request → ℕ → T → Type 0
  IsImported old requests status new = (came : Came) × IsDone old requests came new × (came.is_whole ≡ true → status ≡ 0) × (came.is_whole ≡ false → status ≡ 1)
