-- Requests that are handed in one after the other.
use Rattle.std.proofs.Common.{◌≡◌, ◌⊎◌, ◌∙◌, ℕ, ◌+◌, ◌<◌, min, true, false, List, [], ◌∷◌, ◌++◌, length, take, get_or, refl, sym, ap, subst, inl, inr, arith}
use Rattle.std.specs.Prelude.{string_bytes, slice_get, Some}
use Rattle.std.proofs.lemmas.List.{take_more}
use Rattle.std.proofs.lemmas.List.Sums.{fold_more}
use Rattle.std.proofs.lemmas.Option.{slice_get-get_or}
use Rattle.transfer.specs.declared.requests.Request.{Request}
use Rattle.store.specs.declared.outcome.Outcome.{Outcome}
use Rattle.store.specs.declared.outcome.Outcome.TheVariants.{Accepted}
use Rattle.transfer.specs.declared.import.Came.{Came}
use Rattle.transfer.specs.Imports.{AreAccepted, IsCounted, IsDone, IsFar, IsStopped, rows_in}

-- one more request
pub rows_on : (requests : List Request) (i : ℕ) (request : Request) → i < length requests → request ≡ get_or requests i request
    → rows_in (take (i + 1) requests) ≡ min (rows_in (take i requests) + request.rows) 18446744073709551615
rows_on requests i request less is =
    fold_more (λ (rows : ℕ) (r : Request). min (rows + r.rows) 18446744073709551615) 0 requests i request less
    ∙ ap (λ (r : Request). min (rows_in (take i requests) + r.rows) 18446744073709551615) (sym is)

module _ {T : Type 0} (takes : T → List ℕ → Outcome → T → Type 0) where
  accepted_on : (old mid new : T) (stamp : ℕ) (requests : List Request) (request : Request) → AreAccepted takes old requests mid
      → takes mid (string_bytes request.text) (Accepted stamp) new → AreAccepted takes old (requests ++ request ∷ []) new
  accepted_on old mid new stamp [] request before now = (new, stamp, subst (λ (t : T). takes t (string_bytes request.text) (Accepted stamp) new) before now, refl)
  accepted_on old mid new stamp (first ∷ requests) request before now = (before.0, before.1, before.2, accepted_on before.0 mid new stamp requests request before.3 now)

  module _ (old mid new : T) (requests : List Request) (came : Came) (request : Request) (far : IsFar takes old requests came mid) (less : came.requests < length requests) (is : request ≡ get_or requests came.requests request) where
    -- an import comes a request further
    pub far_on : (more : Came) → IsCounted takes mid request came more new → IsFar takes old requests more new
    far_on more counted =
        let on : take (came.requests + 1) requests ≡ take came.requests requests ++ request ∷ [] = take_more requests came.requests request less ∙ ap (λ (r : Request). take came.requests requests ++ r ∷ []) (sym is) in
        let whole : take more.requests requests ≡ take came.requests requests ++ request ∷ [] = ap (λ (n : ℕ). take n requests) counted.2 ∙ on in
        record {
          accepted = subst (λ (rs : List Request). AreAccepted takes old rs new) (sym whole) (accepted_on old mid new counted.0 (take came.requests requests) request far.accepted counted.1);
          rows = counted.3 ∙ ap (λ (n : ℕ). min (n + request.rows) 18446744073709551615) far.rows ∙ sym (rows_on requests came.requests request less is) ∙ ap (λ (n : ℕ). rows_in (take n requests)) (sym counted.2);
          within = let more_by_one = counted.2 in omega (arith, more_by_one, less);
        }

    -- it ends with a request that is not accepted
    done_at : came.is_whole ≡ false → IsStopped takes mid request new → IsDone takes old requests came new
    done_at part stopped =
        let found : slice_get requests came.requests ≡ Some request = slice_get-get_or requests came.requests request less ∙ ap Some (sym is) in
        (mid, far, (λ whole. let none : true ≡ false = sym whole ∙ part in absurd (cc), λ _. (request, found, stopped)))

    pub done_stopped : (more : Came) → came.is_whole ≡ false → (more ≡ came) × IsStopped takes mid request new → IsDone takes old requests more new
    done_stopped more part (same, stopped) = subst (λ (x : Came). IsDone takes old requests x new) (sym same) (done_at part stopped)

    pub far_counted : (more : Came) (index : ℕ) → came.requests ≡ index → came.is_whole ≡ false → IsCounted takes mid request came more new
        → IsFar takes old requests more new × (more.requests ≡ index + 1) × (more.is_whole ≡ false)
    far_counted more index at part counted = (far_on more counted, counted.2 ∙ ap (λ (n : ℕ). n + 1) at, counted.4 ∙ part)

  -- it fails at a request, which may have been accepted
  pub far_either : (old mid : T) (requests : List Request) (came : Came) (request : Request) (far : IsFar takes old requests came mid) (less : came.requests < length requests) (is : request ≡ get_or requests came.requests request) (more : Came)
      → (more ≡ came) ⊎ ((after : T) × IsCounted takes mid request came more after) → (last : T) × IsFar takes old requests more last
  far_either old mid requests came request far less is more (inl same) = (mid, subst (λ (x : Came). IsFar takes old requests x mid) (sym same) far)
  far_either old mid requests came request far less is more (inr (after, counted)) = (after, far_on old mid after requests came request far less is more counted)
