-- Before a request that is not told of as a gap stand those of its client with all smaller numbers.
use Rattle.std.proofs.Common.{◌≡◌, ℕ, ◌+◌, ◌-◌, ◌<◌, ◌≤◌, ◌&&◌, true, false, suc, Option, Some, None, Err, List, [], ◌∷◌, take, slice_get, refl, sym, ◌∙◌, arith, eqb-true, ltb-false, length-take}
use Rattle.std.specs.Prelude.{◌==◌, nat_lt}
use Rattle.std.specs.Option.{option_map_or}
use Rattle.std.proofs.lemmas.Bool.{cases_lt, cond_both, and_parts}
use Rattle.fault.specs.declared.refusal.Refusal.TheVariants.{Gap}
use Rattle.model.specs.Lists.{nth}
use Rattle.model.specs.Transactions.{Language}
use Rattle.model.specs.declared.entry.Entry.{Entry}
use Rattle.model.specs.declared.entry.Request.{Request}
use Rattle.model.specs.declared.entry.Told.{Told}
use Rattle.model.specs.Logs.{executed, first_outcome, outcome, before_index}
use Rattle.model.specs.Agreement.{IsTold}
use Rattle.safety.proofs.Lists.{cases, get_within, get_take}
use Rattle.onelist.proofs.Instants.{get_reverse}

-- a request of the client with this number, in a list from the newest back
record HasNumber (before : List Entry) (client number : ℕ) : Type 0 where
  pub place : ℕ
  pub entry : Entry
  pub request : Request
  pub at : slice_get before place ≡ Some entry
  pub asks : entry.request ≡ Some request
  pub of : request.client ≡ client
  pub is : request.number ≡ number

module _ (client : ℕ) where
  deeper : (e : Entry) (before : List Entry) (number : ℕ) → HasNumber before client number → HasNumber (e ∷ before) client number
  deeper e before number h = record { place = suc h.place; entry = h.entry; request = h.request; at = h.at; asks = h.asks; of = h.of; is = h.is }

  is_next : (n : ℕ) (o : Option Request) → option_map_or (λ (r : Request). r.client == client && r.number == n + 1) o false ≡ true → (r : Request) × (o ≡ Some r) × (r.client ≡ client) × (r.number ≡ n + 1)
  is_next n None h = absurd (let z : false ≡ true = h in cc)
  is_next n (Some r) h = (r, refl, eqb-true _ _ (and_parts _ _ h).0, eqb-true _ _ (and_parts _ _ h).1)

  each_number : (before : List Entry) (number : ℕ) → 1 ≤ number → number ≤ executed client before → HasNumber before client number
  unfolding executed
  each_number [] number a b = absurd (omega (arith, a, b))
  each_number (e ∷ before) number a b = cases (cases_lt (executed client before) number)
      (λ l. cond_both (option_map_or (λ (r : Request). r.client == client && r.number == executed client before + 1) e.request false) (executed client before + 1) (executed client before) (λ z. number ≤ z → HasNumber (e ∷ before) client number)
      (λ p h. let N = is_next (executed client before) e.request p in record { place = 0; entry = e; request = N.0; at = refl; asks = N.1; of = N.2; is = N.3 ∙ omega (arith, h, l) })
      (λ p h. absurd (omega (arith, h, l))) b)
      (λ l. deeper e before number (each_number before number a l))

module _ (language : Language) (t : ℕ) (r : Request) (before : List Entry) where
  no_gap : (outcome language t r before ≡ Err Gap → ⊥) → r.number ≤ executed r.client before + 1
  unfolding outcome
  no_gap = cond_both (r.number == executed r.client before + 1) (first_outcome language t r before) _ (λ z. (z ≡ Err Gap → ⊥) → r.number ≤ executed r.client before + 1)
      (λ p h. let q = eqb-true _ _ p in omega (arith, q))
      (λ p. cond_both (nat_lt (executed r.client before) r.number) (Err Gap) _ (λ z. (z ≡ Err Gap → ⊥) → r.number ≤ executed r.client before + 1)
      (λ q h. absurd (h refl)) (λ q h. let l = ltb-false (executed r.client before) r.number q in omega (arith, l)))

-- it stands in front of the index
pub record StandsBefore (list : List Entry) (index client number : ℕ) : Type 0 where
  pub place : ℕ
  pub entry : Entry
  pub request : Request
  pub at : nth list place ≡ Some entry
  pub asks : entry.request ≡ Some request
  pub of : request.client ≡ client
  pub is : request.number ≡ number
  pub low : place < index

pub smaller_numbers : (language : Language) (list : List Entry) (told : Told) → IsTold language list told → (told.outcome ≡ Err Gap → ⊥) → (number : ℕ) → 1 ≤ number → number < told.number → StandsBefore list told.index told.client number
smaller_numbers language list told T not number a b =
    let l = no_gap language T.entry.stamp T.request (before_index list told.index) (λ gap. not (sym T.outcome ∙ gap)) in
    let q = T.number in
    let H = each_number T.request.client (before_index list told.index) number a (omega (arith, b, l, q)) in
    let R = get_reverse (take (told.index - 1) list) H.place H.entry H.at in
    let w : R.0 < told.index - 1 = (let z = get_within (take (told.index - 1) list) R.0 H.entry R.1 in omega (arith, z, length-take (told.index - 1) list)) in
    record { place = suc R.0; entry = H.entry; request = H.request; at = sym (get_take (told.index - 1) list R.0 w) ∙ R.1; asks = H.asks; of = H.of ∙ T.client; is = H.is; low = omega (arith, w) }
