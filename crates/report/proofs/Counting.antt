-- What is counted in a flight.
use Rattle.std.proofs.Common.{◌≡◌, ◌∙◌, ℕ, ◌+◌, List, [], ◌∷◌, length, map, refl, ap, sym}
use Rattle.std.specs.List.{sum_by}
use Rattle.std.proofs.lemmas.List.{length-map}
use Rattle.std.proofs.lemmas.List.Sums.{sum_by-cons}
use Rattle.flight.specs.Contents.{LifeContents, in_flight, in_life}
use Rattle.flight.specs.declared.flight.Flight.{Flight}
use Rattle.flight.specs.declared.life.Life.{Life}
use Rattle.report.specs.Counts.{counts_of, outcomes_of, steps_of, taken_of, torn_of}
use Rattle.report.specs.declared.counts.Counts.{Counts}

sum_mapped : (f : LifeContents → ℕ) (lives : List Life) → sum_by (λ (l : Life). f (in_life l)) lives ≡ sum_by f (map in_life lives)
sum_mapped f [] = refl
sum_mapped f (l ∷ lives) = sum_by-cons (λ (l : Life). f (in_life l)) l lives ∙ (ap (λ n. f (in_life l) + n) (sum_mapped f lives) ∙ sym (sum_by-cons f (in_life l) (map in_life lives)))

-- these numbers are a flight's
pub counted : (f : Flight) (lives : List Life) (many steps torn taken outcomes answers : ℕ) → lives ≡ f.lives.items → many ≡ length lives → steps ≡ sum_by steps_of lives
    → torn ≡ sum_by (λ (l : Life). torn_of l.ending) lives → taken ≡ sum_by (λ (l : Life). taken_of l.steps.items) lives → outcomes ≡ sum_by (λ (l : Life). outcomes_of l.steps.items) lives
    → answers ≡ length f.answers.items
    → (let c : Counts = record { lives = many; steps = steps; torn = torn; taken = taken; outcomes = outcomes; answers = answers } in c) ≡ counts_of (in_flight f)
counted f lives many steps torn taken outcomes answers is l s t k o a =
    let own = f.lives.items in
    let l' : many ≡ length (map in_life own) = l ∙ (ap length is ∙ sym (length-map own in_life)) in
    let s' : steps ≡ sum_by (λ (l : LifeContents). length l.steps) (map in_life own) = s ∙ (ap (sum_by steps_of) is ∙ sum_mapped (λ l. length l.steps) own) in
    let t' : torn ≡ sum_by (λ (l : LifeContents). torn_of l.ending) (map in_life own) = t ∙ (ap (sum_by (λ (l : Life). torn_of l.ending)) is ∙ sum_mapped (λ l. torn_of l.ending) own) in
    let k' : taken ≡ sum_by (λ (l : LifeContents). taken_of l.steps) (map in_life own) = k ∙ (ap (sum_by (λ (l : Life). taken_of l.steps.items)) is ∙ sum_mapped (λ l. taken_of l.steps) own) in
    let o' : outcomes ≡ sum_by (λ (l : LifeContents). outcomes_of l.steps) (map in_life own) = o ∙ (ap (sum_by (λ (l : Life). outcomes_of l.steps.items)) is ∙ sum_mapped (λ l. outcomes_of l.steps) own) in
    λ i. record { lives = l' i; steps = s' i; torn = t' i; taken = k' i; outcomes = o' i; answers = a i }
