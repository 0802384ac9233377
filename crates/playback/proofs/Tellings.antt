-- What outputs tell, one by one.
use Rattle.std.proofs.Common.{◌≡◌, ◌∙◌, ℕ, ◌+◌, ◌<◌, List, [], ◌∷◌, ◌++◌, length, get_or, take, refl, sym, ap, append_assoc, append-nil}
use Rattle.std.proofs.lemmas.List.{take_more, map-append}
use Rattle.flight.specs.declared.outcome.Outcome.{Outcome}
use Rattle.flight.specs.Telling.{outcome_of, outcomes_of}
use Rattle.model.specs.declared.entry.Told.{Told}
use Rattle.model.specs.declared.event.Job.{Job}
use Rattle.model.specs.Worlds.{Output, Sent, Applied, Refused, Answered}
use Rattle.world.specs.declared.output.Output.{Output as Out}
use Rattle.world.specs.View.{output_of, outputs_of}
use Rattle.store.proofs.Noting.{first_told-append, noted_after-append, told_in-append}
use Rattle.playback.specs.declared.told.Word.{Word}
use Rattle.playback.specs.Scenes.{Scene, wording}
use Rattle.playback.specs.Words.{first_told, noted_after, refused_word, told_in, word_of, words_in}

pub words_in-append : (job : Job) (xs ys : List Output) → words_in job (xs ++ ys) ≡ words_in job xs ++ words_in job ys
words_in-append job [] ys = refl
words_in-append job (Sent number message ∷ xs) ys = words_in-append job xs ys
words_in-append job (Applied m told ∷ xs) ys = ap (λ (l : List Word). word_of told ∷ l) (words_in-append job xs ys)
words_in-append job (Refused m refusal ∷ xs) ys =
    ap (λ (l : List Word). refused_word job refusal ++ l) (words_in-append job xs ys) ∙ sym (append_assoc (refused_word job refusal) (words_in job xs) (words_in job ys))
words_in-append job (Answered m answer ∷ xs) ys = words_in-append job xs ys

-- the first outputs and the next one
outputs_more : (xs : List Out) (i : ℕ) (x : Out) → i < length xs → outputs_of (take (i + 1) xs) ≡ outputs_of (take i xs) ++ output_of (get_or xs i x) ∷ []
outputs_more xs i x within = ap (λ (l : List Out). outputs_of l) (take_more xs i x within) ∙ map-append output_of (take i xs) (get_or xs i x ∷ [])

pub told_more : (xs : List Out) (i : ℕ) (x : Out) → i < length xs → told_in (outputs_of (take (i + 1) xs)) ≡ told_in (outputs_of (take i xs)) ++ told_in (output_of (get_or xs i x) ∷ [])
told_more xs i x within = ap told_in (outputs_more xs i x within) ∙ told_in-append (outputs_of (take i xs)) (output_of (get_or xs i x) ∷ [])

pub words_more : (job : Job) (xs : List Out) (i : ℕ) (x : Out) → i < length xs → words_in job (outputs_of (take (i + 1) xs)) ≡ words_in job (outputs_of (take i xs)) ++ words_in job (output_of (get_or xs i x) ∷ [])
words_more job xs i x within = ap (words_in job) (outputs_more xs i x within) ∙ words_in-append job (outputs_of (take i xs)) (output_of (get_or xs i x) ∷ [])

-- the outcomes of what is told first by some outputs, and then by the next one
pub firsts_more : (noted : ℕ) (xs : List Out) (i : ℕ) (x : Out) → i < length xs
    → outcomes_of (first_told noted (told_in (outputs_of (take (i + 1) xs))))
    ≡ outcomes_of (first_told noted (told_in (outputs_of (take i xs)))) ++ outcomes_of (first_told (noted_after noted (told_in (outputs_of (take i xs)))) (told_in (output_of (get_or xs i x) ∷ [])))
firsts_more noted xs i x within =
    let early : List Told = told_in (outputs_of (take i xs)) in
    let next : List Told = told_in (output_of (get_or xs i x) ∷ []) in
    ap (λ (l : List Told). outcomes_of (first_told noted l)) (told_more xs i x within)
    ∙ ap outcomes_of (first_told-append noted early next)
    ∙ map-append outcome_of (first_told noted early) (first_told (noted_after noted early) next)

pub noted_more : (noted : ℕ) (xs : List Out) (i : ℕ) (x : Out) → i < length xs
    → noted_after noted (told_in (outputs_of (take (i + 1) xs))) ≡ noted_after (noted_after noted (told_in (outputs_of (take i xs)))) (told_in (output_of (get_or xs i x) ∷ []))
noted_more noted xs i x within =
    ap (noted_after noted) (told_more xs i x within) ∙ noted_after-append noted (told_in (outputs_of (take i xs))) (told_in (output_of (get_or xs i x) ∷ []))

-- the outcomes of all that is told
pub all_more : (xs : List Out) (i : ℕ) (x : Out) → i < length xs
    → outcomes_of (told_in (outputs_of (take (i + 1) xs))) ≡ outcomes_of (told_in (outputs_of (take i xs))) ++ outcomes_of (told_in (output_of (get_or xs i x) ∷ []))
all_more xs i x within =
    ap outcomes_of (told_more xs i x within) ∙ map-append outcome_of (told_in (outputs_of (take i xs))) (told_in (output_of (get_or xs i x) ∷ []))

-- one output more, after a loop went over the first ones
pub next_all : (mid last : List Outcome) (xs : List Out) (i : ℕ) (x : Out) → i < length xs → x ≡ get_or xs i x
    → mid ≡ outcomes_of (told_in (outputs_of (take i xs))) → last ≡ mid ++ outcomes_of (told_in (output_of x ∷ [])) → last ≡ outcomes_of (told_in (outputs_of (take (i + 1) xs)))
next_all mid last xs i x within is so_far now =
    now
    ∙ ap (λ (l : List Outcome). l ++ outcomes_of (told_in (output_of x ∷ []))) so_far
    ∙ ap (λ (y : Out). outcomes_of (told_in (outputs_of (take i xs))) ++ outcomes_of (told_in (output_of y ∷ []))) is
    ∙ sym (all_more xs i x within)

pub next_noted : (noted mid last : ℕ) (xs : List Out) (i : ℕ) (x : Out) → i < length xs → x ≡ get_or xs i x
    → mid ≡ noted_after noted (told_in (outputs_of (take i xs))) → last ≡ noted_after mid (told_in (output_of x ∷ [])) → last ≡ noted_after noted (told_in (outputs_of (take (i + 1) xs)))
next_noted noted mid last xs i x within is so_far now =
    now
    ∙ ap (λ (n : ℕ). noted_after n (told_in (output_of x ∷ []))) so_far
    ∙ ap (λ (y : Out). noted_after (noted_after noted (told_in (outputs_of (take i xs)))) (told_in (output_of y ∷ []))) is
    ∙ sym (noted_more noted xs i x within)

pub next_firsts : (noted mark : ℕ) (mid last : List Outcome) (xs : List Out) (i : ℕ) (x : Out) → i < length xs → x ≡ get_or xs i x
    → mark ≡ noted_after noted (told_in (outputs_of (take i xs))) → mid ≡ outcomes_of (first_told noted (told_in (outputs_of (take i xs))))
    → last ≡ mid ++ outcomes_of (first_told mark (told_in (output_of x ∷ []))) → last ≡ outcomes_of (first_told noted (told_in (outputs_of (take (i + 1) xs))))
next_firsts noted mark mid last xs i x within is marked so_far now =
    now
    ∙ ap (λ (l : List Outcome). l ++ outcomes_of (first_told mark (told_in (output_of x ∷ [])))) so_far
    ∙ ap (λ (n : ℕ). outcomes_of (first_told noted (told_in (outputs_of (take i xs)))) ++ outcomes_of (first_told n (told_in (output_of x ∷ [])))) marked
    ∙ ap (λ (y : Out). outcomes_of (first_told noted (told_in (outputs_of (take i xs)))) ++ outcomes_of (first_told (noted_after noted (told_in (outputs_of (take i xs)))) (told_in (output_of y ∷ [])))) is
    ∙ sym (firsts_more noted xs i x within)

pub next_words : (job : Job) (first mid last : List Word) (xs : List Out) (i : ℕ) (x : Out) → i < length xs → x ≡ get_or xs i x
    → mid ≡ first ++ words_in job (outputs_of (take i xs)) → last ≡ mid ++ words_in job (output_of x ∷ []) → last ≡ first ++ words_in job (outputs_of (take (i + 1) xs))
next_words job first mid last xs i x within is so_far now =
    now
    ∙ ap (λ (l : List Word). l ++ words_in job (output_of x ∷ [])) so_far
    ∙ append_assoc first (words_in job (outputs_of (take i xs))) (words_in job (output_of x ∷ []))
    ∙ ap (λ (y : Out). first ++ (words_in job (outputs_of (take i xs)) ++ words_in job (output_of y ∷ []))) is
    ∙ ap (λ (l : List Word). first ++ l) (sym (words_more job xs i x within))

-- the scene after the first outputs, and after one more
pub first_wording : (s : Scene) (job : Job) → s ≡ wording s job []
first_wording s job = ap (λ (l : List Word). record s { words = l }) (sym (append-nil s.words))

pub next_wording : (job : Job) (s mid last : Scene) (xs : List Out) (i : ℕ) (x : Out) → i < length xs → x ≡ get_or xs i x
    → mid ≡ wording s job (outputs_of (take i xs)) → last ≡ wording mid job (output_of x ∷ []) → last ≡ wording s job (outputs_of (take (i + 1) xs))
next_wording job s mid last xs i x within is so_far now =
    now
    ∙ ap (λ (t : Scene). wording t job (output_of x ∷ [])) so_far
    ∙ ap (λ (l : List Word). record s { words = l }) (next_words job s.words (s.words ++ words_in job (outputs_of (take i xs))) (s.words ++ words_in job (outputs_of (take i xs)) ++ words_in job (output_of x ∷ [])) xs i x within is refl refl)
