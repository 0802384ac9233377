-- What a life with one step more told, and which readings it has.
use Rattle.std.proofs.Common.{◌≡◌, ◌∙◌, ℕ, ℤ, zero, ◌-◌, Bool, true, false, Option, Some, MatchOption, Ok, Err, List, [], ◌∷◌, ◌++◌, fold, map, refl, sym, ap, subst, arith, append-nil, ⊎_elim}
use Rattle.std.proofs.lemmas.List.{map-append}
use Rattle.sqlchecks.specs.Columns.{Tables}
use Rattle.model.specs.Members.{Node}
use Rattle.model.specs.declared.entry.Told.{Told}
use Rattle.model.specs.declared.message.Input.TheVariants as input
use Rattle.keep.specs.declared.error.StoreError.{StoreError}
use Rattle.raft.specs.Memory.{is_idle, spares_memory}
use Rattle.node.specs.declared.node.Out.{Out as NodeOut}
use Rattle.node.specs.declared.node.Fault.TheVariants.{Down}
use Rattle.node.specs.View.{IsEmpty, IsGiven, started_from, told_between, works}
use Rattle.node.specs.Work as work
use Rattle.node.specs.Work.{Work}
use Rattle.sqlread.specs.Meaning.{language_of}
use Rattle.flight.specs.declared.life.Ending.{Ending}
use Rattle.flight.specs.declared.life.Ending.TheVariants.{Up, Torn}
use Rattle.flight.specs.declared.life.Packet.{Packet}
use Rattle.flight.specs.declared.life.Packet.TheVariants.{Local, Delivered}
use Rattle.flight.specs.declared.life.Step.{Step}
use Rattle.flight.specs.declared.life.Life.{Life}
use Rattle.flight.specs.declared.life.Opening.{Opening}
use Rattle.flight.specs.declared.outcome.Outcome.{Outcome}
use Rattle.flight.specs.Lives.{shown, step_of, with_outcomes, torn_step, all_steps, mark_for}
use Rattle.flight.specs.Telling.{outcomes_of}
use Rattle.cells.specs.declared.cell.Out.{Out}
use Rattle.cells.specs.Feeds.{IsRecorded}
use Rattle.cells.specs.Lives.{stepped, opened_with, told_by, told_from, outcomes_at, reading_at, shown_at, AreRead, AreUntold}
use Rattle.cells.proofs.Replays.{Seated, taken_through}

-- what is told in the steps from an opening on
abbrev pub told_in : Seated → Opening → List Step → List (List Outcome)
told_in c o steps = told_from c.schema c.members c.me (started_from (opened_with o)) steps

-- the seat is the same
same_told : (old new : Seated) (o : Opening) (steps : List Step) → new.schema ≡ old.schema → new.members ≡ old.members → new.me ≡ old.me → told_in new o steps ≡ told_in old o steps
same_told old new o steps a b c = rw (a, b, c) refl

-- one step more
told_more : (schema : Tables) (n me : ℕ) (x : Node) (steps : List Step) (s : Step) → told_from schema n me x (steps ++ s ∷ []) ≡ told_from schema n me x steps ++ told_by schema (fold (stepped schema n me) x steps) (stepped schema n me (fold (stepped schema n me) x steps) s) ∷ []
unfolding told_from
told_more schema n me x [] s = refl
told_more schema n me x (t ∷ steps) s = ap (λ (os : List (List Outcome)). told_by schema x (stepped schema n me x t) ∷ os) (told_more schema n me (stepped schema n me x t) steps s)

pub told_whole : (old new : Seated) (o : Opening) (before after : List Step) (s : Step) → new.schema ≡ old.schema → new.members ≡ old.members → new.me ≡ old.me → after ≡ before ++ s ∷ [] → old.member ≡ taken_through old o before → stepped old.schema old.members old.me old.member s ≡ new.member → s.outcomes ≡ told_by old.schema old.member new.member → map outcomes_at before ≡ told_in old o before → map outcomes_at after ≡ told_in new o after
told_whole old new o before after s a b c e was is told had =
    let x : Node = old.member in
    let z : Node = taken_through old o before in
    let next : Node → Node = λ v. stepped old.schema old.members old.me v s in
    ap (map outcomes_at) e
    ∙ map-append outcomes_at before (s ∷ [])
    ∙ ap (λ (os : List (List Outcome)). os ++ s.outcomes ∷ []) had
    ∙ ap (λ (os : List Outcome). told_in old o before ++ os ∷ []) (told ∙ ap (told_by old.schema x) (sym is) ∙ ap (λ (v : Node). told_by old.schema v (next v)) was)
    ∙ sym (told_more old.schema old.members old.me (started_from (opened_with o)) before s)
    ∙ ap (told_in old o) (sym e)
    ∙ sym (same_told old new o after a b c)

-- what was given as told is what the step tells
pub told_given : (schema : Tables) (x y : Node) (s made : Step) (outcomes : List Outcome) (told : List Told) → s ≡ with_outcomes outcomes made → outcomes ≡ outcomes_of told → told ≡ told_between (language_of schema) y.log x.commit y.commit → s.outcomes ≡ told_by schema x y
told_given schema x y s made outcomes told is of all = ap outcomes_at is ∙ of ∙ ap outcomes_of all

-- nothing is told where nothing changes
none_between : (schema : Tables) (x : Node) → told_by schema x x ≡ []
unfolding told_between
none_between schema x = let none : x.commit - x.commit ≡ zero = omega arith in rw none refl

pub told_none : (schema : Tables) (x y : Node) (s : Step) → y ≡ x → s.outcomes ≡ [] → s.outcomes ≡ told_by schema x y
told_none schema x y s same none = none ∙ sym (ap (told_by schema x) same ∙ none_between schema x)

pub told_still : (old new : Seated) (o : Opening) (before after : List Step) → new.schema ≡ old.schema → new.members ≡ old.members → new.me ≡ old.me → after ≡ before → map outcomes_at before ≡ told_in old o before → map outcomes_at after ≡ told_in new o after
told_still old new o before after a b c e had = rw (a, b, c, e) had

pub told_first : (c : Seated) (o : Opening) (steps : List Step) → steps ≡ [] → map outcomes_at steps ≡ told_in c o steps
unfolding told_from
told_first c o steps e = rw e refl

-- ---- torn steps

pub untold_torn : (s made : Step) → s ≡ made → made.outcomes ≡ [] → AreUntold (s ∷ [])
untold_torn s made is none = let none' : s.outcomes ≡ [] = ap outcomes_at is ∙ none in rw none' refl

-- ---- readings

-- the reading is passed as it is
pub made_at : (s : Step) (m : ℕ) (passed reading : ℤ) (p : Packet) → passed ≡ reading → s ≡ step_of m passed p → s ≡ step_of m reading p
made_at s m passed reading p same e = e ∙ ap (λ (r : ℤ). step_of m r p) same

shown_twice : (reading : ℤ) (p : Packet) → shown (shown reading p) p ≡ shown reading p
shown_twice reading (Local input.Timeout) = refl
shown_twice reading (Local input.Beat) = refl
shown_twice reading (Local (input.Close own)) = refl
shown_twice reading (Local (input.Floor own)) = refl
shown_twice reading (Local (input.Submit own request)) = refl
shown_twice reading (Delivered mark own message) = refl

read_step : (s : Step) (m : ℕ) (reading : ℤ) (p : Packet) (outcomes : List Outcome) → s ≡ with_outcomes outcomes (step_of m reading p) → shown_at s ≡ reading_at s
read_step s m reading p outcomes e = ap shown_at e ∙ shown_twice reading p ∙ sym (ap reading_at e)

read_more : (steps : List Step) (s : Step) → AreRead steps → shown_at s ≡ reading_at s → AreRead (steps ++ s ∷ [])
read_more steps s had is =
    map-append shown_at steps (s ∷ [])
    ∙ ap (λ (rs : List ℤ). rs ++ shown_at s ∷ []) had
    ∙ ap (λ (r : ℤ). map reading_at steps ++ r ∷ []) is
    ∙ sym (map-append reading_at steps (s ∷ []))

-- the steps of a life that has not ended
all_made : (life : Life) → life.ending ≡ Up → all_steps life ≡ life.steps.items
all_made life up = ap (λ (end : Ending). life.steps.items ++ torn_step end) up ∙ append-nil life.steps.items

pub read_whole : (life : Life) (steps : List Step) (s : Step) (m : ℕ) (reading : ℤ) (p : Packet) (outcomes : List Outcome) → life.ending ≡ Up → AreRead (all_steps life) → s ≡ with_outcomes outcomes (step_of m reading p) → steps ≡ life.steps.items ++ s ∷ [] → AreRead (steps ++ torn_step life.ending)
read_whole life steps s m reading p outcomes up had is e =
    let no_more : torn_step life.ending ≡ [] = ap torn_step up in
    rw (no_more, append-nil steps, e) (read_more life.steps.items s (rw (all_made life up) at had) (read_step s m reading p outcomes is))

pub read_torn : (life : Life) (steps : List Step) (s : Step) (m : ℕ) (reading : ℤ) (p : Packet) → life.ending ≡ Up → AreRead (all_steps life) → s ≡ step_of m reading p → steps ≡ life.steps.items → AreRead (steps ++ s ∷ [])
read_torn life steps s m reading p up had is e =
    rw e (read_more life.steps.items s (rw (all_made life up) at had) (read_step s m reading p [] is))

-- ---- what is recorded

-- a step that was made whole
pub recorded_whole : (old new : Life) (p : Packet) (m : ℕ) (reading : ℤ) (out : Out) (s made : Step) (outcomes : List Outcome) → new.opening ≡ old.opening → new.steps.items ≡ old.steps.items ++ s ∷ [] → new.ending ≡ Up → s ≡ with_outcomes outcomes made → made ≡ step_of m reading p → outcomes ≡ outcomes_of out.given.told.items → out.mark ≡ m → Some m ≡ mark_for old p
    → MatchOption (mark_for old p) ⊥ (λ k. IsRecorded old new (step_of k reading p) (Ok out))
recorded_whole old new p m reading out s made outcomes opens more up is first told at mark =
    let step : s ≡ with_outcomes (outcomes_of out.given.told.items) (step_of m reading p) = is ∙ ap (λ (os : List Outcome). with_outcomes os made) told ∙ ap (λ (t : Step). with_outcomes (outcomes_of out.given.told.items) t) first in
    subst (λ (o : Option ℕ). MatchOption o ⊥ (λ k. IsRecorded old new (step_of k reading p) (Ok out))) mark (record { opening = opens; steps = more ∙ ap (λ (t : Step). old.steps.items ++ t ∷ []) step; ending = up }, at)

-- a step that went down
pub recorded_down : (old new : Life) (p : Packet) (m : ℕ) (reading : ℤ) (error : StoreError) (s : Step) → new.opening ≡ old.opening → new.steps.items ≡ old.steps.items → new.ending ≡ Torn s → s ≡ step_of m reading p → Some m ≡ mark_for old p
    → MatchOption (mark_for old p) ⊥ (λ k. IsRecorded old new (step_of k reading p) (Err (Down error)))
recorded_down old new p m reading error s opens same torn first mark =
    subst (λ (o : Option ℕ). MatchOption o ⊥ (λ k. IsRecorded old new (step_of k reading p) (Err (Down error)))) mark (record { opening = opens; steps = same ∙ sym (append-nil old.steps.items); ending = torn ∙ ap Torn first })

-- ---- where nothing comes of a packet

idle : (schema : Tables) (n me : ℕ) (w : Work) (x : Node) → spares_memory n me w x ≡ true → is_idle (works schema n me w x) ≡ true
idle schema n me (work.Local input.Timeout) x h = h
idle schema n me (work.Local input.Beat) x h = h
idle schema n me (work.Local (input.Close reading)) x h = h
idle schema n me (work.Local (input.Floor reading)) x h = h
idle schema n me (work.Local (input.Submit reading request)) x h = absurd (cc h)
idle schema n me (work.Delivered reading message) x h = absurd (cc h)

pub nothing_given : (schema : Tables) (n me : ℕ) (x y : Node) (w v : Work) (out : NodeOut) → w ≡ v → IsGiven x y (works schema n me w x) out → spares_memory n me v x ≡ true → IsEmpty out
nothing_given schema n me x y w v out is gave spare =
    let idle_here : is_idle (works schema n me w x) ≡ true = subst (λ (u : Work). is_idle (works schema n me u x) ≡ true) (sym is) (idle schema n me v x spare) in
    ⊎_elim (λ moved. let no : false ≡ true = ap is_idle moved ∙ idle_here in absurd (cc no)) (λ ignored. ignored.2) gave
