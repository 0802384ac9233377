-- How many steps a life has after a packet.
use Rattle.std.proofs.Common.{◌≡◌, ◌∙◌, ◌⊎◌, ◌<◌, ◌+◌, ℕ, Option, Some, None, MatchOption, Result, Ok, Err, List, [], ◌∷◌, ◌++◌, length, ap, sym, inl, inr, ⊎_elim, arith}
use Rattle.std.proofs.lemmas.List.{length-append}
use Rattle.node.specs.declared.node.Fault.{Fault}
use Rattle.node.specs.declared.node.Fault.TheVariants.{Kept, Down}
use Rattle.flight.specs.Lives.{all_steps, told_step, torn_step}
use Rattle.flight.specs.declared.life.Step.{Step}
use Rattle.flight.specs.declared.life.Life.{Life}
use Rattle.flight.specs.declared.life.Ending.{Ending}
use Rattle.flight.specs.declared.life.Ending.TheVariants.{Up, Torn}
use Rattle.cells.specs.declared.cell.Out.{Out}
use Rattle.cells.specs.Feeds.{IsLifeWith, IsRecorded}

long : (xs ys : List Step) → length (xs ++ ys) ≡ length xs + length ys
long xs ys = length-append xs ys

-- those made whole, those that came, and a torn one
with_steps : (old new : Life) (more : List Step) (end : Ending) → IsLifeWith old new more end → length (all_steps new) ≡ length old.steps.items + length more + length (torn_step end)
with_steps old new more end is =
    long new.steps.items (torn_step new.ending)
    ∙ ap (λ (n : ℕ). n + length (torn_step new.ending)) (ap length is.steps ∙ long old.steps.items more)
    ∙ ap (λ (e : Ending). length old.steps.items + length more + length (torn_step e)) is.ending

steps_up : (old : Life) → old.ending ≡ Up → length (all_steps old) ≡ length old.steps.items
steps_up old up =
    let all = long old.steps.items (torn_step old.ending) in
    let none : length (torn_step old.ending) ≡ 0 = ap (λ (e : Ending). length (torn_step e)) up in
    omega (arith, all, none)

-- a packet that is turned away is recorded nowhere
pub no_more : (old new : Life) → IsLifeWith old new [] old.ending → length (all_steps new) ≡ length (all_steps old)
no_more old new is =
    let now = with_steps old new [] old.ending is in
    let was = long old.steps.items (torn_step old.ending) in
    omega (arith, now, was)

-- any other one is one step more
once : (old new : Life) (s : Step) (r : Result Out Fault) → old.ending ≡ Up → IsRecorded old new s r → length (all_steps new) ≡ length (all_steps old) + 1
once old new s (Ok out) up is = let now = with_steps old new (told_step out.given.told.items s ∷ []) Up is.0 in let was = steps_up old up in omega (arith, now, was)
once old new s (Err (Kept refusal)) up is = let now = with_steps old new (s ∷ []) Up is in let was = steps_up old up in omega (arith, now, was)
once old new s (Err (Down t)) up is = let now = with_steps old new [] (Torn s) is in let was = steps_up old up in omega (arith, now, was)

pub one_more : (old new : Life) (mark : Option ℕ) (step : ℕ → Step) (r : Result Out Fault) → old.ending ≡ Up → MatchOption mark ⊥ (λ m. IsRecorded old new (step m) r) → length (all_steps new) ≡ length (all_steps old) + 1
one_more old new None step r up is = absurd is
one_more old new (Some m) step r up is = once old new (step m) r up is

-- where there are more than before there is one more
pub counted_more : (old new before now total : ℕ) → (new ≡ old) ⊎ (new ≡ old + 1) → old ≡ total → before ≡ old → now ≡ new → before < now → new ≡ total + 1
counted_more old new before now total (inl same) was b n less = omega (arith, same, was, b, n, less)
counted_more old new before now total (inr more) was b n less = omega (arith, more, was, b, n, less)

pub counted_same : (old new before now total : ℕ) → (new ≡ old) ⊎ (new ≡ old + 1) → old ≡ total → before ≡ old → now ≡ new → (before < now → ⊥) → new ≡ total
counted_same old new before now total (inl same) was b n not = omega (arith, same, was)
counted_same old new before now total (inr more) was b n not = let less : before < now = omega (arith, more, b, n) in absurd (not less)
