-- What a step that is taken tells.
use Rattle.std.proofs.Common.{◌≡◌, ◌∙◌, ℕ, ◌<◌, ◌+◌, List, [], ◌∷◌, ◌++◌, take, length, refl, sym, ap}
use Rattle.std.specs.Prelude.{slice_index_or}
use Rattle.std.proofs.lemmas.List.{take_more, map-append}
use Rattle.model.specs.Worlds as model
use Rattle.model.specs.Worlds.{Output}
use Rattle.flight.specs.declared.outcome.Outcome.{Outcome}
use Rattle.world.specs.declared.output.Output.{Output as Out}
use Rattle.world.specs.View.{output_of, outputs_of}
use Rattle.moments.specs.Behind.{outcomes_in}

-- ---- what is told among outputs

told_append : (xs ys : List Output) → outcomes_in (xs ++ ys) ≡ outcomes_in xs ++ outcomes_in ys
told_append [] ys = refl
told_append (model.Sent k m ∷ xs) ys = told_append xs ys
told_append (model.Applied m t ∷ xs) ys = ap (λ zs. outcomes_in (model.Applied m t ∷ []) ++ zs) (told_append xs ys)
told_append (model.Refused m r ∷ xs) ys = told_append xs ys
told_append (model.Answered m a ∷ xs) ys = told_append xs ys

-- one output more
pub told_more : (cur later : List Outcome) (outs : List Out) (i : ℕ) (o : Out) → cur ≡ outcomes_in (outputs_of (take i outs)) → later ≡ cur ++ outcomes_in (output_of o ∷ []) →
    i < length outs → o ≡ slice_index_or outs i o → later ≡ outcomes_in (outputs_of (take (i + 1) outs))
told_more cur later outs i o so next lt is =
    next ∙ ap (λ xs. xs ++ outcomes_in (output_of o ∷ [])) so ∙ sym (told_append (outputs_of (take i outs)) (output_of o ∷ []))
    ∙ ap outcomes_in (sym (map-append output_of (take i outs) (o ∷ [])) ∙ ap outputs_of (ap (λ x. take i outs ++ x ∷ []) is ∙ sym (take_more outs i o lt)))
