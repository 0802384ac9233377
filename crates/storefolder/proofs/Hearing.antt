-- Texts that are heard, journal by journal.
use Rattle.std.proofs.Common.{◌≡◌, ◌∙◌, List, [], ◌∷◌, ◌++◌, ℕ, Option, Some, None, ap, refl, sym, subst}
use Rattle.std.specs.Prelude.{option_map}
use Rattle.std.specs.Option.{option_or}
use Rattle.journal.specs.declared.line.Line.{Line}
use Rattle.store.specs.Telling.{IsTold}
use Rattle.store.specs.declared.telling.End.{End}
use Rattle.storefolder.specs.Hearing.{AreTold, sum_after}

-- one text more
pub told_more : {H : Type 0} (hears : H → Line → H → Type 0) (before : Option ℕ) (texts : List (List ℕ)) (old mid new : H) (so_far : Option ℕ) (text : List ℕ) (end : Option End)
    → AreTold hears before texts old mid so_far → IsTold hears so_far text mid new end → AreTold hears before (texts ++ text ∷ []) old new (sum_after so_far end)
told_more {H = H} hears before [] old mid new so_far text end first next =
    let here : IsTold hears before text mid new end = subst (λ (s : Option ℕ). IsTold hears s text mid new end) first.1 next in
    (new, end, subst (λ (x : H). IsTold hears before text x new end) first.0 here, (refl, ap (λ (s : Option ℕ). sum_after s end) first.1))
told_more hears before (one ∷ texts) old mid new so_far text end first next =
    (first.0, first.1, first.2, told_more hears (sum_after before first.1) texts first.0 mid new so_far text end first.3 next)

-- the sum that a journal ends with, or else that from before it
pub summed : (end : Option End) (before found : Option ℕ) → found ≡ option_map (λ (e : End). e.sum) end → option_or found before ≡ sum_after before end
summed None before found is = ap (λ (o : Option ℕ). option_or o before) is
summed (Some end) before found is = ap (λ (o : Option ℕ). option_or o before) is
