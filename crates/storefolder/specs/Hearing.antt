-- What hears the journals of a folder.
use Rattle.std.specs.Prelude.{◌≡◌, ℕ, Option, Some, None, List, [], ◌∷◌, length}
use Rattle.journal.specs.declared.line.Line.{Line}
use Rattle.store.specs.Telling.{IsTold}
use Rattle.store.specs.declared.telling.End.{End}

-- the sum that a journal goes on from, after one that ends so; none where it is not known yet
abbrev pub sum_after : Option ℕ → Option End → Option ℕ
sum_after before None = before
sum_after before (Some end) = Some end.sum

module _ {H : Type 0} (hears : H → Line → H → Type 0) where
  -- the lines of each of these texts are heard, one text after the other, each going on from the sum that the one before ends with
  abbrev pub AreTold : (before : Option ℕ) → List (List ℕ) → H → H → (after : Option ℕ) → Type 0
  AreTold before [] old new after = (new ≡ old) × (after ≡ before)
  AreTold before (text ∷ texts) old new after = (mid : H) × (end : Option End) × IsTold hears before text old mid end × AreTold (sum_after before end) texts mid new after

  -- so many texts of journals are
  abbrev pub HasHeard : ℕ → H → H → Type 0
  HasHeard count old new = (before after : Option ℕ) × (texts : List (List ℕ)) × AreTold before texts old new after × (length texts ≡ count)
