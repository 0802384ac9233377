-- Tokens that are added one after another.
use Rattle.std.proofs.Common.{◌≡◌, ◌∙◌, List, ◌++◌, Result, Ok, Err, ap, append_assoc}
use Rattle.json.specs.Token.{Token}
use Rattle.json.specs.Written.{Written}
use Rattle.looks.specs.Objects.{Adds}

-- these tokens were added
abbrev pub Added : Written → Written → List Token → Type 0
Added old new tokens = (new.before ≡ old.before) × (new.tokens ≡ old.tokens ++ tokens)

pub both : (old mid new : Written) (a b : List Token) → Added old mid a → Added mid new b → Added old new (a ++ b)
both old mid new a b p q = (q.0 ∙ p.0, q.1 ∙ ap (λ l. l ++ b) p.1 ∙ append_assoc old.tokens a b)

pub then_adds : {E : Type 0} (r : Result (Unit {0}) E) (old mid new : Written) (a b : List Token) → Added old mid a → Adds r mid new b → Adds r old new (a ++ b)
then_adds (Ok x) old mid new a b p q = both old mid new a b p q
then_adds (Err e) old mid new a b p q = tt
