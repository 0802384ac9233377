-- Tokens that are added one after another.
use Rattle.std.proofs.Common.{◌≡◌, ◌∙◌, ℕ, List, [], ◌∷◌, ◌++◌, Result, Ok, Err, ap, append_assoc}
use Rattle.json.specs.Token.{Token, begin_object, end_object, key}
use Rattle.json.specs.Written.{Written, Writes}
use Rattle.looks.specs.Objects.{Adds}
use Rattle.looks.specs.Outcomes.{object}

-- these tokens were added
abbrev pub Added : Written → Written → List Token → Type 0
Added old new tokens = (new.before ≡ old.before) × (new.tokens ≡ old.tokens ++ tokens)

pub two : {E : Type 0} (r : Result (Unit {0}) E) (old mid new : Written) (a b : List Token) → Added old mid a → Adds r mid new b → Adds r old new (a ++ b)
two (Ok x) old mid new a b p q = (q.0 ∙ p.0, q.1 ∙ (ap (λ l. l ++ b) p.1 ∙ append_assoc old.tokens a b))
two (Err e) old mid new a b p q = tt

pub three : {E : Type 0} (r : Result (Unit {0}) E) (old one other new : Written) (a b d : List Token) → Added old one a → Added one other b → Adds r other new d → Adds r old new (a ++ (b ++ d))
three r old one other new a b d p q s = two r old one new a (b ++ d) p (two r one other new b d q s)

pub both : (old mid new : Written) (a b : List Token) → Added old mid a → Added mid new b → Added old new (a ++ b)
both old mid new a b p q = (q.0 ∙ p.0, q.1 ∙ (ap (λ l. l ++ b) p.1 ∙ append_assoc old.tokens a b))

one : {E : Type 0} (r : Result (Unit {0}) E) (old new : Written) (t : Token) → Writes r old new t → Adds r old new (t ∷ [])
one (Ok x) old new t w = (w.room.0, w.ok)
one (Err e) old new t w = tt

-- an object, and one behind its name
pub closed : {E : Type 0} (r : Result (Unit {0}) E) (old begun filled new : Written) (tokens : List Token) → Added old begun (begin_object ∷ []) → Added begun filled tokens → Writes r filled new end_object
    → Adds r old new (object tokens)
closed r old begun filled new tokens p q w = two r old begun new (begin_object ∷ []) (tokens ++ end_object ∷ []) p (two r begun filled new tokens (end_object ∷ []) q (one r filled new end_object w))

pub named : {E : Type 0} (r : Result (Unit {0}) E) (old keyed begun filled new : Written) (name : List ℕ) (tokens : List Token) → Added old keyed (key name ∷ []) → Added keyed begun (begin_object ∷ []) → Added begun filled tokens
    → Writes r filled new end_object → Adds r old new (key name ∷ object tokens)
named r old keyed begun filled new name tokens k p q w = two r old keyed new (key name ∷ []) (object tokens) k (closed r keyed begun filled new tokens p q w)
