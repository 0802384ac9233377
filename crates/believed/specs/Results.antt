-- One thing after the other: the first refusal is the answer.
use Rattle.std.specs.Prelude.{Bool, if◌then◌else◌, List, [], ◌∷◌, ◌++◌, Result, Ok, Err}

-- f of what came out, unless that is an error
infixl 10 ◌>>=◌
abbrev pub ◌>>=◌ : {A B E : Type 0} → Result A E → (A → Result B E) → Result B E
(Ok a) >>= f = f a
(Err e) >>= f = Err e

-- the same, where nothing comes out
infixl 10 ◌>>◌
abbrev pub ◌>>◌ : {B E : Type 0} → Result (Unit {0}) E → Result B E → Result B E
(Ok done) >> b = b
(Err e) >> b = Err e

abbrev pub refuse_if : {E : Type 0} → Bool → E → Result (Unit {0}) E
refuse_if test e = if test then Err e else Ok tt

-- f over a list, up to the first error
abbrev pub fold_ok : {S A E : Type 0} → (S → A → Result S E) → S → List A → Result S E
fold_ok f s [] = Ok s
fold_ok f s (x ∷ xs) = f s x >>= λ next. fold_ok f next xs

-- each of a list in turn; f may look at what came of those before it
abbrev pub each_after : {A B E : Type 0} → (List B → A → Result B E) → List A → Result (List B) E
each_after f xs = fold_ok (λ done x. f done x >>= λ y. Ok (done ++ y ∷ [])) [] xs

abbrev pub each : {A B E : Type 0} → (A → Result B E) → List A → Result (List B) E
each f xs = each_after (λ done x. f x) xs
