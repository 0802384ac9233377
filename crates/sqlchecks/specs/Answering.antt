-- What a function that checks a text returns.
use Rattle.std.specs.Prelude.{◌≡◌, List, [], ◌∷◌, Bool, if◌then◌else◌, Option, ok_or, Result, Ok, Err}
use Rattle.fault.specs.declared.refusal.Refusal.{Refusal}

-- one check after the other: the first refusal is the answer
infixl 10 ◌>>=◌
abbrev pub ◌>>=◌ : {A B : Type 0} → Result A Refusal → (A → Result B Refusal) → Result B Refusal
(Ok a) >>= f = f a
(Err r) >>= f = Err r

infixl 10 ◌>>◌
abbrev pub ◌>>◌ : {B : Type 0} → Result (Unit {0}) Refusal → Result B Refusal → Result B Refusal
(Ok done) >> r = r
(Err e) >> r = Err e

abbrev pub refuse_if : Bool → Refusal → Result (Unit {0}) Refusal
refuse_if test r = if test then Err r else Ok tt

abbrev pub or_refuse : {A : Type 0} → Refusal → Option A → Result A Refusal
or_refuse r found = ok_or found r

-- what a function returned, seen by view, is the answer
abbrev pub Gives : {X Y : Type 0} → (X → Y) → Result X Refusal → Result Y Refusal → Type 0
Gives view (Ok x) answer = answer ≡ Ok (view x)
Gives view (Err r) answer = answer ≡ Err r

-- each of a list in turn: the first refusal is the answer
abbrev pub each_of : {A B : Type 0} → (A → Result B Refusal) → List A → Result (List B) Refusal
each_of f [] = Ok []
each_of f (a ∷ rest) = f a >>= λ b. each_of f rest >>= λ bs. Ok (b ∷ bs)
