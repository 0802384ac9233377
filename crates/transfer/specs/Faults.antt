-- What a reader of a file returns: a value, or the first fault with its place.
use Rattle.std.specs.Prelude.{◌≡◌, ◌++◌, ℕ, List, [], ◌∷◌, Bool, if◌then◌else◌, Option, option_to_list, Result, Ok, Err, ⊤}
use Rattle.fault.specs.declared.refusal.Refusal.{Refusal}
use Rattle.transfer.specs.declared.unread.Fault.{Fault}
use Rattle.transfer.specs.declared.unread.Stop.{Stop}
use Rattle.transfer.specs.declared.unread.Stop.TheVariants.{NoMemory, At}

-- a refusal at a line, behind so many of its bytes
abbrev pub fault_at : ℕ → ℕ → Refusal → Fault
fault_at line before refusal = record { line = line; before = before; refusal = refusal }

-- what the language says of something that stands there
abbrev pub at : {A : Type 0} → ℕ → ℕ → Result A Refusal → Result A Fault
at line before (Ok a) = Ok a
at line before (Err refusal) = Err (fault_at line before refusal)

-- one check after the other: the first fault is the answer
infixl 10 ◌>>=◌
abbrev pub ◌>>=◌ : {A B : Type 0} → Result A Fault → (A → Result B Fault) → Result B Fault
(Ok a) >>= f = f a
(Err e) >>= f = Err e

infixl 10 ◌>>◌
abbrev pub ◌>>◌ : {B : Type 0} → Result (Unit {0}) Fault → Result B Fault → Result B Fault
(Ok done) >> r = r
(Err e) >> r = Err e

abbrev pub fault_if : Bool → Fault → Result (Unit {0}) Fault
fault_if test e = if test then Err e else Ok tt

-- what each of a list gives, if anything: the first fault is the answer
abbrev pub found_in : {A B : Type 0} → (A → Result (Option B) Fault) → List A → Result (List B) Fault
found_in f [] = Ok []
found_in f (a ∷ rest) = f a >>= λ b. found_in f rest >>= λ bs. Ok (option_to_list b ++ bs)

-- what a function returned, seen by view, is the answer, unless memory ran out
abbrev pub GivesInMemory : {X Y : Type 0} → (X → Y) → Result X Stop → Result Y Fault → Type 0
GivesInMemory view (Ok x) answer = answer ≡ Ok (view x)
GivesInMemory view (Err NoMemory) answer = ⊤
GivesInMemory view (Err (At e)) answer = answer ≡ Err e
