-- One step of a list after the other.
use Rattle.std.proofs.Common.{◌≡◌, ℕ, ◌+◌, Bool, true, false, cond, nat_eq, List, [], ◌∷◌, ◌++◌, map, length, Option, Some, None, Result, Ok, Err, refl, sym, ap, ◌∙◌, append_assoc, arith}
use Rattle.std.proofs.lemmas.List.{append-nil}
use Rattle.std.proofs.lemmas.Bool.{eq-eqb}
use Rattle.std.specs.Prelude.{not, find, option_map, option_and_then}
use Rattle.std.specs.List.{zip}
use Rattle.fault.specs.declared.refusal.Refusal.{Refusal}
use Rattle.fault.specs.declared.refusal.Refusal.TheVariants.{UnknownColumn, WrongType}
use Rattle.model.specs.declared.value.Value.{Value}
use Rattle.schema.specs.declared.table.Kind.{Kind}
use Rattle.sqlsyntax.specs.Shared.{LiteralForm}
use Rattle.sqlchecks.specs.Answering.{◌>>=◌, ◌>>◌, refuse_if, or_refuse, each_of}
use Rattle.sqlread.specs.declared.given.Given.{Given}
use Rattle.sqlread.specs.Changes.{given_of, given, values_in, value_given}
use Rattle.sqlread.specs.declared.statement.Assignment.{Assignment}
use Rattle.sqlread.specs.Meaning.{set_at, set_from, set_of}

-- the first whose image passes
pub find_map : {A B : Type 0} (p : B → Bool) (f : A → B) (xs : List A) → find p (map f xs) ≡ option_map f (find (λ a. p (f a)) xs)
find_map p f [] = refl
find_map p f (x ∷ xs) = at (p (f x)) (find_map p f xs) where
  at : (b : Bool) → find p (map f xs) ≡ option_map f (find (λ a. p (f a)) xs) → cond b (Some (f x)) (find p (map f xs)) ≡ option_map f (cond b (Some x) (find (λ a. p (f a)) xs))
  at true h = refl
  at false h = h

-- the value of the first that is of the column
pub value_is : (given : List Given) (column : ℕ) → value_given (map given_of given) column ≡ or_refuse UnknownColumn (option_map (λ g. g.value) (find (λ g. nat_eq g.column column) given))
unfolding value_given
value_is given column = at (find (λ g. nat_eq g.column column) given) (find_map (λ g. nat_eq g.0 column) given_of given) where
  at : (o : Option Given) → find (λ g. nat_eq g.0 column) (map given_of given) ≡ option_map given_of o → or_refuse UnknownColumn (option_map (λ g. g.1) (find (λ g. nat_eq g.0 column) (map given_of given))) ≡ or_refuse UnknownColumn (option_map (λ g. g.value) o)
  at None e = ap (λ p. or_refuse UnknownColumn (option_map (λ g. g.1) p)) e
  at (Some g) e = ap (λ p. or_refuse UnknownColumn (option_map (λ g. g.1) p)) e

-- these, and then each of the others in turn
abbrev pub each_after : {A B : Type 0} → (A → Result B Refusal) → List B → List A → Result (List B) Refusal
each_after f front [] = Ok front
each_after f front (a ∷ more) = f a >>= λ b. each_after f (front ++ b ∷ []) more

abbrev with_front : {B : Type 0} → List B → Result (List B) Refusal → Result (List B) Refusal
with_front front (Ok bs) = Ok (front ++ bs)
with_front front (Err r) = Err r

push_front : {B : Type 0} (front : List B) (b : B) (r : Result (List B) Refusal) → with_front front (r >>= λ bs. Ok (b ∷ bs)) ≡ with_front (front ++ b ∷ []) r
push_front front b (Ok bs) = ap Ok (sym (append_assoc front (b ∷ []) bs))
push_front front b (Err e) = refl

each_behind : {A B : Type 0} (f : A → Result B Refusal) (front : List B) (xs : List A) → with_front front (each_of f xs) ≡ each_after f front xs
each_behind f front [] = ap Ok (append-nil front)
each_behind {A} {B} f front (a ∷ more) = at (f a) (λ b. push_front front b (each_of f more) ∙ each_behind f (front ++ b ∷ []) more) where
  at : (r : Result B Refusal) → ((b : B) → with_front front (each_of f more >>= λ bs. Ok (b ∷ bs)) ≡ each_after f (front ++ b ∷ []) more) → with_front front (r >>= λ b. each_of f more >>= λ bs. Ok (b ∷ bs)) ≡ (r >>= λ b. each_after f (front ++ b ∷ []) more)
  at (Ok b) h = h b
  at (Err e) h = refl

no_front : {B : Type 0} (r : Result (List B) Refusal) → r ≡ with_front [] r
no_front (Ok bs) = refl
no_front (Err e) = refl

-- each in turn, from nothing on
pub each_is : {A B : Type 0} (f : A → Result B Refusal) (xs : List A) → each_of f xs ≡ each_after f [] xs
each_is f xs = no_front (each_of f xs) ∙ each_behind f [] xs

pub values_are : (columns : List (ℕ × Kind)) (literals : List LiteralForm) → length literals ≡ length columns → values_in columns literals ≡ each_after given [] (zip columns literals)
unfolding values_in
values_are columns literals same = at (nat_eq (length literals) (length columns)) (eq-eqb _ _ same) where
  at : (b : Bool) → b ≡ true → (refuse_if (not b) WrongType >> each_of given (zip columns literals)) ≡ each_after given [] (zip columns literals)
  at true h = each_is given (zip columns literals)
  at false h = absurd cc

-- values before a place, and then what the assignments leave from there on
abbrev pub set_after : List Assignment → List Value → ℕ → List Value → Option (List Value)
set_after assignments front place [] = Some front
set_after assignments front place (v ∷ vs) = option_and_then (λ new. set_after assignments (front ++ new ∷ []) (place + 1) vs) (set_at assignments place v)

push_set : (front : List Value) (new : Value) (o : Option (List Value)) → option_map (λ vs. front ++ vs) (option_map (λ vs. new ∷ vs) o) ≡ option_map (λ vs. (front ++ new ∷ []) ++ vs) o
push_set front new None = refl
push_set front new (Some vs) = ap Some (sym (append_assoc front (new ∷ []) vs))

set_behind : (assignments : List Assignment) (front : List Value) (place : ℕ) (vs : List Value) → option_map (λ news. front ++ news) (set_from assignments place vs) ≡ set_after assignments front place vs
set_behind assignments front place [] = ap Some (append-nil front)
set_behind assignments front place (v ∷ vs) = at (set_at assignments place v) (λ new. push_set front new (set_from assignments (place + 1) vs) ∙ set_behind assignments (front ++ new ∷ []) (place + 1) vs) where
  at : (o : Option Value) → ((new : Value) → option_map (λ news. front ++ news) (option_map (λ news. new ∷ news) (set_from assignments (place + 1) vs)) ≡ set_after assignments (front ++ new ∷ []) (place + 1) vs)
      → option_map (λ news. front ++ news) (option_and_then (λ new. option_map (λ news. new ∷ news) (set_from assignments (place + 1) vs)) o) ≡ option_and_then (λ new. set_after assignments (front ++ new ∷ []) (place + 1) vs) o
  at None h = refl
  at (Some new) h = h new

no_set_front : (o : Option (List Value)) → o ≡ option_map (λ vs. [] ++ vs) o
no_set_front None = refl
no_set_front (Some vs) = refl

pub set_is : (assignments : List Assignment) (old : List Value) → set_of assignments old ≡ set_after assignments [] 0 old
unfolding set_of
set_is assignments old = no_set_front (set_from assignments 0 old) ∙ set_behind assignments [] 0 old

-- ---- where no column or no literal is left

pub zip_none : {A B : Type 0} (xs : List A) (ys : List B) → length xs ≡ 0 → zip xs ys ≡ []
zip_none [] ys e = refl
zip_none (x ∷ xs) ys e = absurd (omega arith)

pub zip_no_others : {A B : Type 0} (xs : List A) (ys : List B) → length ys ≡ 0 → zip xs ys ≡ []
zip_no_others [] [] e = refl
zip_no_others (x ∷ xs) [] e = refl
zip_no_others xs (y ∷ ys) e = absurd (omega arith)
