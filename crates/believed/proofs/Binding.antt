-- Steps one after another that come to the same in two words, seen by a function.
use Rattle.std.proofs.Common.{◌≡◌, Bool, true, false, List, [], ◌∷◌, ◌++◌, map, refl, sym, ap, ◌∙◌, append_assoc, append-nil, map-id, Result, Ok, Err}
use Rattle.fault.specs.declared.refusal.Refusal.{Refusal}
use Rattle.sqlchecks.specs.Answering.{each_of}
use Rattle.believed.specs.Results.{◌>>=◌, ◌>>◌, refuse_if, fold_ok, each}

abbrev pub mapped : {A B : Type 0} → (A → B) → Result A Refusal → Result B Refusal
mapped h (Ok a) = Ok (h a)
mapped h (Err e) = Err e

pub same_or : {A : Type 0} (r : Result A Refusal) → mapped (λ a. a) r ≡ r
same_or (Ok a) = refl
same_or (Err e) = refl

pub mapped_then : {A B C : Type 0} (h : B → C) (k : A → B) (r : Result A Refusal) → mapped h (r >>= λ a. Ok (k a)) ≡ mapped (λ a. h (k a)) r
mapped_then h k (Ok a) = refl
mapped_then h k (Err e) = refl

-- r' is r seen by k, and what follows is the same seen by h
bind_by : {A A' B C : Type 0} (h : C → B) (k : A → A') (r : Result A Refusal) (f : A' → Result B Refusal) (g : A → Result C Refusal) →
    ((a : A) → f (k a) ≡ mapped h (g a)) → (mapped k r >>= f) ≡ mapped h (r >>= g)
bind_by h k (Ok a) f g same = same a
bind_by h k (Err e) f g same = refl

pub bind : {A A' B C : Type 0} (h : C → B) (k : A → A') (r' : Result A' Refusal) (r : Result A Refusal) (f : A' → Result B Refusal) (g : A → Result C Refusal) →
    r' ≡ mapped k r → ((a : A) → f (k a) ≡ mapped h (g a)) → (r' >>= f) ≡ mapped h (r >>= g)
bind h k r' r f g first same = ap (λ x. x >>= f) first ∙ bind_by h k r f g same

bind_same_by : {A B C : Type 0} (h : C → B) (r : Result A Refusal) (f : A → Result B Refusal) (g : A → Result C Refusal) →
    ((a : A) → f a ≡ mapped h (g a)) → (r >>= f) ≡ mapped h (r >>= g)
bind_same_by h (Ok a) f g same = same a
bind_same_by h (Err e) f g same = refl

pub bind_same : {A B C : Type 0} (h : C → B) (r' r : Result A Refusal) (f : A → Result B Refusal) (g : A → Result C Refusal) →
    r' ≡ r → ((a : A) → f a ≡ mapped h (g a)) → (r' >>= f) ≡ mapped h (r >>= g)
bind_same h r' r f g first same = ap (λ x. x >>= f) first ∙ bind_same_by h r f g same

-- a check before the rest
pub refused : {B C : Type 0} (h : C → B) (b b' : Bool) (e : Refusal) (x : Result B Refusal) (y : Result C Refusal) → b' ≡ b → x ≡ mapped h y → (refuse_if b' e >> x) ≡ mapped h (refuse_if b e >> y)
refused h b b' e x y test same = ap (λ t. refuse_if t e >> x) test ∙ by b
  where
    by : (b : Bool) → (refuse_if b e >> x) ≡ mapped h (refuse_if b e >> y)
    by true = refl
    by false = same

-- a check inside a first part, and then the rest
pub refused_in : {A B C : Type 0} (h : C → B) (b : Bool) (e : Refusal) (y : Result A Refusal) (g : A → Result C Refusal) (x : Result B Refusal) → x ≡ mapped h (y >>= g) → (refuse_if b e >> x) ≡ mapped h ((refuse_if b e >> y) >>= g)
refused_in h true e y g x same = refl
refused_in h false e y g x same = same

-- the same seen by two functions that agree on what can come out
pub alike : {A B C : Type 0} (h k : B → C) (r : Result A Refusal) (g : A → Result B Refusal) → ((a : A) → mapped h (g a) ≡ mapped k (g a)) → mapped h (r >>= g) ≡ mapped k (r >>= g)
alike h k (Ok a) g same = same a
alike h k (Err e) g same = refl

pub alike_refused : {B C : Type 0} (h k : B → C) (b : Bool) (e : Refusal) (y : Result B Refusal) → mapped h y ≡ mapped k y → mapped h (refuse_if b e >> y) ≡ mapped k (refuse_if b e >> y)
alike_refused h k true e y same = refl
alike_refused h k false e y same = same

-- ---- lists

tail_case : {B C : Type 0} (h : C → B) (done : List B) (b : C) (t : Result (List C) Refusal) →
    (mapped (map h) t >>= λ ys. Ok ((done ++ h b ∷ []) ++ ys)) ≡ (mapped (map h) (t >>= λ bs. Ok (b ∷ bs)) >>= λ ys. Ok (done ++ ys))
tail_case h done b (Ok bs) = ap Ok (append_assoc done (h b ∷ []) (map h bs))
tail_case h done b (Err e) = refl

cons_case : {B C : Type 0} (h : C → B) (done : List B) (r : Result C Refusal) (t : Result (List C) Refusal) (F : List B → Result (List B) Refusal) →
    ((more : List B) → F more ≡ (mapped (map h) t >>= λ ys. Ok (more ++ ys))) →
    ((mapped h r >>= λ y. Ok (done ++ y ∷ [])) >>= F) ≡ (mapped (map h) (r >>= λ b. t >>= λ bs. Ok (b ∷ bs)) >>= λ ys. Ok (done ++ ys))
cons_case h done (Ok b) t F same = same (done ++ h b ∷ []) ∙ tail_case h done b t
cons_case h done (Err e) t F same = refl

each_from : {A B C : Type 0} (h : C → B) (f : A → Result B Refusal) (g : A → Result C Refusal) → ((a : A) → f a ≡ mapped h (g a)) → (xs : List A) (done : List B) →
    fold_ok (λ done x. f x >>= λ y. Ok (done ++ y ∷ [])) done xs ≡ (mapped (map h) (each_of g xs) >>= λ ys. Ok (done ++ ys))
each_from h f g same [] done = ap Ok (sym (append-nil done))
each_from h f g same (x ∷ xs) done =
    ap (λ r. (r >>= λ y. Ok (done ++ y ∷ [])) >>= λ next. fold_ok (λ done x. f x >>= λ y. Ok (done ++ y ∷ [])) next xs) (same x)
    ∙ cons_case h done (g x) (each_of g xs) (λ next. fold_ok (λ done x. f x >>= λ y. Ok (done ++ y ∷ [])) next xs) (λ more. each_from h f g same xs more)

then_ok : {A : Type 0} (r : Result A Refusal) → (r >>= λ a. Ok a) ≡ r
then_ok (Ok a) = refl
then_ok (Err e) = refl

pub each_mapped : {A B C : Type 0} (h : C → B) (f : A → Result B Refusal) (g : A → Result C Refusal) → ((a : A) → f a ≡ mapped h (g a)) → (xs : List A) → each f xs ≡ mapped (map h) (each_of g xs)
each_mapped h f g same xs = each_from h f g same xs [] ∙ then_ok (mapped (map h) (each_of g xs))

mapped_id : {A : Type 0} (r : Result (List A) Refusal) → mapped (map (λ a. a)) r ≡ r
mapped_id (Ok xs) = ap Ok (map-id xs)
mapped_id (Err e) = refl

pub each_same : {A B : Type 0} (f g : A → Result B Refusal) → ((a : A) → f a ≡ g a) → (xs : List A) → each f xs ≡ each_of g xs
each_same f g same xs = each_mapped (λ b. b) f g (λ a. same a ∙ sym (same_or (g a))) xs ∙ mapped_id (each_of g xs)
