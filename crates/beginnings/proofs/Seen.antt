-- Flights beside what was kept of them, one more.
use Rattle.std.proofs.Common.{◌≡◌, ◌∙◌, ℕ, ◌+◌, ◌<◌, List, [], ◌∷◌, ◌++◌, length, map, take, get_or, sym, ap, subst, arith, inl, inr}
use Rattle.std.specs.Prelude.{All}
use Rattle.std.specs.List.{AllZip}
use Rattle.std.proofs.lemmas.List.{map-append, take_more}
use Rattle.std.proofs.lemmas.List.Elements.{All-cons, All-head, All-nil, All-tail}
use Rattle.flight.specs.Contents.{FlightContents, in_flight}
use Rattle.flight.specs.declared.flight.Flight.{Flight}
use Rattle.beginnings.specs.Beginnings.{AreFound, HasBeginning, IsFound}
use Rattle.beginnings.specs.Words.{AllBegin}
use Rattle.beginnings.specs.declared.beginning.Beginning.{Beginning}
use Rattle.beginnings.specs.declared.beginning.Found.{Found}
use Rattle.beginnings.specs.declared.beginning.Found.TheVariants.{Begins, Differs, Less}

found_push : (fs : List FlightContents) (bs : List Beginning) (xs : List Found) (f : FlightContents) (b : Beginning) (x : Found) → AreFound fs bs xs → IsFound f b x
    → AreFound (fs ++ f ∷ []) (bs ++ b ∷ []) (xs ++ x ∷ [])
found_push [] [] [] f b x are is = (is, tt)
found_push [] [] (y ∷ xs) f b x are is = absurd are
found_push [] (c ∷ bs) xs f b x are is = absurd are
found_push (g ∷ fs) [] xs f b x are is = absurd are
found_push (g ∷ fs) (c ∷ bs) [] f b x are is = absurd are
found_push (g ∷ fs) (c ∷ bs) (y ∷ xs) f b x are is = (are.0, found_push fs bs xs f b x are.1 is)

-- one node more
pub found_more : (flights : List Flight) (seen : List Beginning) (i : ℕ) (f : Flight) (d : Beginning) (found : List Found) (x : Found) → i < length flights → i < length seen
    → f ≡ get_or flights i f → AreFound (map in_flight (take i flights)) (take i seen) found → IsFound (in_flight f) (get_or seen i d) x
    → AreFound (map in_flight (take (i + 1) flights)) (take (i + 1) seen) (found ++ x ∷ [])
found_more flights seen i f d found x less short at are is =
    let b = get_or seen i d in
    let fs : take (i + 1) flights ≡ take i flights ++ f ∷ [] = take_more flights i f less ∙ ap (λ y. take i flights ++ y ∷ []) (sym at) in
    let bs : take (i + 1) seen ≡ take i seen ++ b ∷ [] = take_more seen i d short in
    let mapped : map in_flight (take (i + 1) flights) ≡ map in_flight (take i flights) ++ in_flight f ∷ [] = ap (map in_flight) fs ∙ map-append in_flight (take i flights) (f ∷ []) in
    subst (λ l. AreFound l (take (i + 1) seen) (found ++ x ∷ [])) (sym mapped)
    (subst (λ l. AreFound (map in_flight (take i flights) ++ in_flight f ∷ []) l (found ++ x ∷ [])) (sym bs)
    (found_push (map in_flight (take i flights)) (take i seen) found (in_flight f) b x are is))

-- ---- whether all begin so

begins_of : (f : FlightContents) (b : Beginning) (x : Found) → IsFound f b x → x ≡ Begins → HasBeginning f b
begins_of f b x is e = subst (IsFound f b) e is

of_begins : (f : FlightContents) (b : Beginning) (x : Found) → IsFound f b x → HasBeginning f b → x ≡ Begins
of_begins f b Begins is has = λ i. Begins
of_begins f b Differs is has = absurd (is.1 has.1)
of_begins f b Less is has = absurd (is has.0)

pub all_begin : (fs : List FlightContents) (bs : List Beginning) (xs : List Found) → AreFound fs bs xs → All (λ x. x ≡ Begins) xs → AllBegin fs bs
all_begin [] [] [] are all = tt
all_begin [] [] (y ∷ xs) are all = absurd are
all_begin [] (c ∷ bs) xs are all = absurd are
all_begin (g ∷ fs) [] xs are all = absurd are
all_begin (g ∷ fs) (c ∷ bs) [] are all = absurd are
all_begin (g ∷ fs) (c ∷ bs) (y ∷ xs) are all = (begins_of g c y are.0 (All-head (λ x. x ≡ Begins) y xs all), all_begin fs bs xs are.1 (All-tail (λ x. x ≡ Begins) y xs all))

pub begin_all : (fs : List FlightContents) (bs : List Beginning) (xs : List Found) → AreFound fs bs xs → AllBegin fs bs → All (λ x. x ≡ Begins) xs
begin_all [] [] [] are begin = All-nil (λ x. x ≡ Begins)
begin_all [] [] (y ∷ xs) are begin = absurd are
begin_all [] (c ∷ bs) xs are begin = absurd are
begin_all (g ∷ fs) [] xs are begin = absurd are
begin_all (g ∷ fs) (c ∷ bs) [] are begin = absurd are
begin_all (g ∷ fs) (c ∷ bs) (y ∷ xs) are begin = All-cons (λ x. x ≡ Begins) y xs (of_begins g c y are.0 begin.0) (begin_all fs bs xs are.1 begin.1)

-- as many
pub as_many : (fs : List FlightContents) (bs : List Beginning) → AllBegin fs bs → length fs ≡ length bs
as_many [] [] all = λ i. 0
as_many [] (b ∷ bs) all = absurd all
as_many (f ∷ fs) [] all = absurd all
as_many (f ∷ fs) (b ∷ bs) all = let e = as_many fs bs all.1 in omega (arith, e)
