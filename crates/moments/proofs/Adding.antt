-- Moments as they are listed, one more at a time.
use Rattle.std.proofs.Common.{◌≡◌, ◌∙◌, ℕ, ◌+◌, List, [], ◌∷◌, ◌++◌, length, sym, ap, append_assoc, append-nil, arith, take, get_or, ◌<◌}
use Rattle.std.proofs.lemmas.List.{take_more}
use Rattle.std.specs.declared.vec.Vec.{Vec}
use Rattle.std.specs.declared.alloc.Global.{Global}
use Rattle.flight.specs.Lives.{last_mark}
use Rattle.flight.specs.declared.life.Life.{Life}
use Rattle.flight.specs.declared.life.Step.{Step}
use Rattle.moments.specs.declared.moment.Deed.TheVariants.{Takes}
use Rattle.moments.specs.declared.moment.Moment.{Moment}
use Rattle.moments.specs.declared.recorded.Recorded.{Recorded}
use Rattle.moments.specs.Moments.{step_moments, life_moments, deed_moments, answer_moment, answer_moments, end_moments, stop_moments, node_moments, listed, stray_moment, stray_moments}

pub steps_more : (node life k : ℕ) (xs : List Step) (x : Step) → step_moments node life k (xs ++ x ∷ []) ≡ step_moments node life k xs ++ record { mark = x.mark; node = node; deed = Takes life (k + length xs) } ∷ []
steps_more node life k [] x = ap (λ i. record { mark = x.mark; node = node; deed = Takes life i } ∷ []) (omega arith)
steps_more node life k (y ∷ xs) x = ap (λ ms. record { mark = y.mark; node = node; deed = Takes life k } ∷ ms) (steps_more node life (k + 1) xs x ∙ ap (λ i. step_moments node life (k + 1) xs ++ record { mark = x.mark; node = node; deed = Takes life i } ∷ []) (omega (arith, length xs)))

pub deeds_more : (node k : ℕ) (xs : List Life) (x : Life) → deed_moments node k (xs ++ x ∷ []) ≡ deed_moments node k xs ++ life_moments node (k + length xs) x
deeds_more node k [] x = append-nil (life_moments node k x) ∙ ap (λ i. life_moments node i x) (omega arith)
deeds_more node k (y ∷ xs) x = ap (λ ms. life_moments node k y ++ ms) (deeds_more node (k + 1) xs x ∙ ap (λ i. deed_moments node (k + 1) xs ++ life_moments node i x) (omega arith)) ∙ sym (append_assoc (life_moments node k y) (deed_moments node (k + 1) xs) (life_moments node (k + length (y ∷ xs)) x))

pub answers_more : (node k : ℕ) (xs : List Recorded) (x : Recorded) → answer_moments node k (xs ++ x ∷ []) ≡ answer_moments node k xs ++ answer_moment node (k + length xs) x
answers_more node k [] x = append-nil (answer_moment node k x) ∙ ap (λ i. answer_moment node i x) (omega arith)
answers_more node k (y ∷ xs) x = ap (λ ms. answer_moment node k y ++ ms) (answers_more node (k + 1) xs x ∙ ap (λ i. answer_moments node (k + 1) xs ++ answer_moment node i x) (omega arith)) ∙ sym (append_assoc (answer_moment node k y) (answer_moments node (k + 1) xs) (answer_moment node (k + length (y ∷ xs)) x))

pub stops_more : (node k : ℕ) (xs : List Life) (x : Life) → stop_moments node k (xs ++ x ∷ []) ≡ stop_moments node k xs ++ end_moments node (k + length xs) (last_mark x) x.ending
stops_more node k [] x = append-nil (end_moments node k (last_mark x) x.ending) ∙ ap (λ i. end_moments node i (last_mark x) x.ending) (omega arith)
stops_more node k (y ∷ xs) x =
    let first = end_moments node k (last_mark y) y.ending in
    ap (λ ms. first ++ ms) (stops_more node (k + 1) xs x ∙ ap (λ i. stop_moments node (k + 1) xs ++ end_moments node i (last_mark x) x.ending) (omega arith)) ∙ sym (append_assoc first (stop_moments node (k + 1) xs) (end_moments node (k + length (y ∷ xs)) (last_mark x) x.ending))

pub listed_more : (answers : List Recorded) (node : ℕ) (xs : List (Vec Life Global)) (x : Vec Life Global) → listed answers node (xs ++ x ∷ []) ≡ listed answers node xs ++ node_moments answers (node + length xs) x.items
listed_more answers node [] x = append-nil (node_moments answers node x.items) ∙ ap (λ i. node_moments answers i x.items) (omega arith)
listed_more answers node (y ∷ xs) x =
    let first = node_moments answers node y.items in
    ap (λ ms. first ++ ms) (listed_more answers (node + 1) xs x ∙ ap (λ i. listed answers (node + 1) xs ++ node_moments answers i x.items) (omega arith)) ∙ sym (append_assoc first (listed answers (node + 1) xs) (node_moments answers (node + length (y ∷ xs)) x.items))

pub strays_more : (n k : ℕ) (xs : List Recorded) (x : Recorded) → stray_moments n k (xs ++ x ∷ []) ≡ stray_moments n k xs ++ stray_moment n (k + length xs) x
strays_more n k [] x = append-nil (stray_moment n k x) ∙ ap (λ i. stray_moment n i x) (omega arith)
strays_more n k (y ∷ xs) x = ap (λ ms. stray_moment n k y ++ ms) (strays_more n (k + 1) xs x ∙ ap (λ i. stray_moments n (k + 1) xs ++ stray_moment n i x) (omega arith)) ∙ sym (append_assoc (stray_moment n k y) (stray_moments n (k + 1) xs) (stray_moment n (k + length (y ∷ xs)) x))

-- a loop that lists the piece of one more element
pub one_more : {X : Type 0} (f : List X → List Moment) (i : ℕ) (xs : List X) (x : X) (piece start cur new : List Moment) → i < length xs → x ≡ get_or xs i x →
    f (take i xs ++ x ∷ []) ≡ f (take i xs) ++ piece → cur ≡ start ++ f (take i xs) → new ≡ cur ++ piece → new ≡ start ++ f (take (i + 1) xs)
one_more f i xs x piece start cur new within at adds so is =
    is ∙ ap (λ ms. ms ++ piece) so ∙ append_assoc start (f (take i xs)) piece ∙ ap (λ ms. start ++ ms) (sym (ap f (take_more xs i x within ∙ ap (λ y. take i xs ++ y ∷ []) (sym at)) ∙ adds))

pub from_zero : (n : ℕ) → 0 + n ≡ n
from_zero n = omega arith
