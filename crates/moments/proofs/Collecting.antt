-- Answers of flights, one node more at a time.
use Rattle.std.proofs.Common.{◌≡◌, ◌≤◌, ◌<◌, ◌+◌, ◌∙◌, ℕ, suc, List, [], ◌∷◌, ◌++◌, length, get_or, map, take, ap, sym, arith, append_assoc}
use Rattle.std.specs.declared.vec.Vec.{Vec}
use Rattle.std.specs.declared.alloc.Global.{Global}
use Rattle.std.proofs.lemmas.List.{append-nil, length-take-le, take_more}
use Rattle.flight.specs.declared.flight.Answered.{Answered}
use Rattle.moments.specs.Judged.{judged_of, judged_from}

judged_append : (node : ℕ) (xs : List (Vec Answered Global)) (own : Vec Answered Global) → judged_from node (xs ++ own ∷ []) ≡ judged_from node xs ++ map (judged_of (length xs + node)) own.items
judged_append node [] own =
    let same : node ≡ 0 + node = omega arith in
    append-nil (map (judged_of node) own.items) ∙ ap (λ m. map (judged_of m) own.items) same
judged_append node (x ∷ xs) own =
    let rest : judged_from (suc node) (xs ++ own ∷ []) ≡ judged_from (suc node) xs ++ map (judged_of (length xs + suc node)) own.items = judged_append (suc node) xs own in
    let at : length xs + suc node ≡ suc (length xs) + node = omega arith in
    ap (λ ys. map (judged_of node) x.items ++ ys) rest ∙ (ap (λ m. map (judged_of node) x.items ++ (judged_from (suc node) xs ++ map (judged_of m) own.items)) at ∙ sym (append_assoc (map (judged_of node) x.items) (judged_from (suc node) xs) (map (judged_of (suc (length xs) + node)) own.items)))

-- one node more
pub judged_more : (xs : List (Vec Answered Global)) (i : ℕ) (own : Vec Answered Global) → i < length xs → own ≡ get_or xs i own
    → judged_from 1 (take (i + 1) xs) ≡ judged_from 1 (take i xs) ++ map (judged_of (i + 1)) own.items
judged_more xs i own less is =
    let less' : i ≤ length xs = omega (arith, less) in
    let grown : take (i + 1) xs ≡ take i xs ++ own ∷ [] = take_more xs i own less ∙ ap (λ x. take i xs ++ x ∷ []) (sym is) in
    ap (judged_from 1) grown ∙ (judged_append 1 (take i xs) own ∙ ap (λ n. judged_from 1 (take i xs) ++ map (judged_of (n + 1)) own.items) (length-take-le i xs less'))
