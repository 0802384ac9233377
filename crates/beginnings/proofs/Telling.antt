-- The lines of nodes, one more.
use Rattle.std.proofs.Common.{◌≡◌, ◌∙◌, ℕ, ◌+◌, ◌<◌, ◌≤◌, List, [], ◌∷◌, ◌++◌, length, take, get_or, refl, sym, ap, arith, append_assoc, append-nil}
use Rattle.std.proofs.lemmas.List.{take_more, length-take-le}
use Rattle.beginnings.specs.Words.{node_line, node_lines}
use Rattle.beginnings.specs.declared.beginning.Found.{Found}

lines_push : (node : ℕ) (xs : List Found) (x : Found) → node_lines node (xs ++ x ∷ []) ≡ node_lines node xs ++ node_line (length xs + node) x
lines_push node [] x =
    let at : node ≡ 0 + node = omega arith in
    append-nil (node_line node x) ∙ ap (λ n. node_line n x) at
lines_push node (y ∷ xs) x =
    let at : length xs + (node + 1) ≡ length (y ∷ xs) + node = omega arith in
    ap (λ l. node_line node y ++ l) (lines_push (node + 1) xs x)
    ∙ (sym (append_assoc (node_line node y) (node_lines (node + 1) xs) (node_line (length xs + (node + 1)) x)) ∙ ap (λ n. (node_line node y ++ node_lines (node + 1) xs) ++ node_line n x) at)

-- one node more
pub lines_more : (xs : List Found) (i : ℕ) (d : Found) → i < length xs → node_lines 1 (take (i + 1) xs) ≡ node_lines 1 (take i xs) ++ node_line (i + 1) (get_or xs i d)
lines_more xs i d less =
    let few : i ≤ length xs = omega (arith, less) in
    let x = get_or xs i d in
    ap (node_lines 1) (take_more xs i d less) ∙ (lines_push 1 (take i xs) x ∙ ap (λ n. node_lines 1 (take i xs) ++ node_line (n + 1) x) (length-take-le i xs few))
