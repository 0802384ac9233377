-- Lines of two calls.
use Rattle.std.proofs.Common.{◌≡◌, ◌∙◌, List, [], ◌∷◌, ◌++◌, flat_map, refl, sym, ap, append-nil, append_assoc}
use Rattle.journal.specs.declared.line.Line.{Line}
use Rattle.store.specs.Lines.{Lines, and_then, behind, lines_in, no_lines, rest_behind}

-- the rest of the first call is in the first block of the second
lines_joined : (one : List (List Line)) (rest : List Line) (two : List (List Line)) (more : List Line)
    → flat_map (λ (group : List Line). group) (one ++ behind rest two) ++ rest_behind rest two more ≡ (flat_map (λ (group : List Line). group) one ++ rest) ++ (flat_map (λ (group : List Line). group) two ++ more)
lines_joined [] rest [] more = refl
lines_joined [] rest (group ∷ two) more = append_assoc (rest ++ group) (flat_map (λ (group : List Line). group) two) more ∙ append_assoc rest group (flat_map (λ (group : List Line). group) two ++ more)
    ∙ ap (λ (x : List Line). rest ++ x) (sym (append_assoc group (flat_map (λ (group : List Line). group) two) more))
lines_joined (group ∷ one) rest two more =
    append_assoc group (flat_map (λ (group : List Line). group) (one ++ behind rest two)) (rest_behind rest two more)
    ∙ ap (λ (x : List Line). group ++ x) (lines_joined one rest two more)
    ∙ sym (append_assoc group (flat_map (λ (group : List Line). group) one ++ rest) (flat_map (λ (group : List Line). group) two ++ more))
    ∙ ap (λ (x : List Line). x ++ (flat_map (λ (group : List Line). group) two ++ more)) (sym (append_assoc group (flat_map (λ (group : List Line). group) one) rest))

pub lines_then : (one two : Lines) → lines_in (and_then one two) ≡ lines_in one ++ lines_in two
lines_then one two = lines_joined one.groups one.rest two.groups two.rest

-- no block was written in the first call where none was in both
pub none_first : (one two : List (List Line)) → one ++ two ≡ [] → one ≡ []
none_first [] two none = refl
none_first (group ∷ one) two none = absurd (cc none)

-- nothing more
pub then_none : (lines : Lines) → and_then lines no_lines ≡ lines
then_none lines = ap (λ (groups : List (List Line)). let l : Lines = record { groups = groups; rest = lines.rest ++ [] } in l) (append-nil lines.groups)
    ∙ ap (λ (rest : List Line). let l : Lines = record { groups = lines.groups; rest = rest } in l) (append-nil lines.rest)

pub some_behind : (one : List (List Line)) (group : List Line) (two : List (List Line)) → one ++ group ∷ two ≡ [] → ⊥
some_behind [] group two none = cc none
some_behind (first ∷ one) group two none = cc none
