-- What is said of CREATE TABLE statements.
use Rattle.std.proofs.Common.{◌≡◌, ℕ, ◌+◌, ◌<◌, List, [], ◌∷◌, ◌++◌, length, map, take, get_or, sym, ap, ◌∙◌}
use Rattle.std.proofs.lemmas.List.{map-append, take_more}
use Rattle.schema.specs.declared.syntax.CreateTable.{CreateTable}
use Rattle.schemasyntax.specs.Schemas.{TableForm}
use Rattle.schemaread.specs.Schemas.{IsSaid, AreSaid}

one_more : (forms : List TableForm) (tables : List CreateTable) (form : TableForm) (table : CreateTable) → AreSaid forms tables → IsSaid form table → AreSaid (forms ++ form ∷ []) (tables ++ table ∷ [])
one_more [] [] form table are is = (is, tt)
one_more [] (t ∷ ts) form table are is = absurd are
one_more (f ∷ fs) [] form table are is = absurd are
one_more (f ∷ fs) (t ∷ ts) form table are is = (are.0, one_more fs ts form table are.1 is)

pub said_more : {X : Type 0} (form : X → TableForm) (xs : List X) (i : ℕ) (tables : List CreateTable) (x : X) (table : CreateTable) → i < length xs → AreSaid (map form (take i xs)) tables → x ≡ get_or xs i x → IsSaid (form x) table → AreSaid (map form (take (i + 1) xs)) (tables ++ table ∷ [])
said_more {X = X} form xs i tables x table h are at is =
    let more : map form (take (i + 1) xs) ≡ map form (take i xs) ++ form x ∷ [] =
    ap (map form) (take_more xs i x h) ∙ map-append form (take i xs) (get_or xs i x ∷ []) ∙ ap (λ (y : X). map form (take i xs) ++ form y ∷ []) (sym at) in
    rw more (one_more (map form (take i xs)) tables (form x) table are is)
