-- The members as they are started, one after another.
use Rattle.std.proofs.Common.{◌≡◌, ◌∙◌, ℕ, ◌+◌, ⊎_elim, Some, List, [], ◌∷◌, ◌++◌, length, replicate, slice_get, sym, ap, subst}
use Rattle.std.proofs.lemmas.List.{replicate-append-replicate}
use Rattle.sqlchecks.specs.Columns.{Tables}
use Rattle.model.specs.Members.{Node}
use Rattle.world.specs.declared.seat.Seat.{Seat}
use Rattle.world.specs.View.{node_in, nodes_of, IsSeat}
use Rattle.world.proofs.Lists.{map_append, push_get}

-- one more member
pub each_push : (t : Tables) (n i : ℕ) (xs ys : List Seat) (x : Seat) → length xs ≡ i → ys ≡ xs ++ x ∷ [] →
    ((k : ℕ) (s : Seat) → slice_get xs k ≡ Some s → IsSeat t n (k + 1) s) → IsSeat t n (i + 1) x →
    (k : ℕ) (s : Seat) → slice_get ys k ≡ Some s → IsSeat t n (k + 1) s
each_push t n i xs ys x count is each new k s e =
    let P : ℕ → Type 0 = λ j. IsSeat t n (j + 1) s in
    ⊎_elim (λ (h : slice_get xs k ≡ Some s). each k s h)
    (λ (h : (k ≡ length xs) × (x ≡ s)). subst P (sym (h.0 ∙ count)) (let Q : Seat → Type 0 = λ v. IsSeat t n (i + 1) v in subst Q h.1 new))
    (push_get xs x s k (ap (λ (zs : List Seat). slice_get zs k) (sym is) ∙ e))

pub nodes_push : (i : ℕ) (xs ys : List Seat) (x : Seat) (y : Node) → ys ≡ xs ++ x ∷ [] → nodes_of xs ≡ replicate i y → node_in x ≡ y → nodes_of ys ≡ replicate (i + 1) y
nodes_push i xs ys x y is all new =
    ap nodes_of is ∙ map_append node_in xs (x ∷ []) ∙ ap (λ zs. zs ++ node_in x ∷ []) all ∙ ap (λ z. replicate i y ++ z ∷ []) new ∙ replicate-append-replicate i 1 y
