-- The end of a log, entry by entry.
use Rattle.std.proofs.Common.{◌≡◌, ℕ, zero, suc, ◌+◌, ◌≤◌, Option, Some, option_map, slice_get, List, [], ◌∷◌, ◌++◌, length, take, drop, add-one, arith, refl, sym, ap, ◌∙◌}
use Rattle.model.specs.declared.entry.Entry.{Entry}
use Rattle.durable.specs.Contents.{Item, entry_in, entries_in}

pub found_in : (xs : List Item) (i : ℕ) → slice_get (entries_in xs) i ≡ option_map entry_in (slice_get xs i)
found_in [] i = refl
found_in (x ∷ xs) zero = refl
found_in (x ∷ xs) (suc i) = found_in xs i

one_further : (ys : List Entry) (before i : ℕ) (e : Entry) → before ≤ i → slice_get ys i ≡ Some e → drop before (take (suc i) ys) ≡ drop before (take i ys) ++ e ∷ []
one_further [] before i e low is = absurd cc
one_further (y ∷ ys) zero zero e low is = let same : y ≡ e = cc in ap (λ x. x ∷ []) same
one_further (y ∷ ys) (suc before) zero e low is = absurd (omega arith)
one_further (y ∷ ys) zero (suc i) e low is = ap (λ l. y ∷ l) (one_further ys zero i e (omega arith) is)
one_further (y ∷ ys) (suc before) (suc i) e low is = one_further ys before i e (omega arith) is

all_taken : (ys : List Entry) → take (length ys) ys ≡ ys
all_taken [] = refl
all_taken (y ∷ ys) = ap (λ l. y ∷ l) (all_taken ys)

entries_long : (xs : List Item) → length (entries_in xs) ≡ length xs
entries_long [] = refl
entries_long (x ∷ xs) = ap suc (entries_long xs)

pub tail_more : (xs : List Item) (before i : ℕ) (e : Entry) (old new : List Entry) → before ≤ i → ◌≡◌ {A = Option Entry} (Some e) (option_map entry_in (slice_get xs i)) → old ≡ drop before (take i (entries_in xs)) → new ≡ old ++ e ∷ []
    → new ≡ drop before (take (i + 1) (entries_in xs))
tail_more xs before i e old new low is so_far more =
    more ∙ ap (λ l. l ++ e ∷ []) so_far ∙ sym (one_further (entries_in xs) before i e low (found_in xs i ∙ sym is)) ∙ ap (λ n. drop before (take n (entries_in xs))) (sym (add-one i))

pub tail_whole : (xs : List Item) (before i : ℕ) (items : List Entry) → i ≡ length xs → items ≡ drop before (take i (entries_in xs)) → items ≡ drop before (entries_in xs)
tail_whole xs before i items end is = is ∙ ap (λ n. drop before (take n (entries_in xs))) (end ∙ sym (entries_long xs)) ∙ ap (drop before) (all_taken (entries_in xs))
