-- Lists of outputs, one more at a time.
use Rattle.std.proofs.Common.{◌≡◌, ◌∙◌, ℕ, zero, suc, ◌+◌, ◌<◌, ◌≤◌, List, [], ◌∷◌, ◌++◌, map, take, length, slice_index_or, refl, sym, ap, arith, add-one}
use Rattle.std.proofs.lemmas.List.{take_all}
use Rattle.model.specs.declared.message.Message.{Message}
use Rattle.model.specs.Worlds.{numbered}
use Rattle.model.specs.Worlds.Output.{Sent}
use Rattle.world.specs.declared.output.Output.{Output as Out}
use Rattle.world.specs.declared.output.Output.TheVariants.{Sent as SentOut}
use Rattle.world.specs.View.{output_of, outputs_of}

more : (ms : List Message) (k i : ℕ) (m : Message) → i < length ms → m ≡ slice_index_or ms i m → numbered k (take (suc i) ms) ≡ numbered k (take i ms) ++ Sent (k + i + 1) m ∷ []
more [] k i m h e = absurd (omega (arith, h))
more (x ∷ xs) k zero m h e = let n : k + 0 + 1 ≡ k + 1 = omega arith in rw (n, e) refl
more (x ∷ xs) k (suc i) m h e = let n : k + suc i + 1 ≡ (k + 1) + i + 1 = omega arith in rw n (ap (λ outs. Sent (k + 1) x ∷ outs) (more xs (k + 1) i m (omega (arith, h)) e))

pub numbered_more : (ms : List Message) (k i n : ℕ) (m : Message) → i < length ms → m ≡ slice_index_or ms i m → n ≡ k + i + 1 → numbered k (take (i + 1) ms) ≡ numbered k (take i ms) ++ Sent n m ∷ []
numbered_more ms k i n m h e is = rw (add-one i, is) (more ms k i m h e)

pub numbered_all : (ms : List Message) (k i : ℕ) → length ms ≤ i → numbered k (take i ms) ≡ numbered k ms
numbered_all ms k i h = rw (take_all i ms h) refl

pub told_more : {A B : Type 0} (f : A → B) (xs : List A) (x : A) → map f (xs ++ x ∷ []) ≡ map f xs ++ f x ∷ []
told_more f [] x = refl
told_more f (y ∷ ys) x = ap (λ zs. f y ∷ zs) (told_more f ys x)

pub one_more : (ms : List Message) (k i n : ℕ) (m : Message) (outs : List Out) → outputs_of outs ≡ numbered k (take i ms) → i < length ms → m ≡ slice_index_or ms i m → n ≡ k + (i + 1) → outputs_of (outs ++ SentOut n m ∷ []) ≡ numbered k (take (i + 1) ms)
one_more ms k i n m outs same lt is at =
    told_more output_of outs (SentOut n m) ∙ ap (λ xs. xs ++ Sent n m ∷ []) same ∙ sym (numbered_more ms k i n m lt is (omega (arith, at)))
