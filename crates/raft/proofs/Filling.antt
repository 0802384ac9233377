-- A list that is made long enough.
use Rattle.std.proofs.Common.{◌≡◌, ℕ, ◌-◌, ◌≤◌, None, List, ◌++◌, length, replicate, arith, append-nil}
use Rattle.std.proofs.Common.{length-append}
use Rattle.std.proofs.lemmas.List.{length-replicate}
use Rattle.model.specs.declared.entry.Entry.{Entry}

abbrev pub nobody : Entry
nobody = record { term = 0; stamp = 0; request = None }

abbrev pub filled : ℕ → List Entry → List Entry
filled n xs = xs ++ replicate (n - length xs) nobody

pub filled_long : (n : ℕ) (xs : List Entry) → n ≤ length (filled n xs)
filled_long n xs = omega (arith, length-append xs (replicate (n - length xs) nobody), length-replicate (n - length xs) nobody)

pub filled_same : (n : ℕ) (xs : List Entry) → n ≤ length xs → filled n xs ≡ xs
filled_same n xs h = let none : n - length xs ≡ 0 = omega (arith, h) in rw none (append-nil xs)
