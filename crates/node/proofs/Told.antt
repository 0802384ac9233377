-- What is told, an entry at a time.
use Rattle.std.proofs.Common.{◌≡◌, ◌∙◌, ℕ, zero, suc, ◌+◌, ◌-◌, ◌≤◌, Option, Some, None, List, [], ◌++◌, slice_range, refl, ap, arith}
use Rattle.std.specs.List.{filter_map, range_with_len, cons_option}
use Rattle.model.specs.declared.entry.Entry.{Entry}
use Rattle.model.specs.declared.entry.Told.{Told}
use Rattle.model.specs.Transactions.{Language}
use Rattle.model.specs.Logs.{told_at}
use Rattle.node.specs.View.{told_between}

pub told_none : (language : Language) (log : List Entry) (before commit : ℕ) → commit ≤ before → told_between language log before commit ≡ []
unfolding told_between
told_none language log before commit h = let e : commit - before ≡ 0 = omega (arith, h) in rw e refl

onto : (o : Option Told) (xs ys : List Told) → cons_option o (xs ++ ys) ≡ cons_option o xs ++ ys
onto None xs ys = refl
onto (Some t) xs ys = refl

more : (f : ℕ → Option Told) (a k j : ℕ) → a + k ≡ j → filter_map f (range_with_len a (suc k)) ≡ filter_map f (range_with_len a k) ++ cons_option (f j) []
more f a zero j e = let same : a ≡ j = omega (arith, e) in ap (λ n. cons_option (f n) []) same
more f a (suc k) j e = ap (cons_option (f a)) (more f (a + 1) k j (omega (arith, e))) ∙ onto (f a) (filter_map f (range_with_len (a + 1) k)) (cons_option (f j) [])

pub between : (language : Language) (log : List Entry) (before i : ℕ) → before ≤ i → told_between language log before (i + 1) ≡ told_between language log before i ++ cons_option (told_at language log (i + 1)) []
unfolding told_between
between language log before i h =
    let e : (i + 1) - before ≡ suc (i - before) = omega (arith, h) in
    rw e (more (told_at language log) (before + 1) (i - before) (i + 1) (omega (arith, h)))

-- no entry is between
pub range_none : (log : List Entry) (before commit : ℕ) → commit ≤ before → slice_range log before commit ≡ []
range_none log before commit h = let e : commit - before ≡ 0 = omega (arith, h) in rw e refl
