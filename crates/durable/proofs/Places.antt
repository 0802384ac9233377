-- Rows by their number.
use Rattle.std.proofs.Common.{◌≡◌, ℕ, ◌+◌, ◌<◌, ℤ, pos, negsuc, List, [], ◌∷◌, ◌++◌, length, cond, Bool, true, false, refl, ap, ◌∙◌, arith}
use Rattle.std.proofs.lemmas.Int.{ints}
use Rattle.std.proofs.lemmas.Bool.Decides.{nat_tests}
use Rattle.std.specs.declared.cmp.Ordering.TheVariants.{Less}
use Rattle.sqlite.specs.declared.types.Value.{Value}
use Rattle.sqlite.specs.declared.types.Value.TheVariants.{Null, Int}
use Rattle.sqlite.specs.Order.{value_cmp}
use Rattle.sqlite.specs.Ops.{unary}
use Rattle.sqlite.specs.Tree.{put_row}
use Rattle.sqlite.specs.Cast.{cast}
use Rattle.sqlite.specs.Kind.TheVariants.{Integer}
use Rattle.sqlite_value.proofs.OrderLemmas.{value_cmp-Int}
use Rattle.durable.specs.Contents.{Item}
use Rattle.durable.specs.Rows.{entry_row, log_rows}

pub lower_id : (m n : ℕ) → m < n → value_cmp (Int (pos m)) (Int (pos n)) ≡ Less
lower_id m n h = value_cmp-Int (pos m) (pos n) ∙ grind (arith, ints, nat_tests)

-- a row above all others goes last
pub put_next : (i j : ℕ) (es : List Item) (e : Item) → j ≡ i + length es → put_row (entry_row j e) (log_rows i es) ≡ log_rows i (es ++ e ∷ [])
put_next i j [] e is = ap (λ k. entry_row k e ∷ []) (omega arith)
put_next i j (x ∷ es) e is = let low : i < j = omega arith in rw (lower_id i j low) (ap (λ rows. entry_row i x ∷ rows) (put_next (i + 1) j es e (omega arith)))

either : (b : Bool) (x : Value) → cond b x x ≡ x
either true x = refl
either false x = refl

pub cast_int : (n : ℕ) → cast Integer (Int (pos n)) ≡ Int (pos n)
unfolding unary
cast_int n = either _ _

pub cast_null : cast Integer Null ≡ Null
unfolding unary
cast_null = either _ _

pub cast_whole : (n : ℤ) → cast Integer (Int n) ≡ Int n
unfolding unary
cast_whole (pos n) = either _ _
cast_whole (negsuc n) = either _ _

pub zero_one : (◌≡◌ {A = ℕ} 0 1) → ⊥
zero_one e = absurd (omega arith)

pub one_zero : (◌≡◌ {A = ℕ} 1 0) → ⊥
one_zero e = absurd (omega arith)

pub zero_two : (◌≡◌ {A = ℕ} 0 2) → ⊥
zero_two e = absurd (omega arith)

pub one_two : (◌≡◌ {A = ℕ} 1 2) → ⊥
one_two e = absurd (omega arith)

pub two_zero : (◌≡◌ {A = ℕ} 2 0) → ⊥
two_zero e = absurd (omega arith)

pub two_one : (◌≡◌ {A = ℕ} 2 1) → ⊥
two_one e = absurd (omega arith)

pub one_more : (n : ℕ) → n + 1 ≡ 1 + n
one_more n = omega arith
