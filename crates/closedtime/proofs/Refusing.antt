-- What the law of `refused` rests on besides the clause that it speaks of.
use Rattle.std.proofs.Common.{◌≡◌, ℕ, ◌≤◌, ◌<◌, ℤ, pos, negsuc, max, true, false, nat_le, if◌then◌else◌, Option, Some, None, arith}
use Rattle.std.specs.Prelude.{IfSome}
use Rattle.model.specs.Stamps.{TIME_LAST, above, greater, stamp}

pub if_some : {A : Type 0} (r : Option A) (F G : A → Type 0) → IfSome r F → ((a : A) → F a → G a) → IfSome r G
if_some (Some a) F G f map = map a f
if_some None F G f map = tt

stamp_least : (reading : ℤ) (least : ℕ) → least ≤ stamp reading least
stamp_least (pos reading) least = elim (nat_le reading TIME_LAST) as (λ b. least ≤ (if b then max reading least else least)) [ true ↦ omega arith | false ↦ omega arith ]
stamp_least (negsuc n) least = omega arith

over_last : (last : ℕ) (floor : Option ℕ) → last < above (greater (Some last) floor)
over_last last None = omega arith
over_last last (Some floor) = omega arith

over_floor : (last : Option ℕ) (floor : ℕ) → floor < above (greater last (Some floor))
over_floor None floor = omega arith
over_floor (Some last) floor = omega arith

pub above_last : (reading : ℤ) (last floor : Option ℕ) (t before : ℕ) → t ≡ stamp reading (above (greater last floor)) → last ≡ Some before → before < t
above_last reading last floor t before is ends =
    let over : before < above (greater last floor) = rw ends (over_last before floor) in
    omega (arith, is, over, stamp_least reading (above (greater last floor)))

pub above_floor : (reading : ℤ) (last floor : Option ℕ) (t before : ℕ) → t ≡ stamp reading (above (greater last floor)) → floor ≡ Some before → before < t
above_floor reading last floor t before is own =
    let over : before < above (greater last floor) = rw own (over_floor last before) in
    omega (arith, is, over, stamp_least reading (above (greater last floor)))
