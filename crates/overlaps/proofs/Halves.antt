-- How many halves a search goes through.
use Rattle.std.proofs.Common.{ℕ, zero, suc, ◌+◌, ◌^◌, ◌<◌, ◌≤◌, arith}

-- so many items are left that so many reads more are within what the digits allow
abbrev pub AreWithin : (left reads most : ℕ) → Type 0
AreWithin left reads most = (m : ℕ) × (left < 2 ^ m) × (reads + m ≤ most)

pub halved : (left next reads after most : ℕ) → 0 < left → next + next ≤ left → after ≤ suc reads → AreWithin left reads most → AreWithin next after most
halved left next reads after most some half once (zero, short, few) = absurd (omega arith)
halved left next reads after most some half once (suc m, short, few) = (m, omega arith, omega arith)
