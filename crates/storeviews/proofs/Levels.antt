-- Two times, compared.
use Rattle.std.proofs.Common.{◌≡◌, ℕ, ◌<◌, ◌≤◌, max, Some, ap, arith}

some_same : (a b : ℕ) → Some a ≡ Some b → a ≡ b
some_same a b h = cc h

pub is_above : (s c : ℕ) → c < s → Some (max s c) ≡ Some c → ⊥
is_above s c less h = let same : max s c ≡ c = some_same (max s c) c h in omega (arith, less, same)

pub is_level : (s c : ℕ) → s ≤ c → Some (max s c) ≡ Some c
is_level s c low = let most : max s c ≡ c = omega (arith, low) in ap Some most
