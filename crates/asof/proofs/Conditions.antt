-- Conditions in another order.
use Rattle.std.proofs.Common.{◌≡◌, Bool, true, false, ◌&&◌, refl}

pub test_last : (p a b : Bool) → ((a && b) && p) ≡ (p && a && b)
test_last true true true = refl
test_last true true false = refl
test_last true false true = refl
test_last true false false = refl
test_last false true true = refl
test_last false true false = refl
test_last false false true = refl
test_last false false false = refl
