-- Printable ASCII is text.
use Rattle.std.proofs.Common.{◌≡◌, ℕ, zero, suc, ◌<◌, ◌&&◌, Bool, true, false, List, [], ◌∷◌, refl, arith}
use Rattle.std.specs.Prelude.{nat_le, slice_index, IsUtf8}
use Rattle.std.specs.Str.{IsAscii}
use Rattle.std.proofs.lemmas.Str.{IsUtf8-from_ascii}
use Rattle.std.proofs.lemmas.Bool.Decides.{nat_tests}
use Rattle.std.specs.Char.{is_ascii_digit}
use Rattle.std.specs.List.{list_all}
use Rattle.transfer.specs.Fields.{is_printable}

both : (a b : Bool) → (a && b) ≡ true → (a ≡ true) × (b ≡ true)
both true b e = (refl, e)
both false b e = absurd cc

small : (b : ℕ) → (nat_le 32 b && nat_le b 126) ≡ true → b < 128
small b e = let most : nat_le b 126 ≡ true = (both (nat_le 32 b) (nat_le b 126) e).1 in grind (arith, nat_tests)

pub is_ascii : (field : List ℕ) → is_printable field ≡ true → IsAscii field
is_ascii [] e i = omega arith
is_ascii (b ∷ bs) e zero = small b (both (nat_le 32 b && nat_le b 126) (is_printable bs) e).0
is_ascii (b ∷ bs) e (suc i) = is_ascii bs (both (nat_le 32 b && nat_le b 126) (is_printable bs) e).1 i

pub is_text : (field : List ℕ) → is_printable field ≡ true → IsUtf8 field
is_text field e = IsUtf8-from_ascii field (is_ascii field e)

digit : (b : ℕ) → is_ascii_digit b ≡ true → (nat_le 32 b && nat_le b 126) ≡ true
digit b e = grind (arith, nat_tests)

join : (a b : Bool) → a ≡ true → b ≡ true → (a && b) ≡ true
join true true p q = refl
join true false p q = absurd cc
join false b p q = absurd cc

-- digits are printable
pub digits_are : (field : List ℕ) → list_all is_ascii_digit field ≡ true → is_printable field ≡ true
digits_are [] e = refl
digits_are (b ∷ bs) e = join (nat_le 32 b && nat_le b 126) (is_printable bs) (digit b (both (is_ascii_digit b) (list_all is_ascii_digit bs) e).0) (digits_are bs (both (is_ascii_digit b) (list_all is_ascii_digit bs) e).1)
