-- What the matches of a command line, as `clap`'s own definitions have them, give an argument.
use Rattle.std.specs.Prelude.{◌≡◌, ◌<◌, ◌^◌, ℕ, Bool, List, Option, Some, None, codes, true, false}
use Rattle.std.specs.Str.Parse.{IsNumeral, digits_value, without_leading_plus}
use Rattle.clap.specs.Walk.{Row, Text, one_of}

-- the matches give the option a decimal numeral of this number
pub record GivesNumber (id : Text) (rows : List Row) (n : ℕ) : Type 0 where
  pub text : Text
  pub given : one_of id rows ≡ Some text
  pub numeral : IsNumeral 10 (without_leading_plus text)
  pub value : digits_value 10 (without_leading_plus text) ≡ n

-- the matches give the option this number; or none, where they give it no number of 64 bits
abbrev pub GivesLine : Text → List Row → Option ℕ → Type 0
GivesLine id rows None = (n : ℕ) → n < 2 ^ 64 → ¬ GivesNumber id rows n
GivesLine id rows (Some n) = GivesNumber id rows n

-- the matches give the flag this value: it is on where it is used
pub record GivesFlag (id : Text) (rows : List Row) (is_on : Bool) : Type 0 where
  pub unused : one_of id rows ≡ None → is_on ≡ false
  pub off : one_of id rows ≡ Some (codes "false") → is_on ≡ false
  pub on : one_of id rows ≡ Some (codes "true") → is_on ≡ true
