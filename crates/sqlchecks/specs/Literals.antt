-- What literals, dates and timestamps are as values, and their refusals: 13 where another type is wanted, 16 where there is no such value.
use Rattle.std.specs.Prelude.{ℕ, ◌&&◌, not, if◌then◌else◌, ◌==◌, nat_lt, nat_le, List, [], ◌∷◌, length, Option, Some, None, Result, Ok, Err, ℤ, pos, neg_ℤ, find, bytes_eq}
use Rattle.std.specs.List.{range_with_len}
use Rattle.std.specs.Str.Parse.{digits_value}
use mathlib.Core.Logic.{inl, inr}
use Rattle.fault.specs.declared.refusal.Refusal.{Refusal}
use Rattle.fault.specs.declared.refusal.Refusal.TheVariants.{WrongType, EmptyPeriod, OutOfRange}
use Rattle.period.specs.Day.{day_text}
use Rattle.period.specs.Instant.{instant_text}
use Rattle.model.specs.declared.value.Value.{Value as RowValue}
use Rattle.model.specs.declared.value.Value.TheVariants as value
use Rattle.model.specs.Tables.{Period}
use Rattle.schema.specs.declared.table.Kind.{Kind}
use Rattle.schema.specs.declared.table.Kind.TheVariants.{Integer, Varchar, Date}
use Rattle.namesyntax.specs.Names.{Bytes}
use Rattle.sqlsyntax.specs.Shared.{LiteralForm}
use Rattle.sqlchecks.specs.Answering.{◌>>=◌, ◌>>◌, refuse_if, or_refuse}

-- a whole number of 64 bits, or none
unfoldable pub unsigned : ℕ → Option ℕ
unsigned n = if nat_lt n 18_446_744_073_709_551_616 then Some n else None

-- a whole number of 64 bits with a sign
unfoldable pub signed : Option (Unit {0}) → ℕ → Result ℤ Refusal
signed None n = if nat_lt n 9_223_372_036_854_775_808 then Ok (pos n) else Err OutOfRange
signed (Some minus) n = if nat_le n 9_223_372_036_854_775_808 then Ok (neg_ℤ (pos n)) else Err OutOfRange

-- the number below n whose text this is
unfoldable pub named : (ℕ → List ℕ) → ℕ → List ℕ → Option ℕ
named text_of n text = find (λ k. bytes_eq (text_of k) text) (range_with_len 0 n)

-- a day from 0001-01-01, which is 0, to 9999-12-31
unfoldable pub day_named : Bytes → Result ℕ Refusal
day_named text = or_refuse OutOfRange (named day_text 3_652_059 text)

-- an instant from 1970-01-01 00:00:00, which is 0, to 9999-12-30 23:59:59.999999, in microseconds
unfoldable pub instant_named : Bytes → Result ℕ Refusal
instant_named text = or_refuse OutOfRange (named instant_text 253_402_214_400_000_000 text)

-- the days from one to another: 16 for each of the two, then 15 where there is none between
unfoldable pub period_named : Bytes → Bytes → Result Period Refusal
period_named from to = do
  start ← day_named from
  end ← day_named to
  refuse_if (not (nat_lt start end)) EmptyPeriod
  Ok (record { start = start; end = end })

-- with one quote for each two
unfoldable pub undoubled : Bytes → Bytes
undoubled [] = []
undoubled (b ∷ []) = b ∷ []
undoubled (b ∷ c ∷ bs) = if b == 39 && c == 39 then 39 ∷ undoubled bs else b ∷ undoubled (c ∷ bs)

-- at most so many bytes
unfoldable pub text_within : ℕ → Bytes → Result Bytes Refusal
text_within most text = if nat_le (length text) most then Ok text else Err OutOfRange

-- a literal as the value of a column of this kind
unfoldable pub literal_in : Kind → LiteralForm → Result RowValue Refusal
literal_in Date (inl text) = day_named text >>= λ d. Ok (value.Day d)
literal_in (Varchar most) (inr (inl text)) = text_within most (undoubled text) >>= λ t. Ok (value.Text t)
literal_in Integer (inr (inr (minus, digits))) = signed minus (digits_value 10 digits) >>= λ n. Ok (value.Number n)
literal_in kind literal = Err WrongType
