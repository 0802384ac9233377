-- What a field is as a value of a column, and how a value is written in a statement.
use Rattle.std.specs.Prelude.{ℕ, Bool, not, ◌&&◌, ◌==◌, nat_le, if◌then◌else◌, List, ◌++◌, length, drop, slice_index, Result, Ok, Err, codes}
use Rattle.std.specs.Char.{is_ascii_digit}
use Rattle.std.specs.List.{list_all}
use mathlib.Core.Logic.{inl, inr}
use Rattle.fault.specs.declared.refusal.Refusal.{Refusal}
use Rattle.fault.specs.declared.refusal.Refusal.TheVariants.{WrongType, NotAssignable, OutOfRange}
use Rattle.model.specs.declared.value.Value.{Value}
use Rattle.model.specs.declared.value.Value.TheVariants.{Number, Text, Day}
use Rattle.model.specs.Texts.{value_text}
use Rattle.schema.specs.declared.table.Kind.{Kind}
use Rattle.schema.specs.declared.table.Kind.TheVariants.{Integer, Varchar, Date}
use Rattle.sqlsyntax.specs.Shared.{minus}
use Rattle.sqlchecks.specs.Literals.{literal_in}
use Rattle.transfer.specs.Lines.{Bytes}

-- each byte is printable ASCII
abbrev pub is_printable : Bytes → Bool
is_printable field = list_all (λ b. nat_le 32 b && nat_le b 126) field

-- it begins with `-`, which is 45
abbrev pub is_negative : Bytes → Bool
is_negative field = slice_index field 0 == 45

-- what follows the minus, if one is there
abbrev pub magnitude : Bytes → Bytes
magnitude field = if is_negative field then drop 1 field else field

-- one digit or more
abbrev pub are_digits : Bytes → Bool
are_digits field = not (length field == 0) && list_all is_ascii_digit field

-- digits with a minus or none, as the literal of a statement
unfoldable pub number_in : Bytes → Result Value Refusal
number_in field = if are_digits (magnitude field) then literal_in Integer (inr (inr (minus (is_negative field), magnitude field))) else Err WrongType

-- the field itself, of at most so many bytes
unfoldable pub text_in : ℕ → Bytes → Result Value Refusal
text_in most field = if nat_le (length field) most then Ok (Text field) else Err OutOfRange

-- as a value of a column of this kind: 13 where digits are wanted and it has others, 16 where the column has no such value
abbrev pub printable_value : Kind → Bytes → Result Value Refusal
printable_value Integer field = number_in field
printable_value (Varchar most) field = text_in most field
printable_value Date field = literal_in Date (inl field)
printable_value kind field = Err NotAssignable

unfoldable pub field_value : Kind → Bytes → Result Value Refusal
field_value kind field = if is_printable field then printable_value kind field else Err OutOfRange

-- the literal of a value
abbrev pub literal_text : Value → Bytes
literal_text (Number n) = value_text (Number n)
literal_text (Text t) = value_text (Text t)
literal_text (Day d) = codes "DATE '" ++ value_text (Day d) ++ codes "'"
