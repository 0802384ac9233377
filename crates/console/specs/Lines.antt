-- The lines of an input, and the texts that go over several of them.
use Rattle.std.specs.Prelude.{◌≡◌, ◌≢◌, ◌⊎◌, ◌<◌, ◌==◌, ◌+◌, length, min, slice_get, take, ℕ, zero, suc, Bool, true, false, List, [], ◌∷◌, ◌++◌, Option, Some, IfSome}
use Rattle.std.specs.List.{list_any}
use Rattle.std.specs.Io.Buffered.{reader_remaining}
use Rattle.std.specs.declared.io.buffered.BufReader.{BufReader}
use Rattle.console.specs.declared.line_limit.LineLimit.{LineLimit}
use Rattle.std.specs.Io.BufRead.{DropsThrough, drop_through, ends_with_byte, first_line}
use Rattle.std.specs.Io.KnownBytes.{IsAtEnd}
use Rattle.std.specs.Str.{trim_end}

-- what was left of an input, where that is known, had this line first, and this is left behind it
abbrev pub IsNextLine : Option (List ℕ) → List ℕ → Option (List ℕ) → Type 0
IsNextLine left line behind = IfSome left (λ xs. (xs ≢ []) × (line ≡ first_line xs)) × DropsThrough left behind 10

-- no line was left
abbrev pub IsNoLine : Option (List ℕ) → Option (List ℕ) → Type 0
IsNoLine left behind = IsAtEnd left × DropsThrough left behind 10

-- a line ends among these bytes
abbrev pub has_end : List ℕ → Bool
has_end bytes = list_any (λ byte. byte == 10) bytes

-- what is left of an input behind so many of its lines
abbrev pub behind_lines : ℕ → List ℕ → List ℕ
behind_lines zero xs = xs
behind_lines (suc n) xs = drop_through 10 (behind_lines n xs)

-- a first line, and so many lines of an input behind it
abbrev pub with_lines : List ℕ → ℕ → List ℕ → List ℕ
with_lines first zero xs = first
with_lines first (suc n) xs = with_lines first n xs ++ 10 ∷ first_line (behind_lines n xs)

-- the last of these lines
abbrev pub last_line : List ℕ → ℕ → List ℕ → List ℕ
last_line first zero xs = first
last_line first (suc n) xs = first_line (behind_lines n xs)

-- a line ends with a semicolon, but for blanks behind it
abbrev pub is_ended : List ℕ → Bool
is_ended line = ends_with_byte 59 (trim_end line)

-- a text has a first line and so many lines of an input behind it, and no line before the last one ends so
pub record IsBegun (first xs : List ℕ) (more : ℕ) (text : List ℕ) (behind : Option (List ℕ)) : Type 0 where
  pub spelled : text ≡ with_lines first more xs
  pub left : behind ≡ Some (behind_lines more xs)
  pub each : (n : ℕ) → n < more → (is_ended (last_line first n xs) ≡ false) × (behind_lines n xs ≢ [])

-- and the last one does, or the input is at its end
abbrev pub IsWhole : List ℕ → List ℕ → List ℕ → Option (List ℕ) → Type 0
IsWhole first xs text behind = (more : ℕ) × IsBegun first xs more text behind × ((is_ended (last_line first more xs) ≡ true) ⊎ (behind ≡ Some []))

-- a text is whole, or it begins as the whole one does, where both have over 65536 bytes
abbrev pub IsShortened : List ℕ → List ℕ → Type 0
IsShortened whole text = (text ≡ whole) ⊎ ((65536 < length whole) × (65536 < length text) × (take 65536 text ≡ take 65536 whole))

-- what an input has left, whose lines are limited
abbrev pub left_of : {R A : Type 0} → (R → Option (List ℕ)) → BufReader (LineLimit R) A → Option (List ℕ)
left_of remaining = reader_remaining (λ limit. remaining limit.reader)

-- so many bytes stand behind a line's end, where so many stood there before these came
abbrev pub IsBehindEnd : ℕ → List ℕ → ℕ → Type 0
IsBehindEnd before bytes count = (count ≡ min (before + length bytes) 18446744073709551615) ⊎ ((at : ℕ) × (slice_get bytes at ≡ Some 10) × (at + 1 + count ≡ length bytes))
