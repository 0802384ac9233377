-- The one spelling of the line that is kept: `1`, and of each node how many bytes and answers were seen, and their digest. A function
-- spells a value and then what follows it.
use Rattle.std.specs.Prelude.{◌≡◌, ℕ, ◌<◌, List, [], ◌++◌, codes, length, slice_index}
use Rattle.hex.specs.Hex.{encode_lower}
use Rattle.flight.specs.Ranges.{IsNumber}
use Rattle.flight.specs.Spelling.{each_text, number_text}
use Rattle.beginnings.specs.declared.beginning.Beginning.{Beginning}

-- a digest in hex digits of lower case
abbrev pub digest_text : List ℕ → List ℕ → List ℕ
digest_text digest rest = encode_lower digest ++ rest

-- `:`, the bytes, `+`, which is 43, the answers, `-`, which is 45, and the digest
abbrev pub part_text : Beginning → List ℕ → List ℕ
part_text b rest = codes ":" ++ number_text 43 b.bytes (number_text 45 b.answers (digest_text b.digest rest))

-- the whole line
abbrev pub line_text : List Beginning → List ℕ
line_text seen = codes "1" ++ each_text part_text seen []

-- 32 bytes
abbrev pub IsDigest : List ℕ → Type 0
IsDigest digest = (length digest ≡ 32) × ((i : ℕ) → slice_index digest i < 256)

-- what a line can hold
abbrev pub IsKept : Beginning → Type 0
IsKept b = IsNumber b.bytes × IsNumber b.answers × IsDigest b.digest

-- nothing follows
abbrev pub IsOver : List ℕ → Type 0
IsOver rest = rest ≡ []
