-- The bytes of a flight's file that stay as its node goes on.
use Rattle.std.specs.Prelude.{ℕ, ◌-◌, Bool, false, if◌then◌else◌, List, [], ◌++◌, length, take, codes, slice_get, Option, None, Some}
use Rattle.flight.specs.Contents.{FlightContents, LifeContents}
use Rattle.flight.specs.Ranges.{is_up}
use Rattle.flight.specs.Spelling.{answer_text, closing_text, each_text, flight_text}
use Rattle.flight.specs.declared.flight.Answered.{Answered}

-- answers as they stand in the file
abbrev pub said : List Answered → List ℕ
said answers = each_text answer_text answers []

abbrev pub is_up_life : Option LifeContents → Bool
is_up_life None = false
is_up_life (Some l) = is_up l.ending

-- whether the last life is up
abbrev pub ends_up : List LifeContents → Bool
ends_up lives = is_up_life (slice_get lives (length lives - 1))

-- the line `up`, if the last life is
abbrev pub up_line : List LifeContents → List ℕ
up_line lives = if ends_up lives then codes "up\n" else []

-- the last lines of the file, of which something else may come: `up`, the answers, and `end`
unfoldable pub tail_of : FlightContents → List ℕ
tail_of f = up_line f.lives ++ closing_text f.answers []

-- the file without these lines
unfoldable pub stem_of : FlightContents → List ℕ
stem_of f = take (length (flight_text f) - length (tail_of f)) (flight_text f)
