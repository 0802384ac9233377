-- Files of nodes, and places in them.
use Rattle.std.specs.Prelude.{◌≡◌, ℕ, ◌+◌, ◌==◌, List, ◌++◌, codes, count_by, length}
use Rattle.flight.specs.Spelling.{spaced, version_text}
use Rattle.flight.specs.declared.flight.Version.{Version}
use Rattle.report.specs.declared.files.Place.{Place}

-- the text begins as the flight of this node does
abbrev pub IsFileOfNode : List ℕ → ℕ → Type 0
IsFileOfNode text node = (version : Version) × (rest : List ℕ) × (text ≡ version_text version (codes "node " ++ spaced node rest))

-- these words stand there: the byte counts from 1, and the line too, a line feed, which is 10, ending one
abbrev pub StandsAt : List ℕ → List ℕ → Place → Type 0
StandsAt text words place = (front : List ℕ) × (rest : List ℕ) × (text ≡ front ++ words ++ rest) × (place.byte ≡ length front + 1) × (place.line ≡ count_by (λ b. b == 10) front + 1)
