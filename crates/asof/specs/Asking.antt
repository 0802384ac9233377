-- What a question finds among versions, by its instants and its terms.
use Rattle.std.specs.Prelude.{ℕ, ◌≤◌, Bool, ◌&&◌, nat_le, List, map}
use Rattle.std.specs.List.{list_all}
use Rattle.sqlread.specs.declared.term.Term.{Term}
use Rattle.sqlread.specs.Shapes.{term_of}
use Rattle.sqlread.specs.Meaning.{term_passes}
use Rattle.model.specs.Tables.{Table}
use Rattle.model.specs.Answers.{SystemTime, Query, Select, Shown, Answer, IsAnswerOver}
use Rattle.rowlaws.specs.Rows.{Apart}
use Rattle.versionlaws.specs.Versions.{Version, Keeps}
use Rattle.versionlaws.specs.Answering.{is_before, shown_end}

-- the query is read with this system time, whatever its own is
abbrev pub read_with : SystemTime → Select → Query
read_with time q = record { table = q.table; time = time; passes = q.passes }

-- the version's row passes each term, and its system period has one of the instants
abbrev pub is_found_by : SystemTime → List Term → Version → Bool
is_found_by time terms v = list_all (λ t. term_passes t v.row) (map term_of terms) && nat_le v.row.system_start time.last && is_before time.first v.end

-- the version as an answer up to the last instant shows it
abbrev pub show_by : (last : ℕ) → Version → Shown
show_by last v = record { row = v.row; end = shown_end last v.end }

-- where the versions, each once, say what a table was at each instant up to now, and the query asks about none that is
-- later, this is the answer over those instants
abbrev pub IsKept : Query → List Version → Answer → Type 0
IsKept q versions a = (history : ℕ → Table) (now : ℕ) → Keeps versions history now → Apart versions → q.time.last ≤ now → IsAnswerOver history q a
