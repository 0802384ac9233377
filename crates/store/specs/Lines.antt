-- Lines that came to a journal.
use Rattle.std.specs.Prelude.{List, [], ◌∷◌, ◌++◌, flat_map}
use Rattle.journal.specs.declared.line.Line.{Line}

-- In order: each of these groups went whole to the device as one block, the first one behind what was in the buffer, and the rest did not.
pub record Lines : Type 0 where
  pub groups : List (List Line)
  pub rest : List Line

-- none of these went to the device
abbrev pub waiting : List Line → Lines
waiting lines = record { groups = []; rest = lines }

-- no line came, and no block was written
abbrev pub no_lines : Lines
no_lines = waiting []

-- these went there as one block, with what was in the buffer
abbrev pub one_block : List Line → Lines
one_block lines = record { groups = lines ∷ []; rest = [] }

-- groups and a rest, where these lines were in the buffer before
abbrev pub behind : List Line → List (List Line) → List (List Line)
behind before [] = []
behind before (group ∷ groups) = (before ++ group) ∷ groups

abbrev pub rest_behind : List Line → List (List Line) → List Line → List Line
rest_behind before [] rest = before ++ rest
rest_behind before (group ∷ groups) rest = rest

-- lines, and then more
abbrev pub and_then : Lines → Lines → Lines
and_then one two = record { groups = one.groups ++ behind one.rest two.groups; rest = rest_behind one.rest two.groups two.rest }

-- those that are whole on the device, and all of them
abbrev pub filed_in : Lines → List Line
filed_in lines = flat_map (λ (group : List Line). group) lines.groups

abbrev pub lines_in : Lines → List Line
lines_in lines = filed_in lines ++ lines.rest
