-- What is said of flights beside what was kept of them.
use Rattle.std.specs.Prelude.{◌≡◌, ◌≢◌, ◌⊎◌, ℕ, ◌+◌, Bool, true, false, List, [], ◌∷◌, ◌++◌, length, codes, decimal}
use Rattle.std.specs.List.{AllZip}
use Rattle.flight.specs.Contents.{FlightContents}
use Rattle.beginnings.specs.Beginnings.{AreFound, HasBeginning}
use Rattle.beginnings.specs.declared.beginning.Beginning.{Beginning}
use Rattle.beginnings.specs.declared.beginning.Found.{Found}
use Rattle.beginnings.specs.declared.beginning.Found.TheVariants.{Begins, Differs, Less}

-- the line of a node, of one that begins so none
abbrev pub node_line : ℕ → Found → List ℕ
node_line node Begins = []
node_line node Differs = codes "since: node " ++ (decimal node ++ codes " differs from what was seen then\n")
node_line node Less = codes "since: node " ++ (decimal node ++ codes " has less than was seen then\n")

-- the lines of the nodes from this one on
abbrev pub node_lines : ℕ → List Found → List ℕ
node_lines node [] = []
node_lines node (x ∷ found) = node_line node x ++ node_lines (node + 1) found

-- there are as many flights as beginnings, and each flight begins so
abbrev pub AllBegin : List FlightContents → List Beginning → Type 0
AllBegin flights seen = AllZip HasBeginning flights seen

-- how many nodes were seen, or the lines of the nodes of which it is not so
abbrev pub IsNoted : List FlightContents → List Beginning → List ℕ → Type 0
IsNoted flights seen words = ((length flights ≢ length seen) × (words ≡ codes "since: " ++ (decimal (length seen) ++ codes " nodes were seen then\n")))
    ⊎ ((found : List Found) × AreFound flights seen found × (words ≡ node_lines 1 found))

-- whether all begin so, and the words that say it
abbrev pub IsTold : List FlightContents → List Beginning → Bool → List ℕ → Type 0
IsTold flights seen true words = AllBegin flights seen × (words ≡ codes "since: what was seen then is a beginning of this\n")
IsTold flights seen false words = ¬ (AllBegin flights seen) × IsNoted flights seen words
