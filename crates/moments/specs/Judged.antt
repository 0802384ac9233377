-- Answers of flights, as an audit takes them.
use Rattle.std.specs.Prelude.{◌++◌, ℕ, suc, List, [], ◌∷◌, map}
use Rattle.std.specs.declared.vec.Vec.{Vec}
use Rattle.std.specs.declared.alloc.Global.{Global}
use Rattle.flight.specs.declared.flight.Answered.{Answered}
use Rattle.moments.specs.declared.recorded.Recorded.{Recorded}

-- an answer of a node
abbrev pub judged_of : ℕ → Answered → Recorded
judged_of node a = record { node = node; mark = a.mark; query = a.query; answer = a.answer }

-- the answers of the nodes from this one on
abbrev pub judged_from : ℕ → List (Vec Answered Global) → List Recorded
judged_from node [] = []
judged_from node (own ∷ later) = map (judged_of node) own.items ++ judged_from (suc node) later
