-- What the nodes did, moment by moment.
use Rattle.std.specs.Prelude.{ℕ, ◌+◌, ◌==◌, ◌||◌, nat_lt, List, [], ◌∷◌, ◌++◌, length, if◌then◌else◌}
use Rattle.std.specs.List.Sorted.{IsPermutation, IsNonDecreasingBy, IsStableByKey}
use Rattle.std.specs.Ordering.{nat_cmp}
use Rattle.std.specs.declared.vec.Vec.{Vec}
use Rattle.std.specs.declared.alloc.Global.{Global}
use Rattle.flight.specs.Lives.{last_mark}
use Rattle.flight.specs.declared.life.Life.{Life}
use Rattle.flight.specs.declared.life.Step.{Step}
use Rattle.flight.specs.declared.life.Ending.{Ending}
use Rattle.flight.specs.declared.life.Ending.TheVariants.{Up, Stopped, Torn}
use Rattle.moments.specs.declared.moment.Deed.TheVariants.{Opens, Takes, Tears, Answers, Stops}
use Rattle.moments.specs.declared.moment.Moment.{Moment}
use Rattle.moments.specs.declared.recorded.Recorded.{Recorded}

-- ---- of one node

-- each step, the first at this place
abbrev pub step_moments : ℕ → ℕ → ℕ → List Step → List Moment
step_moments node life k [] = []
step_moments node life k (s ∷ steps) = record { mark = s.mark; node = node; deed = Takes life k } ∷ step_moments node life (k + 1) steps

-- the step that is cut short, if there is one
abbrev pub torn_moments : ℕ → ℕ → Ending → List Moment
torn_moments node life Up = []
torn_moments node life Stopped = []
torn_moments node life (Torn s) = record { mark = s.mark; node = node; deed = Tears life } ∷ []

-- a life, without its end
abbrev pub life_moments : ℕ → ℕ → Life → List Moment
life_moments node k life = record { mark = life.opening.mark; node = node; deed = Opens k } ∷ step_moments node k 0 life.steps.items ++ torn_moments node k life.ending

-- each life, the first at this place
abbrev pub deed_moments : ℕ → ℕ → List Life → List Moment
deed_moments node k [] = []
deed_moments node k (life ∷ lives) = life_moments node k life ++ deed_moments node (k + 1) lives

abbrev pub answer_moment : ℕ → ℕ → Recorded → List Moment
answer_moment node k a = if a.node == node then record { mark = a.mark; node = node; deed = Answers k } ∷ [] else []

-- the answers of the node, among all from this place on
abbrev pub answer_moments : ℕ → ℕ → List Recorded → List Moment
answer_moments node k [] = []
answer_moments node k (a ∷ answers) = answer_moment node k a ++ answer_moments node (k + 1) answers

-- a node that was stopped is so at the last mark of its life
abbrev pub end_moments : ℕ → ℕ → ℕ → Ending → List Moment
end_moments node life mark Up = []
end_moments node life mark Stopped = record { mark = mark; node = node; deed = Stops life } ∷ []
end_moments node life mark (Torn s) = []

abbrev pub stop_moments : ℕ → ℕ → List Life → List Moment
stop_moments node k [] = []
stop_moments node k (life ∷ lives) = end_moments node k (last_mark life) life.ending ++ stop_moments node (k + 1) lives

-- what it does at one mark stands in this order: the opening or the step, the answers, the end
abbrev pub node_moments : List Recorded → ℕ → List Life → List Moment
node_moments answers node lives = deed_moments node 0 lives ++ answer_moments node 0 answers ++ stop_moments node 0 lives

-- ---- of all

-- node by node, from this one on
abbrev pub listed : List Recorded → ℕ → List (Vec Life Global) → List Moment
listed answers node [] = []
listed answers node (lives ∷ more) = node_moments answers node lives.items ++ listed answers (node + 1) more

-- an answer of a node that is not there, of so many
abbrev pub stray_moment : ℕ → ℕ → Recorded → List Moment
stray_moment n k a = if (a.node == 0) || nat_lt n a.node then record { mark = a.mark; node = a.node; deed = Answers k } ∷ [] else []

-- those among all answers from this place on
abbrev pub stray_moments : ℕ → ℕ → List Recorded → List Moment
stray_moments n k [] = []
stray_moments n k (a ∷ answers) = stray_moment n k a ++ stray_moments n (k + 1) answers

-- node by node, and at last what nodes that are not there answered
abbrev pub all_moments : List (Vec Life Global) → List Recorded → List Moment
all_moments lives answers = listed answers 1 lives ++ stray_moments (length lives) 0 answers

-- the same moments in order of their marks; those of one mark stay as they are listed
pub record IsTimeline (lives : List (Vec Life Global)) (answers : List Recorded) (moments : List Moment) : Type 0 where
  pub all : IsPermutation (all_moments lives answers) moments
  pub rises : IsNonDecreasingBy (λ m. m.mark) moments
  pub stays : IsStableByKey (λ m. m.mark) nat_cmp (all_moments lives answers) moments
