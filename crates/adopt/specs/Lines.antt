-- The lines of a journal that tell what a member does at a moment.
use Rattle.std.specs.Prelude.{ℕ, ◌+◌, max, nat_lt, Option, Some, None, List, [], ◌∷◌, ◌++◌, fold, option_map, slice_get}
use Rattle.std.specs.List.{filter}
use Rattle.model.specs.Members.{Node}
use Rattle.model.specs.Worlds.{World}
use Rattle.model.specs.Lists.{nth}
use Rattle.world.specs.View.{durable_of, if_up}
use Rattle.std.specs.declared.vec.Vec.{Vec}
use Rattle.std.specs.declared.alloc.Global.{Global}
use Rattle.flight.specs.Lives.{shown}
use Rattle.flight.specs.declared.life.Life.{Life}
use Rattle.flight.specs.declared.life.Step.{Step}
use Rattle.flight.specs.declared.life.Ending.{Ending}
use Rattle.flight.specs.declared.life.Ending.TheVariants as ending
use Rattle.flight.specs.declared.outcome.Outcome.{Outcome}
use Rattle.moments.specs.declared.recorded.Recorded.{Recorded}
use Rattle.moments.specs.declared.moment.Deed.{Deed}
use Rattle.moments.specs.declared.moment.Deed.TheVariants.{Opens, Takes as Steps, Tears, Answers, Stops}
use Rattle.moments.specs.Behind.{life_at, step_at}
use Rattle.adopt.specs.declared.deeds.Sight.{Sight}
use Rattle.journal.specs.Digests.{summary_of}
use Rattle.journal.specs.declared.stored.Summary.{Summary}
use Rattle.journal.specs.declared.line.Taken.{Taken}
use Rattle.journal.specs.declared.line.Line.{Line}
use Rattle.journal.specs.declared.line.Line.TheVariants.{Rests, Life as Begins, Clock, Takes, Saves, Made, Ends, Answer}

-- ---- what is stored

abbrev pub summary_in : Option Node → Option Summary
summary_in member = option_map (λ x. summary_of (durable_of x)) (if_up member)

-- in short what a member that is up has stored; none of one that is down
abbrev pub summary_at : World → ℕ → Option Summary
summary_at w node = summary_in (nth w.nodes node)

-- a line with what is stored; none where that is not known
abbrev pub line_of : (Summary → Line) → Option Summary → List Line
line_of line None = []
line_of line (Some s) = line s ∷ []

-- a member that is up is stopped
abbrev pub down_lines : ℕ → Option Summary → List Line
down_lines node None = []
down_lines node (Some s) = Ends node ∷ Rests node s ∷ []

-- ---- outcomes

-- the outcomes of entries past this one, which no step told before
abbrev pub first_told : ℕ → List Outcome → List Outcome
first_told noted outcomes = filter (λ o. nat_lt noted o.index) outcomes

-- up to which entry outcomes were told with these
abbrev pub noted_with : ℕ → List Outcome → ℕ
noted_with noted outcomes = fold (λ k o. max k o.index) noted outcomes

-- ---- steps, and answers

-- a step begins, as clocks show its reading
abbrev pub begun_lines : ℕ → Step → Option Taken → List Line
begun_lines node s None = []
begun_lines node s (Some taken) = Clock (shown s.reading s.packet) ∷ Takes node taken ∷ []

abbrev pub step_lines : ℕ → ℕ → Option Taken → Option Step → List Line
step_lines node noted taken None = []
step_lines node noted taken (Some s) = begun_lines node s taken ++ Made node (first_told noted s.outcomes) ∷ []

-- a step that is cut short, and what follows it
abbrev pub cut_lines : ℕ → Option Taken → List Line → Ending → List Line
cut_lines node taken after (ending.Torn s) = begun_lines node s taken ++ after
cut_lines node taken after ending.Up = []
cut_lines node taken after ending.Stopped = []

abbrev pub torn_lines : ℕ → Option Taken → List Line → Option Life → List Line
torn_lines node taken after None = []
torn_lines node taken after (Some life) = cut_lines node taken after life.ending

-- what a database of it holds after that: what was stored before or, where no life follows that says it, what is stored if it is done
abbrev pub left_lines : ℕ → Option Summary → Option Life → Option Summary → List Line
left_lines node before (Some next) started = line_of (Rests node) before
left_lines node before None started = line_of (Rests node) before ++ line_of (Saves node) started

abbrev pub answer_lines : ℕ → Option Recorded → List Line
answer_lines node None = []
answer_lines node (Some a) = Answer node a.query a.answer ∷ []

-- ---- a moment

abbrev pub deed_lines : List (Vec Life Global) → List Recorded → ℕ → ℕ → Deed → Sight → List Line
deed_lines lives answers noted node (Opens k) s = line_of (Begins node) s.after
deed_lines lives answers noted node (Steps k step) s = step_lines node noted s.taken (step_at lives node k step)
deed_lines lives answers noted node (Tears k) s = torn_lines node s.taken (left_lines node s.before (life_at lives node (k + 1)) s.started) (life_at lives node k)
deed_lines lives answers noted node (Answers k) s = answer_lines node (slice_get answers k)
deed_lines lives answers noted node (Stops k) s = down_lines node s.before

abbrev pub noted_after : ℕ → Option Step → ℕ
noted_after noted None = noted
noted_after noted (Some s) = noted_with noted s.outcomes

-- up to which entry outcomes were told after a moment
abbrev pub noted_by : List (Vec Life Global) → ℕ → ℕ → Deed → ℕ
noted_by lives noted node (Steps k step) = noted_after noted (step_at lives node k step)
noted_by lives noted node (Opens k) = noted
noted_by lives noted node (Tears k) = noted
noted_by lives noted node (Answers k) = noted
noted_by lives noted node (Stops k) = noted
