-- What a life replays to and tells, that its marks rise, and which readings it has.
use Rattle.std.specs.Prelude.{◌≡◌, ℕ, ℤ, Bool, true, nat_lt, ◌&&◌, List, [], ◌∷◌, fold, map}
use Rattle.sqlchecks.specs.Columns.{Tables}
use Rattle.model.specs.Members.{Node}
use Rattle.model.specs.Kept.{node_after}
use Rattle.keep.specs.Durable.{Durable, IsBeforeOrAfter}
use Rattle.sqlread.specs.Meaning.{language_of}
use Rattle.node.specs.View.{durable_of, started_from, told_between, works}
use Rattle.node.specs.Work as work
use Rattle.node.specs.Work.{Work}
use Rattle.flight.specs.declared.life.Packet.{Packet}
use Rattle.flight.specs.declared.life.Packet.TheVariants.{Local, Delivered}
use Rattle.flight.specs.declared.life.Step.{Step}
use Rattle.flight.specs.declared.life.Opening.{Opening}
use Rattle.flight.specs.declared.life.Ending.{Ending}
use Rattle.flight.specs.declared.life.Ending.TheVariants.{Up, Stopped, Torn}
use Rattle.flight.specs.declared.life.Life.{Life}
use Rattle.flight.specs.declared.outcome.Outcome.{Outcome}
use Rattle.flight.specs.Lives.{sent_at, shown}
use Rattle.flight.specs.Telling.{outcomes_of}

-- ---- replay

-- the packet as a member takes it
abbrev pub work_of : Packet → Work
work_of (Local input) = work.Local input
work_of (Delivered mark reading message) = work.Delivered reading message

-- the member after one step: what the table says of the packet. What is refused or ignored changes nothing
unfoldable pub stepped : Tables → ℕ → ℕ → Node → Step → Node
stepped schema n me x s = node_after x (works schema n me (work_of s.packet) x)

-- what was stored as the life began
abbrev pub opened_with : Opening → Durable
opened_with o = record { hard = o.hard; log = o.entries.items }

-- member `me` of n, started from what was stored and taken through each step in turn
abbrev pub replay : Tables → ℕ → ℕ → Life → Node
replay schema n me life = fold (stepped schema n me) (started_from (opened_with life.opening)) life.steps.items

-- the member after the ending, had its step been made whole
abbrev pub ended : Tables → ℕ → ℕ → Node → Ending → Node
ended schema n me x Up = x
ended schema n me x Stopped = x
ended schema n me x (Torn s) = stepped schema n me x s

-- what a life leaves in the store: what it replays to or, where its last step is torn, that or what the step comes to
abbrev pub IsLeft : Tables → ℕ → ℕ → Life → Durable → Type 0
IsLeft schema n me life = IsBeforeOrAfter (durable_of (replay schema n me life)) (durable_of (ended schema n me (replay schema n me life) life.ending))

-- ---- outcomes and readings

-- what is recorded of a step that takes member x to y: what it told of the requests that became applied
abbrev pub told_by : Tables → Node → Node → List Outcome
told_by schema x y = outcomes_of (told_between (language_of schema) y.log x.commit y.commit)

-- what each of the steps tells, from member x on
unfoldable pub told_from : Tables → ℕ → ℕ → Node → List Step → List (List Outcome)
told_from schema n me x [] = []
told_from schema n me x (s ∷ steps) = told_by schema x (stepped schema n me x s) ∷ told_from schema n me (stepped schema n me x s) steps

abbrev pub outcomes_at : Step → List Outcome
outcomes_at s = s.outcomes

-- what is recorded of each step of a life is exactly what it tells as the life is replayed
abbrev pub AreTold : Tables → ℕ → ℕ → Life → Type 0
AreTold schema n me life = map outcomes_at life.steps.items ≡ told_from schema n me (started_from (opened_with life.opening)) life.steps.items

-- nothing is recorded as told of these steps
abbrev pub AreUntold : List Step → Type 0
AreUntold steps = map outcomes_at steps ≡ map (λ s. []) steps

abbrev pub reading_at : Step → ℤ
reading_at s = s.reading

abbrev pub shown_at : Step → ℤ
shown_at s = shown s.reading s.packet

-- the reading that is recorded of each step is the one that its packet bears, if it bears one
abbrev pub AreRead : List Step → Type 0
AreRead steps = map shown_at steps ≡ map reading_at steps

-- ---- marks

-- each step's mark is above the one before it, and above that of the message that it brings
unfoldable pub marks_rise : ℕ → List Step → Bool
marks_rise mark [] = true
marks_rise mark (s ∷ steps) = nat_lt mark s.mark && nat_lt (sent_at s.packet) s.mark && marks_rise s.mark steps
