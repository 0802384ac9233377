-- When the lines of a journal spell what nodes recorded.
use Rattle.std.specs.Prelude.{◌≡◌, ℕ, zero, suc, List, [], ◌∷◌, ◌++◌, length}
use Rattle.model.specs.Worlds.{World, Event, happens, run}
use Rattle.model.specs.Worlds.Event.{Start}
use Rattle.sqlread.specs.Meaning.{language_of}
use Rattle.moments.specs.declared.moment.Moment.{Moment}
use Rattle.moments.specs.Moments.{IsTimeline}
use Rattle.moments.specs.Past.{Past, beginning, after}
use Rattle.moments.specs.Behind.{Evidence, IsBehind}
use Rattle.journal.specs.declared.line.Line.{Line}
use Rattle.journal.specs.declared.line.Line.TheVariants.{Opens}
use Rattle.adopt.specs.Taken.{taken_in}
use Rattle.adopt.specs.declared.deeds.Sight.{Sight}
use Rattle.adopt.specs.Lines.{summary_at, down_lines, deed_lines, noted_by}

-- where a journal stands: its run so far, and up to which entry it has outcomes
pub record Place : Type 0 where
  pub past : Past
  pub noted : ℕ

abbrev pub start : ℕ → Place
start n = record { past = beginning n; noted = 0 }

-- what is seen of a member in a world in which these events happen
abbrev pub sight : Evidence → ℕ → World → ℕ → List Event → Sight
sight r n w node now = record {
  taken = taken_in now;
  before = summary_at w node;
  after = summary_at (run (language_of r.tables) n w now) node;
  started = summary_at (happens (language_of r.tables) n (run (language_of r.tables) n w now) (Start node)) node;
}

abbrev pub lines_at : Evidence → ℕ → Place → Moment → List Event → List Line
lines_at r n p m now = deed_lines r.lives r.answers p.noted m.node m.deed (sight r n p.past.world m.node now)

abbrev pub place_after : Evidence → ℕ → Place → Moment → List Event → Place
place_after r n p m now = record { past = after (language_of r.tables) n p.past m.mark now; noted = noted_by r.lives p.noted m.node m.deed }

-- moment by moment these lines tell what happened, from one place up to another
abbrev pub Spells : Evidence → ℕ → Place → List Moment → List Line → Place → Type 0
Spells r n p [] lines q = (lines ≡ []) × (q ≡ p)
Spells r n p (m ∷ moments) lines q = (now : List Event) × (later : List Line) × (lines ≡ lines_at r n p m now ++ later) × IsBehind r n p.past m now × Spells r n (place_after r n p m now) moments later q

-- of the first so many members those that are still up are stopped
abbrev pub last_lines : World → ℕ → List Line
last_lines w zero = []
last_lines w (suc k) = last_lines w k ++ down_lines (suc k) (summary_at w (suc k))

-- The lines of a first journal, after a block of this sum: all that was recorded happens in it, moment by moment in the order of the
-- join, and nothing else; at the end all are stopped
pub record IsJournalOf (r : Evidence) (sum : ℕ) (lines : List Line) : Type 0 where
  pub moments : List Moment
  pub timeline : IsTimeline r.lives r.answers moments
  pub told : List Line
  pub end : Place
  pub spells : Spells r (length r.lives) (start (length r.lives)) moments told end
  pub all : lines ≡ Opens 1 sum 0 ∷ told ++ last_lines end.past.world (length r.lives)
