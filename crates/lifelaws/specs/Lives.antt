-- What lives do that a run explains.
use Rattle.std.specs.Prelude.{◌≡◌, ℕ, Some, List, ◌++◌, fold, take, length}
use Rattle.model.specs.Members.{Node}
use Rattle.model.specs.Worlds.{Event, new_world}
use Rattle.safety.specs.Floors.{WasAt}
use Rattle.node.specs.View.{started_from}
use Rattle.history.specs.declared.item.Item.{Item}
use Rattle.history.specs.Items.{Rises}
use Rattle.flight.specs.declared.life.Step.{Step}
use Rattle.flight.specs.declared.life.Life.{Life}
use Rattle.flight.specs.declared.life.Ending.TheVariants.{Torn}
use Rattle.sqlchecks.specs.Columns.{Tables}
use Rattle.sqlread.specs.Meaning.{language_of}
use Rattle.cells.specs.Lives.{opened_with, replay, stepped}
use Rattle.cells.specs.Publishing.{items_by, items_from}
use Rattle.moments.specs.Behind.{Evidence, life_at}

-- the member that began the life
abbrev pub begun : Life → Node
begun life = started_from (opened_with life.opening)

-- node me, taken through the first j steps of the life
abbrev pub replayed : Tables → ℕ → ℕ → ℕ → Life → Node
replayed schema n me j life = fold (stepped schema n me) (begun life) (take j life.steps.items)

-- each life follows the run: after each of its steps, what it replays to is what its member was at a moment
abbrev pub LivesFollow : Evidence → List Event → Type 0
LivesFollow r events = (me k j : ℕ) (life : Life) → life_at r.lives me k ≡ Some life → WasAt (language_of r.tables) (length r.lives) (new_world (length r.lives)) events me (replayed r.tables (length r.lives) me j life)

-- what node me makes applied and sealed in the steps of the life
abbrev pub made : Tables → ℕ → ℕ → Life → List Item
made schema n me life = items_from schema n me (begun life) life.steps.items

-- Stamps rise in all that a life of node me makes applied and sealed. What the step that was cut short makes so, had it been made
-- whole, may come after all that.
pub record IsRising (schema : Tables) (n me : ℕ) (life : Life) : Type 0 where
  pub whole : Rises (made schema n me life)
  pub cut : (s : Step) → life.ending ≡ Torn s → let x = replay schema n me life in Rises (made schema n me life ++ items_by s.mark x (stepped schema n me x s))

-- each life does
abbrev pub LivesRise : Evidence → Type 0
LivesRise r = (me k : ℕ) (life : Life) → life_at r.lives me k ≡ Some life → IsRising r.tables (length r.lives) me life
