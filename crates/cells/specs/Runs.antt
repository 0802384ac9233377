-- What the life of a member of a run publishes.
use Rattle.std.specs.Prelude.{◌≡◌, ℕ, List, ◌++◌}
use mathlib.Core.List.{IsPrefix}
use Rattle.model.specs.Transactions.{Language}
use Rattle.model.specs.Members.{Node, applied}
use Rattle.model.specs.Worlds.{World, Event}
use Rattle.safety.specs.Floors.{WasAt}
use Rattle.node.specs.View.{Grows}
use Rattle.history.specs.declared.item.Item.{Item}
use Rattle.history.specs.Items.{entries_in, sealed_in, Rises}
use Rattle.view.specs.Staying.{AreSame}
use Rattle.cells.specs.Publishing.{items_by}

-- Where a member was x and y at moments of a run, and grows from x to y, what becomes applied and sealed from x to y may come
-- after all that the member had applied and sealed as x: stamps rise in the whole
abbrev pub RunsRise : Language → ℕ → World → Type 0
RunsRise language n opening = (events : List Event) (me mark : ℕ) (x y : Node) (before : List Item) → WasAt language n opening events me x → WasAt language n opening events me y → Grows x y
    → Rises before → entries_in before ≡ applied x → sealed_in before ≡ x.sealed → Rises (before ++ items_by mark x y)

-- these are the first items of those that a member of the run had applied and sealed at a moment
pub record IsPublishedIn (language : Language) (n : ℕ) (opening : World) (events : List Event) (seen : List Item) : Type 0 where
  pub me : ℕ
  pub node : Node
  pub was : WasAt language n opening events me node
  pub whole : List Item
  pub rises : Rises whole
  pub entries : entries_in whole ≡ applied node
  pub sealed : sealed_in whole ≡ node.sealed
  pub first : IsPrefix seen whole

-- what was answered in what two members of a run published is the same answer, where the same was asked
abbrev pub MembersAgree : Language → ℕ → World → Type 0
MembersAgree language n opening = (events : List Event) (one two : List Item) → IsPublishedIn language n opening events one → IsPublishedIn language n opening events two → AreSame language one two
