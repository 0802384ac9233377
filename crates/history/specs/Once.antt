-- That stamps rise in items is a fact with one proof at most, so that a struct can keep it in a ghost field.
use Rattle.std.specs.Prelude.{ℕ, Option, List, [], ◌∷◌}
use Rattle.std.proofs.Props.{props}
use mathlib.Core.HLevel.{Unit-prop}
use Rattle.history.specs.declared.item.Item.{Item}
use Rattle.history.specs.declared.item.Item.TheVariants.{Applied, Sealed}
use Rattle.history.specs.Items.{Follows, closed_after, RisesFrom}

follows_prop : (time : Option ℕ) (item : Item) → IsProp (Follows time item)
follows_prop time (Applied mark entry) = hlevel props
follows_prop time (Sealed mark sealed) = Unit-prop

pub rises_prop : (time : Option ℕ) (items : List Item) → IsProp (RisesFrom time items)
rises_prop time [] = Unit-prop
rises_prop time (item ∷ items) = hlevel (props, follows_prop time item, rises_prop (closed_after time item) items)
