-- The items in the map of an index.
use Rattle.std.specs.Prelude.{Option, Some, None, List, []}
use Rattle.std.specs.BTreeMap.{BTreeMap, get}
use Rattle.model.specs.declared.value.Value.{Value}
use Rattle.model.specs.Values.{key_cmp}
use Rattle.overlaps.specs.Index.{Index}

-- the items of a key that may have none
abbrev pub items_in : {T : Type 0} → Option (List T) → List T
items_in None = []
items_in (Some items) = items

-- the items of each key, in the order of the starts of their periods
abbrev pub items_of : {T : Type 0} → BTreeMap (List Value) (List T) → Index T
items_of m = λ key. items_in (get key_cmp m key)
