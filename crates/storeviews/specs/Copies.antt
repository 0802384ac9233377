-- That items are a copy of what a member has.
use Rattle.std.specs.Prelude.{◌≡◌, true, List}
use Rattle.model.specs.Members.{applied, closed_time}
use Rattle.history.specs.declared.item.Item.{Item}
use Rattle.history.specs.Items.{entries_in, closed_in}
use Rattle.journal.specs.Digests.{digest_of}
use Rattle.node.specs.declared.node.Node.{Node}
use Rattle.node.specs.Member.{member_of}

module _ {K I : Type 0} {g : _} {s : _} where
  -- the node is up, the items close what it has closed, and their entries have the digest of those that it has applied
  abbrev pub IsCopyOf : (K → Type 0) → Node K I g s → List Item → Type 0
  IsCopyOf honest n items = (n.is_up ≡ true) × (honest n.keeper → (closed_in items ≡ closed_time (member_of n)) × (digest_of (entries_in items) ≡ digest_of (applied (member_of n))))
