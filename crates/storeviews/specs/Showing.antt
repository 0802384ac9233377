-- What contracts say of windows.
use Rattle.std.specs.Prelude.{◌≡◌, ◌⊎◌, ℕ, ◌+◌, ◌≤◌, false, Option, Some, None, List, length, take}
use Rattle.model.specs.Lists.{IsBeginning}
use Rattle.model.specs.Members.{applied}
use Rattle.model.specs.Stamps.{greater}
use Rattle.history.specs.declared.item.Item.{Item}
use Rattle.history.specs.Items.{entries_in, closed_in}
use Rattle.sqlchecks.specs.Columns.{Tables}
use Rattle.view.specs.Publishing.{published, given_of, name_of, schema_of, IsSameLife}
use Rattle.view.specs.declared.view.View.{View}
use Rattle.view.specs.Viewing.{seen_by, name_seen, schema_seen}
use Rattle.node.specs.declared.node.Node.{Node}
use Rattle.node.specs.Member.{member_of}
use Rattle.store.specs.declared.since.Since.{Since}
use Rattle.store.specs.Applied.{IsSince, found}
use Rattle.storeviews.specs.Listing.{listed}
use Rattle.storeviews.specs.Copies.{IsCopyOf}
use Rattle.storeviews.specs.declared.window.Window.{Window}
use Rattle.storeviews.specs.declared.windows.Windows.{Windows}

-- all items that its publisher was given, in their order
abbrev pub list_of : Window → List Item
list_of w = listed w.publisher

-- those that are published
abbrev pub shown_of : Window → List Item
shown_of w = published w.publisher

-- it is of the same life, and gave as many views
abbrev pub IsSameWindow : Window → Window → Type 0
IsSameWindow w v = IsSameLife w.publisher v.publisher × (given_of v.publisher ≡ given_of w.publisher)

-- a window is of the same life still and shows what it showed and maybe more, or it is gone; where there was none there is none
abbrev pub IsLater : Option Window → Option Window → Type 0
IsLater None new = new ≡ None
IsLater (Some w) None = Unit {0}
IsLater (Some w) (Some v) = IsSameWindow w v × IsBeginning (shown_of w) (shown_of v)

-- a window is there still, and shows what it showed; where there was none there is none
abbrev pub IsStill : Option Window → Option Window → Type 0
IsStill None new = new ≡ None
IsStill (Some w) None = ⊥
IsStill (Some w) (Some v) = shown_of v ≡ shown_of w

-- a window, if there is one, is of these tables, and of the member that has so many before it
abbrev pub IsOf : Tables → ℕ → Option Window → Type 0
IsOf tables at None = Unit {0}
IsOf tables at (Some w) = (schema_of w.publisher ≡ tables) × ((name_of w.publisher).node ≡ at + 1)

-- a view of what a window shows, that has seen all of it
abbrev pub IsViewOf : Window → View → Type 0
IsViewOf w v = (seen_by v ≡ shown_of w) × (name_seen v ≡ name_of w.publisher) × (schema_seen v ≡ schema_of w.publisher)

-- what a member has since goes on with what the publisher was given: it has applied no fewer entries, of which the first have the digest
-- of those, and it closes no less
abbrev pub GoesOn : Window → Since → Type 0
GoesOn w x = (w.count ≤ x.applied) × (x.digest ≡ w.digest) × (greater (closed_in (list_of w)) x.closed ≡ x.closed)

-- the window of the member that has so many before it, if there is one
abbrev pub window_in : Windows → ℕ → Option Window
window_in windows at = found windows.windows.items at (λ window. window)

-- each is of these tables, and of its member
abbrev pub AreOf : Tables → Windows → Type 0
AreOf tables windows = (at : ℕ) → IsOf tables at (window_in windows at)

module _ {K I : Type 0} {g : _} {s : _} where
  -- the node is down, or what it has since does not go on with what the publisher was given
  abbrev pub HasEnded : (K → Type 0) → Node K I g s → Window → Type 0
  HasEnded honest n w = (n.is_up ≡ false) ⊎ ((x : Since) × IsSince honest n w.count x × (GoesOn w x → ⊥))

  -- the node is down, if it is honest
  abbrev pub IsDown : (K → Type 0) → Node K I g s → Type 0
  IsDown honest n = (n.is_up ≡ false) ⊎ (honest n.keeper → ⊥)

  -- there is a node, and the items are a copy of what it has
  abbrev pub IsShown : (K → Type 0) → Option (Node K I g s) → List Item → Type 0
  IsShown honest None items = ⊥
  IsShown honest (Some n) items = IsCopyOf honest n items

  -- where the entries that the publisher was given are the first of the node's log, those that are shown are exactly what it has applied
  abbrev pub IsExact : (K → Type 0) → Node K I g s → Window → Window → Type 0
  IsExact honest n w v = honest n.keeper → entries_in (list_of w) ≡ take (length (entries_in (list_of w))) (member_of n).log → entries_in (shown_of v) ≡ applied (member_of n)

  -- a window was brought up to what a node has: all that its publisher was given is shown, as a copy of that; or it is gone, as the life
  -- has ended
  abbrev pub IsBrought : (K → Type 0) → Option (Node K I g s) → Option Window → Option Window → Type 0
  IsBrought honest n None new = new ≡ None
  IsBrought honest None (Some w) None = Unit {0}
  IsBrought honest (Some n) (Some w) None = HasEnded honest n w
  IsBrought honest None (Some w) (Some v) = ⊥
  IsBrought honest (Some n) (Some w) (Some v) = (list_of v ≡ shown_of v) × IsCopyOf honest n (shown_of v) × IsExact honest n w v

  -- what is shown of a life that is to be looked at: a copy of what the node has; nothing only where it is down, or not honest
  abbrev pub IsLive : (K → Type 0) → Option (Node K I g s) → Option Window → Type 0
  IsLive honest n (Some w) = IsShown honest n (shown_of w)
  IsLive honest None None = Unit {0}
  IsLive honest (Some n) None = IsDown honest n
