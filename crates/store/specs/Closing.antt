-- What a store that is closed leaves.
use Rattle.std.specs.Prelude.{◌≡◌, ◌↔◌, ◌⊎◌, ℕ, ◌+◌, Option, Some, None, List, map, length, slice_get, slice_set, MatchOption}
use Rattle.keep.specs.Durable.{Durable}
use Rattle.store.specs.declared.seat.Seat.{Seat}
use Rattle.store.specs.declared.store.Store.{Store}
use Rattle.store.specs.Became.{EachBecame}
use Rattle.store.specs.Going.{GoesOn}
use Rattle.store.specs.Journals.{device_in}
use Rattle.store.specs.Seats.{IsMissing}

module _ {K J I : Type 0} {an : _} {g : _} {s : _} {d : _} where
  -- what the database of a seat may hold
  abbrev pub MayHold : (held : K → Durable → Type 0) (holds : I → Durable → Type 0) → Seat K J I an g s d → Durable → Type 0
  MayHold held holds seat stored = MatchOption seat.node (MatchOption seat.image ⊥ (λ image. holds image stored)) (λ node. held node.keeper stored)

  -- the same seat; its member is not up, and its database, unless it is missing, holds what it might hold before
  pub record IsAtRest (held : K → Durable → Type 0) (holds : I → Durable → Type 0) (before after : Seat K J I an g s d) : Type 0 where
    pub member : after.member ≡ before.member
    pub down : after.node ≡ None
    pub there : (after.image ≡ None) ↔ IsMissing before
    pub holds_it : (image : I) → after.image ≡ Some image → (stored : Durable) → holds image stored ↔ MayHold held holds before stored

  -- the same seat, which stayed as it was, or whose member was stopped
  abbrev pub MayRest : (held : K → Durable → Type 0) (holds : I → Durable → Type 0) → Seat K J I an g s d → Seat K J I an g s d → Type 0
  MayRest held holds before after = (after ≡ before) ⊎ IsAtRest held holds before after

  -- this is the database of the seat that has so many before it, and it is not there any more
  pub record IsTaken (at : ℕ) (image : Option I) (old new : List (Seat K J I an g s d)) : Type 0 where
    pub seat : Seat K J I an g s d
    pub there : slice_get old at ≡ Some seat
    pub is : image ≡ seat.image
    pub after : Seat K J I an g s d
    pub now : new ≡ slice_set old at after
    pub gone : (after.member ≡ seat.member) × (after.node ≡ seat.node) × (after.image ≡ None)

  -- the databases of seats, in their order; none for one that is missing
  abbrev pub images_in : List (Seat K J I an g s d) → List (Option I)
  images_in seats = map (λ (seat : Seat K J I an g s d). seat.image) seats

  -- these are the seats of a store that is closed: those of the store, each of them at rest
  abbrev pub IsClosed : (held : K → Durable → Type 0) (holds : I → Durable → Type 0) → Store K J I an g s d → List (Seat K J I an g s d) → Type 0
  IsClosed held holds store seats = EachBecame (IsAtRest held holds) store.seats.items seats

  -- the seat of this member, if it is there, has no node
  abbrev pub IsDownIn : List (Seat K J I an g s d) → ℕ → Type 0
  IsDownIn seats m = (at : ℕ) (seat : Seat K J I an g s d) → m ≡ at + 1 → slice_get seats at ≡ Some seat → seat.node ≡ None

  -- A store went on to one with this device, which was closed with these seats. Where this holds each of its members was stopped before.
  abbrev pub ClosesTo : (contents : J → Option (List ℕ)) (honest : K → Type 0) (held : K → Durable → Type 0) (holds : I → Durable → Type 0) → Store K J I an g s d → List (Seat K J I an g s d) → Option J → (whole : Type 0) → Type 0
  ClosesTo contents honest held holds store seats device whole = (last : Store K J I an g s d) × GoesOn contents honest held holds store last × IsClosed held holds last seats × (device ≡ device_in last.scribe) × (whole → (m : ℕ) → IsDownIn last.seats.items m)

  -- what is found of a store's databases once its process has ended: each that is there holds nothing else than its seat's may hold
  pub record AreLeft (held : K → Durable → Type 0) (holds : I → Durable → Type 0) (store : Store K J I an g s d) (images : List (Option I)) : Type 0 where
    pub count : length images ≡ length store.seats.items
    pub each : (i : ℕ) (seat : Seat K J I an g s d) (image : I) (stored : Durable) → slice_get store.seats.items i ≡ Some seat → slice_get images i ≡ Some (Some image) → holds image stored → MayHold held holds seat stored
