-- What a member has stored that was started.
use Rattle.std.proofs.Common.{◌≡◌, ◌∙◌, ℕ, ◌+◌, true, Option, Some, None, List, IfSome, IsSome, MatchOption, length, slice_get, refl, sym, ap, subst}
use Rattle.model.specs.Lists.{nth}
use Rattle.model.specs.Members as model
use Rattle.keep.specs.Durable.{Durable}
use Rattle.journal.specs.Digests.{summary_of}
use Rattle.journal.specs.declared.stored.Summary.{Summary}
use Rattle.sqlchecks.specs.Columns.{Tables}
use Rattle.node.specs.declared.node.Node.{Node}
use Rattle.node.specs.Member.{member_of}
use Rattle.node.specs.View.{durable_of}
use Rattle.std.specs.Option.{ForSome}
use Rattle.runlaws.proofs.Seats.{nth_next, seated}
use Rattle.store.specs.declared.seat.Seat.{Seat}
use Rattle.store.specs.declared.store.Store.{Store}
use Rattle.store.specs.Going.{Changes}
use Rattle.store.specs.Lives.{HasStored}
use Rattle.store.specs.Nodes.{IsNodeOf}
use Rattle.store.specs.Seats.{HasMember, IsClean}
use Rattle.store.proofs.Became.{set_there}
use Rattle.store.proofs.Going.{tidy}
use Rattle.store.proofs.Stepping.{at_some, member_up}

only : (a b : Summary) → Some a ≡ Some b → a ≡ b
only a b e = cc e

-- what a seat says that its node has stored
abbrev Says : {K I : Type 0} {g : _} {s : _} → (honest : K → Type 0) → Option Summary → Node K I g s → Type 0
Says honest r n = IsSome r × (n.is_up ≡ true → honest n.keeper → r ≡ Some (summary_of (durable_of (member_of n))))

module _ {K J I : Type 0} {an : _} {g : _} {s : _} {d : _} (contents : J → Option (List ℕ)) (honest : K → Type 0) (held : K → Durable → Type 0) (holds : I → Durable → Type 0) where
  -- the node of a seat, if it has one, is up
  abbrev pub IsRunning : Seat K J I an g s d → Type 0
  IsRunning seat = ForSome seat.node (λ node. node.is_up ≡ true)

  of_seat : (seat : Seat K J I an g s d) (tables : Tables) (n m : ℕ) (x : model.Node) (stored : Summary) → MatchOption seat.node (Some stored ≡ None) (Says honest (Some stored)) → IsRunning seat → IsClean honest holds seat → HasMember held holds tables n m seat x → stored ≡ summary_of (durable_of x)
  of_seat seat tables n m x stored said runs clean has = go seat.node refl
    where
      go : (o : Option (Node K I g s)) → seat.node ≡ o → stored ≡ summary_of (durable_of x)
      go None none = let e : Some stored ≡ None = subst (λ (o : Option (Node K I g s)). MatchOption o (Some stored ≡ None) (Says honest (Some stored))) none said in absurd (cc e)
      go (Some node) some =
          let told = at_some seat.node node (Some stored ≡ None) (Says honest (Some stored)) some said in
          let neat : honest node.keeper = at_some seat.node node _ (λ (n : Node K I g s). honest n.keeper) some clean in
          let is : IsNodeOf held tables n m node x = at_some seat.node node _ (λ (z : Node K I g s). IsNodeOf held tables n m z x) some has.1 in
          let running = runs node some in
          only stored (summary_of (durable_of (member_of node))) (told.1 running neat) ∙ ap (λ (z : model.Node). summary_of (durable_of z)) (sym (member_up held node x running is.is))

  -- of the seat that was changed
  pub starts_stored : (old new : Store K J I an g s d) (at : ℕ) (before after : Seat K J I an g s d) → Changes contents honest holds old new at before after → (m : ℕ) → m ≡ at + 1 → IsRunning after → (r : Option Summary) → MatchOption after.node (r ≡ None) (Says honest r) → IfSome r (HasStored honest held holds new m)
  starts_stored old new at before after C m is runs None said = tt
  starts_stored old new at before after C m is runs (Some stored) said = λ clean w i.
      let sits : nth new.seats.items m ≡ Some after = nth_next new.seats.items m at is ∙ ap (λ (xs : List (Seat K J I an g s d)). slice_get xs at) C.seats ∙ set_there old.seats.items at after before C.there in
      let Has : ℕ → Seat K J I an g s d → model.Node → Type 0 = λ m seat x. HasMember held holds new.schema (length new.seats.items) m seat x in
      let x = seated Has new.seats.items w.nodes i.seated m after sits in
      (x.0, x.1, of_seat after new.schema (length new.seats.items) m x.0 stored said runs (tidy contents honest held holds old new at before after C clean) x.2)
