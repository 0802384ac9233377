-- A member whose database is read.
use Rattle.std.proofs.Common.{◌≡◌, ◌∙◌, ℕ, Bool, true, false, Option, Some, None, MatchBool, MatchOption, if◌then◌else◌, refl, sym, ap, subst}
use Rattle.std.specs.Option.{ForSome}
use Rattle.keep.specs.Durable.{Durable}
use Rattle.model.specs.Members as model
use Rattle.sqlchecks.specs.Columns.{Tables}
use Rattle.node.specs.declared.node.Node.{Node}
use Rattle.node.specs.Member.{member_of, IsSameSeat}
use Rattle.node.specs.View.{durable_of}
use Rattle.runlaws.specs.Going.{after_stop}
use Rattle.store.specs.Nodes.{rested, IsMember, IsNodeOf, Rests}
use Rattle.std.proofs.lemmas.Option.{same_Some}
use Rattle.store.specs.Applied.{IsSince}
use Rattle.store.specs.declared.since.Since.{Since}
use Rattle.store.proofs.Stepping.{member_up}

module _ {K I : Type 0} {g : _} {s : _} (held : K → Durable → Type 0) where
  -- a node that was up, and was read: its member stays as it is, or stops
  pub read_there : (old new : Node K I g s) → IsSameSeat old new → old.is_up ≡ true → (new.is_up ≡ true → member_of new ≡ member_of old) → (new.is_up ≡ false → (d : Durable) → held new.keeper d → d ≡ durable_of (member_of old)) →
      (tables : Tables) (n m : ℕ) (x : model.Node) → IsNodeOf held tables n m old x → IsNodeOf held tables n m new (if new.is_up then x else after_stop x)
  read_there old new same up member only tables n m x is = go new.is_up refl
    where
      at : x ≡ member_of old
      at = member_up held old x up is.is

      node_of : (y : model.Node) → IsMember held new y → IsNodeOf held tables n m new y
      node_of y there = record { tables_are = same.0 ∙ is.tables_are; members_are = same.1 ∙ is.members_are; me_is = same.2 ∙ is.me_is; is = there }

      go : (b : Bool) → new.is_up ≡ b → IsNodeOf held tables n m new (if b then x else after_stop x)
      go true u = node_of x (subst (λ (z : Bool). MatchBool z (x ≡ member_of new) (Rests (held new.keeper) x)) (sym u) (at ∙ sym (member u)))
      go false u =
          let y = after_stop x in
          let rests : Rests (held new.keeper) y = subst (λ (z : model.Node). Rests (held new.keeper) (after_stop z)) (sym at) (refl, λ d h. sym (ap rested (only u d h))) in
          node_of y (subst (λ (z : Bool). MatchBool z (y ≡ member_of new) (Rests (held new.keeper) y)) (sym u) rests)

module _ {K I : Type 0} {g : _} {s : _} where
  -- what is said of a member that was read, once it is known whether its node is up
  pub read_up : (o : Option (Node K I g s)) (P : model.Node → Type 0) (x : model.Node) → MatchOption o ⊥ (λ (n : Node K I g s). P (if n.is_up then x else after_stop x)) → ForSome o (λ (n : Node K I g s). n.is_up ≡ true) → P x
  read_up None P x h up = absurd h
  read_up (Some n) P x h up = subst (λ (b : Bool). P (if b then x else after_stop x)) (up n refl) h

  pub read_down : (o : Option (Node K I g s)) (P : model.Node → Type 0) (x : model.Node) → MatchOption o ⊥ (λ (n : Node K I g s). P (if n.is_up then x else after_stop x)) → MatchOption o ⊥ (λ (n : Node K I g s). n.is_up ≡ false) → P (after_stop x)
  read_down None P x h down = absurd h
  read_down (Some n) P x h down = subst (λ (b : Bool). P (if b then x else after_stop x)) down h

  pub since_up : (honest : K → Type 0) (o : Option (Node K I g s)) (after : ℕ) (since : Since) → MatchOption o ⊥ (λ (n : Node K I g s). IsSince honest n after since) → ForSome o (λ (n : Node K I g s). n.is_up ≡ true)
  since_up honest None after since h = absurd h
  since_up honest (Some n) after since h = λ x is. subst (λ (m : Node K I g s). m.is_up ≡ true) (same_Some n x is) h.0
