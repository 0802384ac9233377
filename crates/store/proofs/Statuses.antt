-- How a member of a store stands.
use Rattle.std.proofs.Common.{◌≡◌, ◌∙◌, ℕ, Bool, true, Option, Some, None, MatchOption, length, sym, ap, subst, if◌then◌else◌}
use Rattle.std.specs.Prelude.{is_none, unwrap_or}
use Rattle.model.specs.Members as model
use Rattle.model.specs.Members.{closed_time}
use Rattle.node.specs.declared.node.Node.{Node}
use Rattle.node.specs.Member.{member_of}
use Rattle.store.specs.declared.seat.Seat.{Seat}
use Rattle.store.specs.declared.status.Standing.{Standing}
use Rattle.store.specs.declared.status.Standing.TheVariants.{Leads, Follows, Down, Missing}
use Rattle.store.specs.declared.status.Status.{Status}
use Rattle.store.specs.Statuses.{IsStatus, leads, resting, taking_part}

pub same_status : (m : ℕ) (how named : Standing) (x : model.Node) (term entries applied : ℕ) (closed : Option ℕ) → how ≡ named → term ≡ x.term → entries ≡ length x.log → applied ≡ x.commit → closed ≡ closed_time x →
    let status : Status = record { member = m; standing = how; term = term; entries = entries; applied = applied; closed = closed } in status ≡ taking_part m named x
same_status m how named x term entries applied closed a b c d e = cc

pub applied_of : (up : Bool) (commit : ℕ) (o : Option ℕ) (applied : ℕ) → up ≡ true → o ≡ (if up then Some commit else None) → applied ≡ unwrap_or o 0 → applied ≡ commit
applied_of up commit o applied is same told = told ∙ ap (λ (q : Option ℕ). unwrap_or q 0) (same ∙ ap (λ (b : Bool). if b then Some commit else None) is)

module _ {K J I : Type 0} {an : _} {g : _} {s : _} {d : _} where
  pub status_up : (honest : K → Type 0) (leader : Option ℕ) (seat : Seat K J I an g s d) (node : Node K I g s) (status : Status) → seat.node ≡ Some node →
      (node.is_up ≡ true → honest node.keeper → status ≡ taking_part seat.member (if leads leader seat.member then Leads else Follows) (member_of node)) → IsStatus honest leader seat status
  status_up honest leader seat node status some is =
      subst (λ (o : Option (Node K I g s)). MatchOption o (status ≡ resting seat.member (if is_none seat.image then Missing else Down)) (λ node. node.is_up ≡ true → honest node.keeper → status ≡ taking_part seat.member (if leads leader seat.member then Leads else Follows) (member_of node))) (sym some) is
