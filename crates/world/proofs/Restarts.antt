-- A member that is stopped, started, or cut short within a step.
use Rattle.std.proofs.Common.{◌≡◌, ◌∙◌, ℕ, true, if◌then◌else◌, Some, [], refl, ap}
use Rattle.model.specs.Members.{Node}
use Rattle.model.specs.Steps.{Refuses}
use Rattle.model.specs.Worlds.{World, effect, is_for, node_left, started, stopped, with_node, starts, stops, tears}
use Rattle.model.specs.declared.event.Job.{Job}
use Rattle.model.specs.declared.event.Left.{Left}
use Rattle.model.specs.declared.event.Left.TheVariants.{Old, New}
use Rattle.fault.specs.declared.refusal.Refusal.TheVariants.{NodeDown}
use Rattle.node.specs.Work.{Work}
use Rattle.node.specs.View.{works}
use Rattle.sqlchecks.specs.Columns.{Tables}
use Rattle.sqlread.specs.Meaning.{language_of}
use Rattle.world.specs.declared.seat.Seat.{Seat}
use Rattle.world.specs.declared.seat.Seat.TheVariants.{Up, Down}
use Rattle.world.specs.View.{node_in, works_at}

-- w2 is the world w after seat s of member m became v
pub after_stop : (w w2 : World) (m : ℕ) (s v : Seat) → w2 ≡ with_node w m (node_in v) [] → (node_in v ≡ node_in s → w2 ≡ w) → node_in v ≡ stopped (node_in s) → w2 ≡ stops w m (Some (node_in s))
after_stop w w2 m (Up x) v is same e = is ∙ ap (λ y. with_node w m y []) e
after_stop w w2 m (Down image recall) v is same e = same e

pub after_start : (w w2 : World) (m : ℕ) (s v : Seat) → w2 ≡ with_node w m (node_in v) [] → (node_in v ≡ node_in s → w2 ≡ w) → node_in v ≡ (if (node_in s).up then node_in s else started (node_in s)) → w2 ≡ starts w m (Some (node_in s))
after_start w w2 m (Up x) v is same e = same e
after_start w w2 m (Down image recall) v is same e = is ∙ ap (λ y. with_node w m y []) e

-- a refusal leaves the member as it was
as_before : (left : Left) (x : Node) → node_left left x (Refuses NodeDown) ≡ x
as_before Old x = refl
as_before New x = refl

pub after_tear : (t : Tables) (n : ℕ) (w w2 : World) (m : ℕ) (s v : Seat) (work : Work) (job : Job) (left : Left) → w2 ≡ with_node w m (node_in v) [] → (node_in v ≡ node_in s → w2 ≡ w) →
    is_for w m job ≡ true → ((t : Tables) (n : ℕ) (x : Node) → works t n m work x ≡ effect (language_of t) n w m job x) →
    node_in v ≡ stopped (node_left left (node_in s) (works_at t n m work (node_in s))) → w2 ≡ tears (language_of t) n w m job left (Some (node_in s))
after_tear t n w w2 m (Up x) v work job left is same for_it works_is e = rw for_it (is ∙ ap (λ y. with_node w m y []) (e ∙ ap (λ f. stopped (node_left left (node_in (Up x)) f)) (works_is t n (node_in (Up x)))))
after_tear t n w w2 m (Down image recall) v work job left is same for_it works_is e = same (e ∙ ap stopped (as_before left (node_in (Down image recall))))
