-- What a step, a stop and a start come to at the seat of a member.
use Rattle.std.proofs.Common.{◌≡◌, ◌∙◌, ℕ, true, false, Option, Some, None, Result, Ok, Err, IfOk, IfErr, map, refl, sym, ap, subst, ⊎_elim, if◌then◌else◌}
use Rattle.std.specs.Prelude.{IfSome}
use Rattle.std.specs.Result.{result_ok}
use Rattle.fault.specs.declared.refusal.Refusal.{Refusal}
use Rattle.fault.specs.declared.refusal.Refusal.TheVariants.{NodeDown}
use Rattle.model.specs.Members.{Node, applied, closed_time}
use Rattle.model.specs.Transactions.{Language}
use Rattle.model.specs.Steps.{Effect, Moves, Refuses, Nothing}
use Rattle.model.specs.Worlds.{node_left, stopped}
use Rattle.model.specs.declared.event.Left.TheVariants.{New}
use Rattle.model.specs.Worlds.Output.{Applied}
use Rattle.keep.specs.Durable.{Durable, stored_in}
use Rattle.keep.specs.Log.{IsLog}
use Rattle.keep.specs.declared.memory.MemImage.{MemImage}
use Rattle.sqlchecks.specs.Columns.{Tables}
use Rattle.sqlread.specs.Meaning.{language_of}
use Rattle.node.specs.Recall.{IsRecall}
use Rattle.node.specs.declared.recall.Recall.{Recall}
use Rattle.node.specs.Work.{Work}
use Rattle.answer.specs.declared.Answer.{Answer}
use Rattle.sqlread.specs.Shapes.{QueryShape}
use Rattle.node.specs.Answered.{stored_of}
use Rattle.node.specs.declared.durable.StoredState.{StoredState}
use Rattle.node.specs.declared.node.Fault.{Fault}
use Rattle.node.specs.declared.node.Fault.TheVariants.{Kept}
use Rattle.node.specs.declared.node.Out.{Out}
use Rattle.node.specs.View.{durable_of, told_between, works, IsAskedOf, IsEmpty, IsGiven}
use Rattle.world.specs.View.{at_rest, commit_in, durable_in, IsAskedAt, node_in, occupant, works_at, IsMember, IsSeat, IsStep, Occupant}
use Rattle.world.specs.declared.seat.Seat.{Seat}
use Rattle.world.specs.declared.seat.Seat.TheVariants.{Down}

-- a member that is up sits there
module _ (t : Tables) (n m : ℕ) (s : Seat) (o : Occupant) (there : occupant s ≡ Some o) (x : Node) (up : x.up ≡ true) (node : node_in s ≡ x) (seat : IsSeat t n m s) where
  pub member : IsMember t n m o
  member = seat.up o there

  pub commit_there : (if o.is_up then Some x.commit else None) ≡ commit_in (Some (node_in s))
  commit_there = rw (node, up, member.is_up) refl

  pub durable_there : (r : Result StoredState Fault) → IfOk r (λ d. (o.is_up ≡ true) × (d ≡ stored_of (durable_of x))) → IfErr r (λ f. (o.is_up ≡ false) × (f ≡ Kept NodeDown)) → result_ok r ≡ durable_in (Some (node_in s))
  durable_there (Ok d) good bad = rw (node, up) (ap Some good.1)
  durable_there (Err f) good bad = let is = member.is_up in absurd (cc (is, bad.0))

  pub asked_there : (q : QueryShape) (r : Result Answer Refusal) → (o.is_up ≡ true → IsAskedOf (language_of o.tables) q (applied x) (closed_time x) r) → IsAskedAt (language_of t) q (node_in s) (node_in s).up r
  asked_there q r h = rw (node, up, ← member.schema) (h member.is_up)

  pub stopped_there : (image : MemImage) → (o.is_up ≡ true → (d : Durable) → d ≡ stored_in image → d ≡ durable_of x) → at_rest (stored_in image) ≡ stopped (node_in s)
  stopped_there image h = ap at_rest (h member.is_up (stored_in image) refl) ∙ ap stopped (sym node)

  pub suited_there : (image : MemImage) → IsLog o.members (language_of o.tables) (stored_in image) → IsLog n (language_of t) (stored_in image)
  suited_there image h = rw (member.members, member.schema) at h

  pub recalled_there : (recall : Option Recall) → IfSome recall (IsRecall o.tables) → IfSome recall (IsRecall t)
  recalled_there recall h = subst (λ (tables : Tables). IfSome recall (IsRecall tables)) member.schema h

  works_there : (work : Work) → works o.tables o.members o.me work x ≡ works_at t n m work (node_in s)
  works_there work = rw (node, up, member.schema, member.members, member.me) refl

  given_there : (y : Node) (work : Work) (out : Out) → IsGiven x y (works o.tables o.members o.me work x) out → IsGiven (node_in s) y (works_at t n m work (node_in s)) out
  given_there y work out did = subst (λ effect. IsGiven (node_in s) y effect out) (works_there work) (rw node did)

  pub made_there : (y : Node) (work : Work) (out : Out) → IsGiven x y (works o.tables o.members o.me work x) out →
      out.told.items ≡ told_between (language_of o.tables) y.log x.commit y.commit →
      IsStep (language_of t) m (node_in s) y (works_at t n m work (node_in s)) (Ok out)
  unfolding told_between
  made_there y work out did told = (given_there y work out did, ap (map (Applied m)) told ∙ rw (node, member.schema) refl)

  pub kept : (y : Node) (work : Work) (refusal : Refusal) → Refuses refusal ≡ works o.tables o.members o.me work x → y ≡ x →
      IsStep (language_of t) m (node_in s) y (works_at t n m work (node_in s)) (Err refusal)
  kept y work refusal did same = (did ∙ works_there work, same ∙ sym node)

-- what is so of a value, if there is one
for_some : {A : Type 0} (o : Option A) (P : A → Type 0) → IfSome o P → (a : A) → o ≡ Some a → P a
for_some None P h a is = absurd (cc is)
for_some (Some x) P h a is = let same : x ≡ a = cc is in subst P same h

pub if_some : {A : Type 0} (o : Option A) (P : A → Type 0) → ((a : A) → o ≡ Some a → P a) → IfSome o P
if_some None P h = tt
if_some (Some x) P h = h x refl

-- a member that is down sits there
pub at_rest_there : (t : Tables) (n m : ℕ) (image : MemImage) (recall : Option Recall) → IsLog n (language_of t) (stored_in image) → IfSome recall (IsRecall t) → IsSeat t n m (Down image recall)
at_rest_there t n m image recall h known = record {
  up = λ o is. absurd (cc is);
  down = λ d is. let same : stored_in image ≡ d = cc is in subst (IsLog n (language_of t)) same h;
  recall = for_some recall (IsRecall t) known;
}

given : (x y : Node) (effect : Effect) (out : Out) → IsGiven x y effect out → y ≡ node_left New x effect
given x y effect out h =
    ⊎_elim (λ (moved : Moves (record { node = y; sent = out.messages.items }) ≡ effect). ap (node_left New x) moved)
    (λ (none : (Nothing ≡ effect) × (y ≡ x) × IsEmpty out). none.1 ∙ ap (node_left New x) none.0) h

-- a step that was made
pub made : (t : Language) (m : ℕ) (x y : Node) (effect : Effect) (r : Result Out Refusal) → IsStep t m x y effect r → y ≡ node_left New x effect
made t m x y effect (Ok out) h = given x y effect out h.0
made t m x y effect (Err refusal) h = h.1 ∙ ap (node_left New x) h.0
