-- Work that is brought to a member, as an event.
use Rattle.std.proofs.Common.{◌≡◌, ◌∙◌, ℕ, ℤ, Bool, true, false, if◌then◌else◌, Option, Some, None, [], ◌∷◌, refl, sym, ap}
use Rattle.model.specs.Lists.{nth}
use Rattle.model.specs.Members.{Node}
use Rattle.model.specs.Steps.{Effect, Refuses}
use Rattle.model.specs.Transactions.{Language}
use Rattle.model.specs.Worlds.{World, done, effect_gives, does, delivers, step_gives, delivery_gives}
use Rattle.model.specs.declared.event.Job.TheVariants.{Local as TheLocal, Delivery}
use Rattle.model.specs.Worlds.Output.{Refused}
use Rattle.model.specs.declared.message.Message.{Message}
use Rattle.model.specs.declared.message.Input.{Input}
use Rattle.fault.specs.declared.refusal.Refusal.TheVariants.{NodeDown}
use Rattle.sqlchecks.specs.Columns.{Tables}
use Rattle.sqlread.specs.Meaning.{language_of}
use Rattle.node.specs.Work.{Local, Delivered}
use Rattle.world.specs.View.{brings, brought}

-- a member that is down refuses
does_so : (w : World) (m : ℕ) (up : Bool) (e : Effect) → done w m (if up then e else Refuses NodeDown) ≡ (if up then done w m e else w)
does_so w m true e = refl
does_so w m false e = refl

gives_so : (schema : Language) (w : World) (m : ℕ) (x : Node) (up : Bool) (e : Effect) →
    effect_gives schema w m x (if up then e else Refuses NodeDown) ≡ (if up then effect_gives schema w m x e else (Refused m NodeDown ∷ []))
gives_so schema w m x true e = refl
gives_so schema w m x false e = refl

-- a local input
pub hands : (t : Tables) (n m : ℕ) (w : World) (input : Input) (o : Option Node) → brings t n w m (Local input) o ≡ does (language_of t) n w m (TheLocal input) o
hands t n m w input None = refl
hands t n m w input (Some x) = does_so w m x.up _

pub hand_gives : (t : Tables) (n m : ℕ) (w : World) (input : Input) (o : Option Node) → brought t n w m (Local input) o ≡ step_gives (language_of t) n w m (TheLocal input) o
hand_gives t n m w input None = refl
hand_gives t n m w input (Some x) = gives_so (language_of t) w m x x.up _

-- a message that was sent
bring_does : (t : Tables) (n m k : ℕ) (reading : ℤ) (w : World) (message : Message) (o : Option Node) → nth w.sent k ≡ Some message → brings t n w m (Delivered reading message) o ≡ does (language_of t) n w m (Delivery k reading) o
bring_does t n m k reading w message None is = refl
bring_does t n m k reading w message (Some x) is = rw is (does_so w m x.up _)

bring_gives : (t : Tables) (n m k : ℕ) (reading : ℤ) (w : World) (message : Message) (o : Option Node) → nth w.sent k ≡ Some message → brought t n w m (Delivered reading message) o ≡ step_gives (language_of t) n w m (Delivery k reading) o
bring_gives t n m k reading w message None is = refl
bring_gives t n m k reading w message (Some x) is = rw is (gives_so (language_of t) w m x x.up _)

pub delivered : (t : Tables) (n k : ℕ) (reading : ℤ) (w : World) (message : Message) → nth w.sent k ≡ Some message →
    brings t n w message.addressee (Delivered reading message) (nth w.nodes message.addressee) ≡ delivers (language_of t) n w (Delivery k reading) (nth w.sent k)
delivered t n k reading w message is =
    bring_does t n message.addressee k reading w message (nth w.nodes message.addressee) is ∙ ap (delivers (language_of t) n w (Delivery k reading)) (sym is)

pub delivered_gives : (t : Tables) (n k : ℕ) (reading : ℤ) (w : World) (message : Message) → nth w.sent k ≡ Some message →
    brought t n w message.addressee (Delivered reading message) (nth w.nodes message.addressee) ≡ delivery_gives (language_of t) n w (Delivery k reading) (nth w.sent k)
delivered_gives t n k reading w message is =
    bring_gives t n message.addressee k reading w message (nth w.nodes message.addressee) is ∙ ap (delivery_gives (language_of t) n w (Delivery k reading)) (sym is)
