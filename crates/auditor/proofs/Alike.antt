-- Two lists of events that are behind one moment leave one world.
use Rattle.model.specs.Steps.{on_message, Nothing}
use Rattle.std.specs.Option.{option_map_or}
use Rattle.std.proofs.Common.{◌≡◌, ◌∙◌, ℕ, ℤ, zero, suc, ◌+◌, List, Option, Some, None, refl, sym, ap, ◌==◌, false, []}
use Rattle.std.specs.Prelude.{if◌then◌else◌, ◌&&◌, slice_get}
use Rattle.model.specs.Lists.{nth}
use Rattle.model.specs.Transactions.{Language}
use Rattle.model.specs.Members.{Node}
use Rattle.model.specs.declared.message.Message.{Message}
use Rattle.model.specs.Worlds.{World, Event, Deliver, Torn, happens, run, done, node_left, with_node, stopped, does, delivers, tears}
use Rattle.model.specs.declared.event.Job.{Job}
use Rattle.model.specs.declared.event.Job.TheVariants.{Delivery}
use Rattle.model.specs.declared.event.Left.{Left}
use Rattle.model.specs.declared.event.Left.TheVariants.{Old, New}
use Rattle.flight.specs.declared.flight.Version.{Version}
use Rattle.flight.specs.declared.life.Life.{Life}
use Rattle.flight.specs.declared.life.Step.{Step}
use Rattle.flight.specs.declared.life.Ending.{Ending}
use Rattle.flight.specs.declared.life.Ending.TheVariants as ending
use Rattle.flight.specs.declared.life.Packet.{Packet}
use Rattle.flight.specs.declared.life.Packet.TheVariants as packet
use Rattle.sqlchecks.specs.Columns.{Tables}
use Rattle.sqlread.specs.Meaning.{language_of}
use Rattle.moments.specs.declared.moment.Deed.{Deed}
use Rattle.moments.specs.declared.moment.Deed.TheVariants.{Opens, Takes, Tears, Answers, Stops}
use Rattle.moments.specs.declared.moment.Moment.{Moment}
use Rattle.moments.specs.declared.recorded.Recorded.{Recorded}
use Rattle.moments.specs.Past.{Past, IsSent, grown, after}
use Rattle.moments.specs.Behind.{Evidence, life_at, step_at, job_event, IsJob, IsTaken, IsLeftBy, IsCut, IsAnsweredBy, IsLifeBegun, IsLifeCut, IsBehindDeed, IsBehind}

-- ---- one message that was sent twice

does_alike : (s : Language) (n : ℕ) (w : World) (m k j : ℕ) (reading : ℤ) (x : Option Node) → nth w.sent k ≡ nth w.sent j → does s n w m (Delivery k reading) x ≡ does s n w m (Delivery j reading) x
does_alike s n w m k j reading None same = refl
does_alike s n w m k j reading (Some x) same = ap (λ (o : Option Message). if x.up then done w m (option_map_or (λ (p : Message). on_message s n m reading p x) o Nothing) else w) same

delivers_alike : (s : Language) (n : ℕ) (w : World) (k j : ℕ) (reading : ℤ) (o : Option Message) → nth w.sent k ≡ nth w.sent j → delivers s n w (Delivery k reading) o ≡ delivers s n w (Delivery j reading) o
delivers_alike s n w k j reading None same = refl
delivers_alike s n w k j reading (Some message) same = does_alike s n w message.addressee k j reading (nth w.nodes message.addressee) same

delivered_alike : (s : Language) (n : ℕ) (w : World) (k j : ℕ) (reading : ℤ) → nth w.sent k ≡ nth w.sent j → happens s n w (Deliver k reading) ≡ happens s n w (Deliver j reading)
delivered_alike s n w k j reading same = delivers_alike s n w k j reading (nth w.sent k) same ∙ ap (delivers s n w (Delivery j reading)) same

tears_alike : (s : Language) (n : ℕ) (w : World) (m k j : ℕ) (reading : ℤ) (left : Left) (x : Option Node) → nth w.sent k ≡ nth w.sent j → tears s n w m (Delivery k reading) left x ≡ tears s n w m (Delivery j reading) left x
tears_alike s n w m k j reading left None same = refl
tears_alike s n w m k j reading left (Some x) same = ap (λ (o : Option Message). if x.up && option_map_or (λ (message : Message). message.addressee == m) o false then with_node w m (stopped (node_left left x (option_map_or (λ (p : Message). on_message s n m reading p x) o Nothing))) [] else w) same

pub same_sent : (p : Past) (at node : ℕ) (message : Message) (k j : ℕ) → IsSent p at node message k → IsSent p at node message j → nth p.world.sent k ≡ nth p.world.sent j
same_sent p at node message k j one other = one.is ∙ sym other.is

-- ---- two jobs of one packet

done_alike : (s : Language) (n : ℕ) (p : Past) (node : ℕ) (p' : Packet) (a b : Job) → IsJob p node p' a → IsJob p node p' b → happens s n p.world (job_event node a) ≡ happens s n p.world (job_event node b)
done_alike s n p node (packet.Local input) a b x y = ap (λ (j : Job). happens s n p.world (job_event node j)) (x ∙ sym y)
done_alike s n p node (packet.Delivered at reading message) a b x y =
    let E : Job → World = λ j. happens s n p.world (job_event node j) in
    ap E x.2 ∙ delivered_alike s n p.world x.0 y.0 reading (same_sent p at node message x.0 y.0 x.1 y.1) ∙ sym (ap E y.2)

torn_alike : (s : Language) (n : ℕ) (p : Past) (node : ℕ) (left : Left) (p' : Packet) (a b : Job) → IsJob p node p' a → IsJob p node p' b → happens s n p.world (Torn node a left) ≡ happens s n p.world (Torn node b left)
torn_alike s n p node left (packet.Local input) a b x y = ap (λ (j : Job). happens s n p.world (Torn node j left)) (x ∙ sym y)
torn_alike s n p node left (packet.Delivered at reading message) a b x y =
    let E : Job → World = λ j. happens s n p.world (Torn node j left) in
    ap E x.2 ∙ tears_alike s n p.world node x.0 y.0 reading left (nth p.world.nodes node) (same_sent p at node message x.0 y.0 x.1 y.1) ∙ sym (ap E y.2)

left_alike : (next : Option Life) (x : Option Node) (a b : Left) → IsLeftBy next x a → IsLeftBy next x b → a ≡ b
left_alike None x a b h k = h ∙ sym k
left_alike (Some next) x Old Old h k = refl
left_alike (Some next) x New New h k = refl
left_alike (Some next) x Old New h k = sym (k.1 (h.0 refl))
left_alike (Some next) x New Old h k = h.1 (k.0 refl)

-- ---- two lists behind one deed

begun : (r : Evidence) (n : ℕ) (p : Past) (node k : ℕ) (o : Option Life) (a b : List Event) → IsLifeBegun r n p node k o a → IsLifeBegun r n p node k o b → a ≡ b
begun r n p node k None a b x y = absurd x
begun r n p node zero (Some life) a b x y = x.1 ∙ sym y.1
begun r n p node (suc k) (Some life) a b x y = x.2 ∙ sym y.2

taken : (v : Version) (t : Tables) (s : Language) (n : ℕ) (p : Past) (node : ℕ) (o : Option Step) (a b : List Event) → IsTaken v t n p node o a → IsTaken v t n p node o b → run s n p.world a ≡ run s n p.world b
taken v t s n p node None a b x y = absurd x
taken v t s n p node (Some step) a b x y = ap (run s n p.world) x.3 ∙ done_alike s n p node step.packet x.0 y.0 x.1 y.1 ∙ sym (ap (run s n p.world) y.3)

cut : (s : Language) (n : ℕ) (p : Past) (node : ℕ) (next : Option Life) (e : Ending) (a b : List Event) → IsCut p node next e a → IsCut p node next e b → run s n p.world a ≡ run s n p.world b
cut s n p node next ending.Up a b x y = absurd x
cut s n p node next ending.Stopped a b x y = absurd x
cut s n p node next (ending.Torn step) a b x y =
    ap (run s n p.world) x.4 ∙ torn_alike s n p node x.1 step.packet x.0 y.0 x.2 y.2
    ∙ ap (λ (left : Left). happens s n p.world (Torn node y.0 left)) (left_alike next (nth p.world.nodes node) x.1 y.1 x.3 y.3) ∙ sym (ap (run s n p.world) y.4)

life_cut : (r : Evidence) (s : Language) (n : ℕ) (p : Past) (node k : ℕ) (o : Option Life) (a b : List Event) → IsLifeCut r p node k o a → IsLifeCut r p node k o b → run s n p.world a ≡ run s n p.world b
life_cut r s n p node k None a b x y = absurd x
life_cut r s n p node k (Some life) a b x y = cut s n p node (life_at r.lives node (k + 1)) life.ending a b x y

-- a question changes nothing
asked : (r : Evidence) (s : Language) (n : ℕ) (p : Past) (node : ℕ) (o : Option Recorded) (a : List Event) → IsAnsweredBy r n p node o a → run s n p.world a ≡ p.world
asked r s n p node None a x = absurd x
asked r s n p node (Some answer) a x = ap (run s n p.world) x.1.5

same_run : (r : Evidence) (s : Language) (n : ℕ) (p : Past) (node : ℕ) (d : Deed) (a b : List Event) → IsBehindDeed r n p node d a → IsBehindDeed r n p node d b → run s n p.world a ≡ run s n p.world b
same_run r s n p node (Opens k) a b x y = ap (run s n p.world) (begun r n p node k (life_at r.lives node k) a b x y)
same_run r s n p node (Takes k step) a b x y = taken r.version r.tables s n p node (step_at r.lives node k step) a b x y
same_run r s n p node (Tears k) a b x y = life_cut r s n p node k (life_at r.lives node k) a b x y
same_run r s n p node (Answers k) a b x y = asked r s n p node (slice_get r.answers k) a x ∙ sym (asked r s n p node (slice_get r.answers k) b y)
same_run r s n p node (Stops k) a b x y = ap (run s n p.world) (x ∙ sym y)

pub same_after : (r : Evidence) (n : ℕ) (p : Past) (m : Moment) (a b : List Event) → IsBehind r n p m a → IsBehind r n p m b → after (language_of r.tables) n p m.mark a ≡ after (language_of r.tables) n p m.mark b
same_after r n p m a b x y = ap (grown p m.mark) (same_run r (language_of r.tables) n p m.node m.deed a b x y)
