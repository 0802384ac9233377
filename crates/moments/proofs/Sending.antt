-- What an event sends, and the run with one event more.
use Rattle.std.proofs.Common.{◌≡◌, ◌∙◌, ℕ, ◌+◌, ◌-◌, Bool, true, false, List, [], ◌∷◌, ◌++◌, map, drop, length, Option, Some, None, refl, sym, ap, append-nil}
use Rattle.std.specs.Prelude.{if◌then◌else◌, ◌&&◌}
use Rattle.std.specs.List.{filter_map, range_with_len}
use Rattle.std.proofs.Math.Seq.{drop-append_seam}
use Rattle.model.specs.Lists.{nth}
use Rattle.model.specs.Transactions.{Language}
use Rattle.model.specs.Steps.{Effect, Moves, Refuses, Nothing}
use Rattle.model.specs.Members.{Node, closed_time}
use Rattle.model.specs.declared.message.Message.{Message}
use Rattle.model.specs.declared.entry.Told.{Told}
use Rattle.model.specs.Answers.{Query, Select, closed_query}
use Rattle.model.specs.Logs.{told_at}
use Rattle.fault.specs.declared.refusal.Refusal.TheVariants.{NodeDown}
use Rattle.model.specs.declared.event.Job.{Job}
use Rattle.model.specs.declared.event.Job.TheVariants.{Delivery, Local}
use Rattle.model.specs.declared.event.Left.{Left}
use Rattle.model.specs.Worlds as model
use Rattle.model.specs.Worlds.{World, Event, Output, happens, run, new_world, Gives, numbered, done, effect_gives, tells, effect, IsGivenIn, does, step_gives, delivers, delivery_gives, tears, stops, starts, IsGivenAt, IsGivenBy}
use Rattle.world.specs.declared.history.World.{World as Whole}
use Rattle.world.specs.declared.output.Output.{Output as Out}
use Rattle.world.specs.declared.output.Output.TheVariants.{Sent as SentOut, Applied as AppliedOut, Refused as RefusedOut, Answered as AnsweredOut}
use Rattle.world.specs.Run.{language_in, members_in, events_of, now_of}
use Rattle.world.specs.View.{outputs_of}
use Rattle.moments.specs.Posts.{messages_in}

-- ---- runs

run_next : (s : Language) (n : ℕ) (w : World) (es : List Event) (e : Event) → run s n w (es ++ e ∷ []) ≡ happens s n (run s n w es) e
run_next s n w [] e = refl
run_next s n w (f ∷ es) e = run_next s n (happens s n w f) es e

-- the world after one more event
pub now_next : (old new : Whole) (e : Event) → language_in new ≡ language_in old → members_in new ≡ members_in old → events_of new ≡ events_of old ++ e ∷ [] → now_of new ≡ happens (language_in old) (members_in old) (now_of old) e
now_next old new e schema members events =
    (λ i. run (schema i) (members i) (new_world (members i)) (events i)) ∙ run_next (language_in old) (members_in old) (new_world (members_in old)) (events_of old) e

-- ---- messages among outputs

pub messages_append : (xs ys : List Out) → messages_in (xs ++ ys) ≡ messages_in xs ++ messages_in ys
messages_append [] ys = refl
messages_append (SentOut k m ∷ xs) ys = ap (λ ms. m ∷ ms) (messages_append xs ys)
messages_append (AppliedOut k t ∷ xs) ys = messages_append xs ys
messages_append (RefusedOut k r ∷ xs) ys = messages_append xs ys
messages_append (AnsweredOut k a ∷ xs) ys = messages_append xs ys

-- the messages among outputs of the definitions
abbrev sent_in : List Output → List Message
sent_in [] = []
sent_in (model.Sent k m ∷ xs) = m ∷ sent_in xs
sent_in (model.Applied k t ∷ xs) = sent_in xs
sent_in (model.Refused k r ∷ xs) = sent_in xs
sent_in (model.Answered k a ∷ xs) = sent_in xs

pub messages_are : (outs : List Out) → messages_in outs ≡ sent_in (outputs_of outs)
messages_are [] = refl
messages_are (SentOut k m ∷ xs) = ap (λ ms. m ∷ ms) (messages_are xs)
messages_are (AppliedOut k t ∷ xs) = messages_are xs
messages_are (RefusedOut k r ∷ xs) = messages_are xs
messages_are (AnsweredOut k a ∷ xs) = messages_are xs

sent_numbered : (k : ℕ) (ms : List Message) (rest : List Output) → sent_in rest ≡ [] → sent_in (numbered k ms ++ rest) ≡ ms
sent_numbered k [] rest none = none
sent_numbered k (m ∷ ms) rest none = ap (λ xs. m ∷ xs) (sent_numbered (k + 1) ms rest none)

none_applied : (m : ℕ) (xs : List Told) → sent_in (map (model.Applied m) xs) ≡ []
none_applied m [] = refl
none_applied m (x ∷ xs) = none_applied m xs

same_sent : (w : World) (outs : List Output) → sent_in outs ≡ [] → w.sent ≡ w.sent ++ sent_in outs
same_sent w outs none = sym (append-nil w.sent) ∙ ap (λ ms. w.sent ++ ms) (sym none)

done_sent : (s : Language) (w : World) (m : ℕ) (x : Node) (e : Effect) → (done w m e).sent ≡ w.sent ++ sent_in (effect_gives s w m x e)
done_sent s w m x (Moves a) = ap (λ ms. w.sent ++ ms) (sym (sent_numbered (length w.sent) a.sent (tells s m x a.node) (none_applied m (filter_map (told_at s a.node.log) (range_with_len (x.commit + 1) (a.node.commit - x.commit))))))
done_sent s w m x (Refuses r) = same_sent w (model.Refused m r ∷ []) refl
done_sent s w m x Nothing = same_sent w [] refl

done_sent_if : (s : Language) (w : World) (m : ℕ) (x : Node) (e : Effect) (up : Bool) →
    (if up then done w m e else w).sent ≡ w.sent ++ sent_in (if up then effect_gives s w m x e else (model.Refused m NodeDown ∷ []))
done_sent_if s w m x e true = done_sent s w m x e
done_sent_if s w m x e false = same_sent w (model.Refused m NodeDown ∷ []) refl

does_sent : (s : Language) (n : ℕ) (w : World) (m : ℕ) (job : Job) (o : Option Node) → (does s n w m job o).sent ≡ w.sent ++ sent_in (step_gives s n w m job o)
does_sent s n w m job None = same_sent w [] refl
does_sent s n w m job (Some x) = done_sent_if s w m x (effect s n w m job x) x.up

delivers_sent : (s : Language) (n : ℕ) (w : World) (job : Job) (o : Option Message) → (delivers s n w job o).sent ≡ w.sent ++ sent_in (delivery_gives s n w job o)
delivers_sent s n w job None = same_sent w [] refl
delivers_sent s n w job (Some message) = does_sent s n w message.addressee job (nth w.nodes message.addressee)

kept_if : (w : World) (m : ℕ) (x : Node) (test : Bool) → (if test then model.with_node w m x [] else w).sent ≡ w.sent
kept_if w m x true = append-nil w.sent
kept_if w m x false = refl

stops_sent : (w : World) (m : ℕ) (o : Option Node) → (stops w m o).sent ≡ w.sent
stops_sent w m None = refl
stops_sent w m (Some x) = kept_if w m (model.stopped x) x.up

started_if : (w : World) (m : ℕ) (x : Node) (test : Bool) → (if test then w else model.with_node w m x []).sent ≡ w.sent
started_if w m x true = refl
started_if w m x false = append-nil w.sent

starts_sent : (w : World) (m : ℕ) (o : Option Node) → (starts w m o).sent ≡ w.sent
starts_sent w m None = refl
starts_sent w m (Some x) = started_if w m (model.started x) x.up

tears_sent : (s : Language) (n : ℕ) (w : World) (m : ℕ) (job : Job) (left : Left) (o : Option Node) → (tears s n w m job left o).sent ≡ w.sent
tears_sent s n w m job left None = refl
tears_sent s n w m job left (Some x) = kept_if w m (model.stopped (model.node_left left x (effect s n w m job x))) (x.up && model.is_for w m job)

given_in : (s : Language) (m : ℕ) (x : Node) (q : Option Query) (out : List Output) → IsGivenIn s m x q out → sent_in out ≡ []
given_in s m x None out h = ap sent_in h
given_in s m x (Some q) out h = ap sent_in h.2

given_by : (s : Language) (m : ℕ) (q : Select) (x : Node) (up : Bool) (out : List Output) → IsGivenBy s m q x up out → sent_in out ≡ []
given_by s m q x false out h = ap sent_in h
given_by s m q x true out h = given_in s m x (closed_query q (closed_time x)) out h

given_at : (s : Language) (m : ℕ) (q : Select) (o : Option Node) (out : List Output) → IsGivenAt s m q o out → sent_in out ≡ []
given_at s m q None out h = ap sent_in h
given_at s m q (Some x) out h = given_by s m q x x.up out h

-- the messages that an event gives are those that it sent
pub sent_by : (s : Language) (n : ℕ) (w : World) (e : Event) (out : List Output) → Gives s n w e out → (happens s n w e).sent ≡ w.sent ++ sent_in out
sent_by s n w (model.Hand m input) out h = does_sent s n w m (Local input) (nth w.nodes m) ∙ ap (λ o. w.sent ++ sent_in o) (sym h)
sent_by s n w (model.Deliver k reading) out h = delivers_sent s n w (Delivery k reading) (nth w.sent k) ∙ ap (λ o. w.sent ++ sent_in o) (sym h)
sent_by s n w (model.Stop m) out h = stops_sent w m (nth w.nodes m) ∙ same_sent w out (ap sent_in h)
sent_by s n w (model.Start m) out h = starts_sent w m (nth w.nodes m) ∙ same_sent w out (ap sent_in h)
sent_by s n w (model.Torn m job left) out h = tears_sent s n w m job left (nth w.nodes m) ∙ same_sent w out (ap sent_in h)
sent_by s n w (model.Ask m q) out h = same_sent w out (given_at s m q (nth w.nodes m) out h)

pub sent_after : (s : Language) (n : ℕ) (w : World) (e : Event) (outs : List Out) → Gives s n w e (outputs_of outs) → drop (length w.sent) (happens s n w e).sent ≡ messages_in outs
sent_after s n w e outs h = ap (drop (length w.sent)) (sent_by s n w e (outputs_of outs) h) ∙ drop-append_seam w.sent (sent_in (outputs_of outs)) ∙ sym (messages_are outs)
