-- Lemmas on what lines bring and print.
use Rattle.std.proofs.Common.{◌≡◌, ◌∙◌, ℕ, suc, ◌+◌, ◌-◌, ◌<◌, ℤ, Bool, true, false, List, [], ◌∷◌, ◌++◌, map, take, drop, length, Option, Some, None, Result, Ok, Err, ◌⊎◌, inl, inr, refl, sym, ap, subst, append_assoc, add-one}
use Rattle.std.specs.Prelude.{slice_get, slice_index_or, IfErr, IsErr, MatchResult, if◌then◌else◌, ◌&&◌}
use Rattle.std.specs.List.{All, flat_map}
use Rattle.std.specs.Io.KnownBytes.{Appends}
use Rattle.std.proofs.Math.Seq.{drop-append_seam}
use Rattle.std.proofs.lemmas.List.{take_more, flat_map_more, take-append-drop}
use Rattle.std.proofs.lemmas.Grind.{flat_map-append}
use Rattle.model.specs.Lists.{nth}
use Rattle.model.specs.Transactions.{Language}
use Rattle.model.specs.Steps.{Effect, Moves, Refuses, Nothing}
use Rattle.model.specs.Members.{Node, closed_time}
use Rattle.model.specs.declared.message.Message.{Message}
use Rattle.model.specs.declared.entry.Told.{Told}
use Rattle.model.specs.Answers.{Query, Select, closed_query}
use Rattle.model.specs.Logs.{told_at}
use Rattle.std.specs.List.{filter_map, range_with_len}
use Rattle.fault.specs.declared.refusal.Refusal.{Refusal}
use Rattle.fault.specs.declared.refusal.Refusal.TheVariants.{NodeDown, NoMemory}
use Rattle.model.specs.declared.event.Job.{Job}
use Rattle.model.specs.declared.event.Job.TheVariants.{Delivery, Local}
use Rattle.model.specs.declared.event.Left.{Left}
use Rattle.model.specs.Worlds as model
use Rattle.model.specs.Worlds.{World, Event, Output, happens, run, new_world, Gives, numbered, done, effect_gives, tells, effect, IsGivenIn, does, step_gives, delivers, delivery_gives, tears, stops, starts, IsGivenAt, IsGivenBy}
use Rattle.answertext.specs.Sinks.{AppendsBeginning, WritesOrBegins}
use Rattle.answertext.specs.Appending.{appends-nothing, appends-more, begins-nothing, begins-more, begins-longer, append-none}
use Rattle.sqlchecks.specs.Columns.{Tables}
use Rattle.sqlread.specs.Meaning.{language_of, select_of}
use Rattle.sqlread.specs.Shapes.{QueryShape}
use Rattle.world.specs.declared.history.World.{World as Whole}
use Rattle.world.specs.declared.output.Output.{Output as Out}
use Rattle.world.specs.declared.output.Output.TheVariants.{Sent as SentOut, Applied as AppliedOut, Refused as RefusedOut, Answered as AnsweredOut}
use Rattle.world.specs.Run.{tables_in, language_in, members_in, events_of, now_of}
use Rattle.world.specs.View.{outputs_of, HasColumns}
use Rattle.script.specs.declared.sent.Sent.{Sent}
use Rattle.script.specs.declared.play.Play.{Play}
use Rattle.script.specs.declared.run_fault.RunFault.{RunFault}
use Rattle.script.specs.declared.run_fault.RunFault.TheVariants.{Refused as RefusedFault}
use Rattle.script.specs.Faults.{IsPlayFault}
use Rattle.script.specs.Printing.{output_text}
use Rattle.script.specs.Mail.{newly_sent, messages_in}
use Rattle.script.specs.Stage.{Act, Happens, Asks, Refuses, Stage, Played, nothing, PrintsAct, Prints, IsPrinted, IsBegun, events_in, event_at, delivery, delivered, reading_of, followed, asked}
use Rattle.script.specs.Plays.{stage_of, Moves as PlayMoves, Plays}

-- ---- runs

run_next : (s : Language) (n : ℕ) (w : World) (es : List Event) (e : Event) → run s n w (es ++ e ∷ []) ≡ happens s n (run s n w es) e
run_next s n w [] e = refl
run_next s n w (f ∷ es) e = run_next s n (happens s n w f) es e

-- the world after one more event
pub now_next : (old new : Whole) (e : Event) → language_in new ≡ language_in old → members_in new ≡ members_in old → events_of new ≡ events_of old ++ e ∷ [] → now_of new ≡ happens (language_in old) (members_in old) (now_of old) e
now_next old new e schema members events =
    (λ i. run (schema i) (members i) (new_world (members i)) (events i)) ∙ run_next (language_in old) (members_in old) (new_world (members_in old)) (events_of old) e

-- ---- messages among outputs

-- the messages among outputs of the definitions
abbrev sent_in : List Output → List Message
sent_in [] = []
sent_in (model.Sent k m ∷ xs) = m ∷ sent_in xs
sent_in (model.Applied k t ∷ xs) = sent_in xs
sent_in (model.Refused k r ∷ xs) = sent_in xs
sent_in (model.Answered k a ∷ xs) = sent_in xs

messages_are : (outs : List Out) → messages_in outs ≡ sent_in (outputs_of outs)
messages_are [] = refl
messages_are (SentOut k m ∷ xs) = ap (λ ms. m ∷ ms) (messages_are xs)
messages_are (AppliedOut k t ∷ xs) = messages_are xs
messages_are (RefusedOut k r ∷ xs) = messages_are xs
messages_are (AnsweredOut k a ∷ xs) = messages_are xs

sent_numbered : (k : ℕ) (ms : List Message) (rest : List Output) → sent_in rest ≡ [] → sent_in (numbered k ms ++ rest) ≡ ms
sent_numbered k [] rest none = none
sent_numbered k (m ∷ ms) rest none = ap (λ xs. m ∷ xs) (sent_numbered (k + 1) ms rest none)

none_applied : (m : ℕ) (xs : List Told) → sent_in (map (model.Applied m) xs) ≡ []
none_applied m [] = refl
none_applied m (x ∷ xs) = none_applied m xs

same_sent : (w : World) (outs : List Output) → sent_in outs ≡ [] → w.sent ≡ w.sent ++ sent_in outs
same_sent w outs none = sym (append-none w.sent) ∙ ap (λ ms. w.sent ++ ms) (sym none)

done_sent : (s : Language) (w : World) (m : ℕ) (x : Node) (e : Effect) → (done w m e).sent ≡ w.sent ++ sent_in (effect_gives s w m x e)
done_sent s w m x (Moves a) = ap (λ ms. w.sent ++ ms) (sym (sent_numbered (length w.sent) a.sent (tells s m x a.node) (none_applied m (filter_map (told_at s a.node.log) (range_with_len (x.commit + 1) (a.node.commit - x.commit))))))
done_sent s w m x (Refuses r) = same_sent w (model.Refused m r ∷ []) refl
done_sent s w m x Nothing = same_sent w [] refl

done_sent_if : (s : Language) (w : World) (m : ℕ) (x : Node) (e : Effect) (up : Bool) →
    (if up then done w m e else w).sent ≡ w.sent ++ sent_in (if up then effect_gives s w m x e else (model.Refused m NodeDown ∷ []))
done_sent_if s w m x e true = done_sent s w m x e
done_sent_if s w m x e false = same_sent w (model.Refused m NodeDown ∷ []) refl

does_sent : (s : Language) (n : ℕ) (w : World) (m : ℕ) (job : Job) (o : Option Node) → (does s n w m job o).sent ≡ w.sent ++ sent_in (step_gives s n w m job o)
does_sent s n w m job None = same_sent w [] refl
does_sent s n w m job (Some x) = done_sent_if s w m x (effect s n w m job x) x.up

delivers_sent : (s : Language) (n : ℕ) (w : World) (job : Job) (o : Option Message) → (delivers s n w job o).sent ≡ w.sent ++ sent_in (delivery_gives s n w job o)
delivers_sent s n w job None = same_sent w [] refl
delivers_sent s n w job (Some message) = does_sent s n w message.addressee job (nth w.nodes message.addressee)

kept_if : (w : World) (m : ℕ) (x : Node) (test : Bool) → (if test then model.with_node w m x [] else w).sent ≡ w.sent
kept_if w m x true = append-none w.sent
kept_if w m x false = refl

stops_sent : (w : World) (m : ℕ) (o : Option Node) → (stops w m o).sent ≡ w.sent
stops_sent w m None = refl
stops_sent w m (Some x) = kept_if w m (model.stopped x) x.up

started_if : (w : World) (m : ℕ) (x : Node) (test : Bool) → (if test then w else model.with_node w m x []).sent ≡ w.sent
started_if w m x true = refl
started_if w m x false = append-none w.sent

starts_sent : (w : World) (m : ℕ) (o : Option Node) → (starts w m o).sent ≡ w.sent
starts_sent w m None = refl
starts_sent w m (Some x) = started_if w m (model.started x) x.up

tears_sent : (s : Language) (n : ℕ) (w : World) (m : ℕ) (job : Job) (left : Left) (o : Option Node) → (tears s n w m job left o).sent ≡ w.sent
tears_sent s n w m job left None = refl
tears_sent s n w m job left (Some x) = kept_if w m (model.stopped (model.node_left left x (effect s n w m job x))) (x.up && model.is_for w m job)

given_in : (s : Language) (m : ℕ) (x : Node) (q : Option Query) (out : List Output) → IsGivenIn s m x q out → sent_in out ≡ []
given_in s m x None out h = ap sent_in h
given_in s m x (Some q) out h = ap sent_in h.2

given_by : (s : Language) (m : ℕ) (q : Select) (x : Node) (up : Bool) (out : List Output) → IsGivenBy s m q x up out → sent_in out ≡ []
given_by s m q x false out h = ap sent_in h
given_by s m q x true out h = given_in s m x (closed_query q (closed_time x)) out h

given_at : (s : Language) (m : ℕ) (q : Select) (o : Option Node) (out : List Output) → IsGivenAt s m q o out → sent_in out ≡ []
given_at s m q None out h = ap sent_in h
given_at s m q (Some x) out h = given_by s m q x x.up out h

-- the messages that an event gives are those that it sent
sent_by : (s : Language) (n : ℕ) (w : World) (e : Event) (out : List Output) → Gives s n w e out → (happens s n w e).sent ≡ w.sent ++ sent_in out
sent_by s n w (model.Hand m input) out h = does_sent s n w m (Local input) (nth w.nodes m) ∙ ap (λ o. w.sent ++ sent_in o) (sym h)
sent_by s n w (model.Deliver k reading) out h = delivers_sent s n w (Delivery k reading) (nth w.sent k) ∙ ap (λ o. w.sent ++ sent_in o) (sym h)
sent_by s n w (model.Stop m) out h = stops_sent w m (nth w.nodes m) ∙ same_sent w out (ap sent_in h)
sent_by s n w (model.Start m) out h = starts_sent w m (nth w.nodes m) ∙ same_sent w out (ap sent_in h)
sent_by s n w (model.Torn m job left) out h = tears_sent s n w m job left (nth w.nodes m) ∙ same_sent w out (ap sent_in h)
sent_by s n w (model.Ask m q) out h = same_sent w out (given_at s m q (nth w.nodes m) out h)

pub sent_after : (s : Language) (n : ℕ) (w : World) (e : Event) (outs : List Out) → Gives s n w e (outputs_of outs) → drop (length w.sent) (happens s n w e).sent ≡ messages_in outs
sent_after s n w e outs h = ap (drop (length w.sent)) (sent_by s n w e (outputs_of outs) h) ∙ drop-append_seam w.sent (sent_in (outputs_of outs)) ∙ sym (messages_are outs)

-- ---- what is printed

module _ (tables : Tables) (n : ℕ) where
  pub prints_one : (w : World) (act : Act) (text : List ℕ) → PrintsAct tables n w act text → Prints tables n w (act ∷ []) text
  prints_one w act text h = (text, [], sym (append-none text), h, refl)

  pub not_begun : (w : World) (acts : List Act) (c : Option (List ℕ)) → IsBegun tables n w acts c c
  not_begun w acts c = ([], acts, refl, [], refl, begins-nothing c [])

-- ---- lines

pub quiet : (old : Whole) (new : Play) (s : Stage) (c : Option (List ℕ)) → stage_of new ≡ s → new.world ≡ old → old.is_spent ≡ false → Plays old (Ok tt) new (nothing s) c c
quiet old new s c stage world live = (
  record {
    stage = stage;
    events = ap events_of world ∙ sym (append-none (events_of old));
    tables = ap tables_in world;
    members = ap members_in world;
    live = ap (λ (w : Whole). w.is_spent) world ∙ live;
  },
  ([], refl, appends-nothing c),
)

pub nothing_yet : (old : Whole) (new : Play) (fault : RunFault) (p : Played) (c : Option (List ℕ)) → IsPlayFault fault → Plays old (Err fault) new p c c
nothing_yet old new fault p c is = (is, not_begun (tables_in old) (members_in old) (now_of old) p.acts c)

-- an event for which memory was wanting
pub unplayed : (old : Whole) (new : Play) (r : Result (Unit {0}) RunFault) (fault : RunFault) (p : Played) (c : Option (List ℕ)) → r ≡ Err fault → IsPlayFault fault → Plays old r new p c c
unplayed old new r fault p c is fits = subst (λ x. Plays old x new p c c) (sym is) (nothing_yet old new fault p c fits)

pub act_plays : (old : Whole) (new : Play) (r : Result (Unit {0}) RunFault) (act : Act) (s : Stage) (text : List ℕ) (c d : Option (List ℕ)) →
    PlayMoves old new (record { acts = act ∷ []; stage = s }) → PrintsAct (tables_in old) (members_in old) (now_of old) act text → WritesOrBegins c d r text → IfErr r IsPlayFault →
    Plays old r new (record { acts = act ∷ []; stage = s }) c d
act_plays old new (Ok done) act s text c d moves prints wrote err = (moves, (text, prints_one (tables_in old) (members_in old) (now_of old) act text prints, wrote))
act_plays old new (Err fault) act s text c d moves prints wrote err = (err, (act ∷ [], [], refl, text, prints_one (tables_in old) (members_in old) (now_of old) act text prints, wrote))

-- from the same world
pub plays_from : (mid old : Whole) (r : Result (Unit {0}) RunFault) (new : Play) (p q : Played) (c d : Option (List ℕ)) → mid ≡ old → p ≡ q → Plays mid r new p c d → Plays old r new q c d
plays_from mid old r new p q c d world same h =
    let P : Whole → Type 0 = λ w. Plays w r new q c d in
    let Q : Played → Type 0 = λ x. Plays mid r new x c d in
    subst P world (subst Q same h)

pub event_from : (old mid : Play) (s : Stage) (e f : Event) → mid.world ≡ old.world → stage_of mid ≡ s → e ≡ f →
    event_at (tables_in mid.world) (members_in mid.world) (stage_of mid) e ≡ event_at (tables_in old.world) (members_in old.world) s f
event_from old mid s e f world stage is = λ i. event_at (tables_in (world i)) (members_in (world i)) (stage i) (is i)

pub delivers_at : (old mid new : Play) (place : ℕ) (reading : ℤ) (message : Sent) (r : Result (Unit {0}) RunFault) (c d : Option (List ℕ)) →
    mid.world ≡ old.world → stage_of mid ≡ delivered (stage_of old) (suc place) → slice_get old.mail place ≡ Some message → reading ≡ reading_of (stage_of mid) message.addressee →
    Plays mid.world r new (event_at (tables_in mid.world) (members_in mid.world) (stage_of mid) (model.Deliver (place + 1) reading)) c d →
    Plays old.world r new (delivery (tables_in old.world) (members_in old.world) (stage_of old) (suc place) (nth old.mail (suc place))) c d
delivers_at old mid new place reading message r c d world stage is read h =
    let e : model.Deliver (place + 1) reading ≡ model.Deliver (suc place) (reading_of (stage_of old) message.addressee) =
    λ i. model.Deliver (add-one place i) ((read ∙ ap (λ s. reading_of s message.addressee) stage) i) in
    plays_from mid.world old.world r new _ _ c d world
    (event_from old mid (delivered (stage_of old) (suc place)) _ _ world stage e ∙ sym (ap (delivery (tables_in old.world) (members_in old.world) (stage_of old) (suc place)) is)) h

-- ---- one after the other

run_more : (s : Language) (n : ℕ) (w : World) (es fs : List Event) → run s n w (es ++ fs) ≡ run s n (run s n w es) fs
run_more s n w [] fs = refl
run_more s n w (e ∷ es) fs = run_more s n (happens s n w e) es fs

pub events_append : (xs ys : List Act) → events_in (xs ++ ys) ≡ events_in xs ++ events_in ys
events_append [] ys = refl
events_append (Happens e ∷ xs) ys = ap (λ es. e ∷ es) (events_append xs ys)
events_append (Asks m q ∷ xs) ys = ap (λ es. model.Ask m (select_of q) ∷ es) (events_append xs ys)
events_append (Refuses m r ∷ xs) ys = events_append xs ys

now_after : (old new : Whole) (es : List Event) → tables_in new ≡ tables_in old → members_in new ≡ members_in old → events_of new ≡ events_of old ++ es → now_of new ≡ run (language_of (tables_in old)) (members_in old) (now_of old) es
now_after old new es tables members events =
    (λ i. run (language_of (tables i)) (members i) (new_world (members i)) (events i)) ∙ run_more (language_in old) (members_in old) (new_world (members_in old)) (events_of old) es

module _ (tables : Tables) (n : ℕ) where
  prints_more : (w : World) (acts more : List Act) (text rest : List ℕ) → Prints tables n w acts text → Prints tables n (run (language_of tables) n w (events_in acts)) more rest → Prints tables n w (acts ++ more) (text ++ rest)
  prints_more w [] more text rest none h = subst (λ (t : List ℕ). Prints tables n w more (t ++ rest)) (sym none) h
  prints_more w (Happens e ∷ acts) more text rest (one, others, is, first, later) h =
      (one, others ++ rest, ap (λ t. t ++ rest) is ∙ append_assoc one others rest, first, prints_more (happens (language_of tables) n w e) acts more others rest later h)
  prints_more w (Asks m q ∷ acts) more text rest (one, others, is, first, later) h =
      (one, others ++ rest, ap (λ t. t ++ rest) is ∙ append_assoc one others rest, first, prints_more w acts more others rest later h)
  prints_more w (Refuses m r ∷ acts) more text rest (one, others, is, first, later) h =
      (one, others ++ rest, ap (λ t. t ++ rest) is ∙ append_assoc one others rest, first, prints_more w acts more others rest later h)

moved : (P : Tables → ℕ → World → Type 0) (t u : Tables) (m n : ℕ) (v w : World) → t ≡ u → m ≡ n → v ≡ w → P t m v → P u n w
moved P t u m n v w a b e h =
    let R : Tables → Type 0 = λ x. P x n w in
    let S : ℕ → Type 0 = λ x. P t x w in
    let T : World → Type 0 = λ x. P t m x in
    subst R a (subst S b (subst T e h))

-- so far these acts of p happened and are printed, and this is what is to come
pub record SoFar (old : Whole) (now : Play) (p rest : Played) (before after : Option (List ℕ)) : Type 0 where
  pub acts : List Act
  pub moves : PlayMoves old now (record { acts = acts; stage = stage_of now })
  pub printed : IsPrinted (tables_in old) (members_in old) (now_of old) acts before after
  pub acts_are : p.acts ≡ acts ++ rest.acts
  pub stage_is : p.stage ≡ rest.stage

pub so_far_nothing : (now : Play) (p : Played) (c : Option (List ℕ)) → now.world.is_spent ≡ false → SoFar now.world now p p c c
so_far_nothing now p c live = record {
  acts = [];
  moves = record { stage = refl; events = sym (append-none (events_of now.world)); tables = refl; members = refl; live = live };
  printed = ([], refl, appends-nothing c);
  acts_are = refl;
  stage_is = refl;
}

printed_more : (old : Whole) (mid : Play) (acts more : List Act) (s : Stage) (c d e : Option (List ℕ)) → PlayMoves old mid (record { acts = acts; stage = s }) → IsPrinted (tables_in old) (members_in old) (now_of old) acts c d →
    IsPrinted (tables_in mid.world) (members_in mid.world) (now_of mid.world) more d e → IsPrinted (tables_in old) (members_in old) (now_of old) (acts ++ more) c e
printed_more old mid acts more s c d e moves (text, prints, wrote) (rest, next, later) = (
  text ++ rest,
  prints_more (tables_in old) (members_in old) (now_of old) acts more text rest prints
      (let P : Tables → ℕ → World → Type 0 = λ t n w. Prints t n w more rest in moved P _ _ _ _ _ _ moves.tables moves.members (now_after old mid.world (events_in acts) moves.tables moves.members moves.events) next),
  appends-more c d e text rest wrote later,
)

begun_more : (old : Whole) (mid : Play) (acts more : List Act) (s : Stage) (c d e : Option (List ℕ)) → PlayMoves old mid (record { acts = acts; stage = s }) → IsPrinted (tables_in old) (members_in old) (now_of old) acts c d →
    IsBegun (tables_in mid.world) (members_in mid.world) (now_of mid.world) more d e → IsBegun (tables_in old) (members_in old) (now_of old) (acts ++ more) c e
begun_more old mid acts more s c d e moves (text, prints, wrote) (first, others, is, rest, next, later) = (
  acts ++ first,
  others,
  append_assoc acts first others ∙ ap (λ list. acts ++ list) is,
  text ++ rest,
  prints_more (tables_in old) (members_in old) (now_of old) acts first text rest prints
      (let P : Tables → ℕ → World → Type 0 = λ t n w. Prints t n w first rest in moved P _ _ _ _ _ _ moves.tables moves.members (now_after old mid.world (events_in acts) moves.tables moves.members moves.events) next),
  begins-more c d e text rest wrote later,
)

-- acts and stage are those of the whole
longer_begun : (t : Tables) (n : ℕ) (w : World) (acts more : List Act) (c d : Option (List ℕ)) → IsBegun t n w acts c d → IsBegun t n w (acts ++ more) c d
longer_begun t n w acts more c d (first, others, is, text, prints, wrote) = (first, others ++ more, sym (append_assoc first others more) ∙ ap (λ list. list ++ more) is, text, prints, wrote)

module _ (old : Whole) (mid new : Play) (p q : Played) (next : Stage → Played) (c d e : Option (List ℕ)) (so_far : SoFar old mid p (followed q next) c d) where
  pub so_far_more : Plays mid.world (Ok tt) new q d e → SoFar old new p (next (stage_of new)) c e
  so_far_more (moves, printed) = record {
    acts = so_far.acts ++ q.acts;
    moves = record {
      stage = refl;
      events = moves.events ∙ ap (λ es. es ++ events_in q.acts) so_far.moves.events ∙ append_assoc (events_of old) (events_in so_far.acts) (events_in q.acts) ∙ ap (λ es. events_of old ++ es) (sym (events_append so_far.acts q.acts));
      tables = moves.tables ∙ so_far.moves.tables;
      members = moves.members ∙ so_far.moves.members;
      live = moves.live;
    };
    printed = printed_more old mid so_far.acts q.acts (stage_of mid) c d e so_far.moves so_far.printed printed;
    acts_are = so_far.acts_are ∙ sym (append_assoc so_far.acts q.acts (next q.stage).acts) ∙ ap (λ s. (so_far.acts ++ q.acts) ++ (next s).acts) (sym moves.stage);
    stage_is = so_far.stage_is ∙ ap (λ s. (next s).stage) (sym moves.stage);
  }

  pub so_far_fails : (fault : RunFault) (after : Play) → Plays mid.world (Err fault) new q d e → Plays old (Err fault) after p c e
  so_far_fails fault after (is, begun) = (
    is,
    let P : List Act → Type 0 = λ list. IsBegun (tables_in old) (members_in old) (now_of old) list c e in
        subst P (append_assoc so_far.acts q.acts (next q.stage).acts ∙ sym so_far.acts_are)
        (longer_begun (tables_in old) (members_in old) (now_of old) (so_far.acts ++ q.acts) (next q.stage).acts c e
        (begun_more old mid so_far.acts q.acts (stage_of mid) c d e so_far.moves so_far.printed begun)),
  )

pub so_far_ends : (old : Whole) (now : Play) (p : Played) (c d : Option (List ℕ)) → SoFar old now p (nothing (stage_of now)) c d → Plays old (Ok tt) now p c d
so_far_ends old now p c d h =
    let same : h.acts ≡ p.acts = sym (h.acts_are ∙ append-none h.acts) in (
      record { stage = sym h.stage_is; events = h.moves.events ∙ ap (λ list. events_of old ++ events_in list) same; tables = h.moves.tables; members = h.moves.members; live = h.moves.live },
      let P : List Act → Type 0 = λ list. IsPrinted (tables_in old) (members_in old) (now_of old) list c d in subst P same h.printed,
    )

-- ---- texts, one more at a time

text_more : (outs : List Out) (i : ℕ) (o : Out) → i < length outs → o ≡ slice_index_or outs i o → flat_map output_text (take (i + 1) outs) ≡ flat_map output_text (take i outs) ++ output_text o
text_more outs i o lt is = ap (flat_map output_text) (take_more outs i o lt ∙ ap (λ x. take i outs ++ x ∷ []) (sym is)) ∙ sym (flat_map_more output_text [] (take i outs) o)

pub wrote_more : (outs : List Out) (i : ℕ) (o : Out) (c d e : Option (List ℕ)) → Appends c d (flat_map output_text (take i outs)) → Appends d e (output_text o) → i < length outs → o ≡ slice_index_or outs i o → Appends c e (flat_map output_text (take (i + 1) outs))
wrote_more outs i o c d e so next lt is = subst (λ (t : List ℕ). Appends c e t) (sym (text_more outs i o lt is)) (appends-more c d e _ _ so next)

pub wrote_part : (outs : List Out) (i : ℕ) (o : Out) (c d e : Option (List ℕ)) → Appends c d (flat_map output_text (take i outs)) → AppendsBeginning d e (output_text o) → i < length outs → o ≡ slice_index_or outs i o → AppendsBeginning c e (flat_map output_text outs)
wrote_part outs i o c d e so next lt is =
    let begun : AppendsBeginning c e (flat_map output_text (take i outs) ++ output_text o) = begins-more c d e _ _ so next in
    let longer = begins-longer c e (flat_map output_text (take (i + 1) outs)) (flat_map output_text (drop (i + 1) outs)) (subst (λ (t : List ℕ). AppendsBeginning c e t) (sym (text_more outs i o lt is)) begun) in
    subst (λ (t : List ℕ). AppendsBeginning c e t) (sym (flat_map-append output_text (take (i + 1) outs) (drop (i + 1) outs)) ∙ ap (flat_map output_text) (take-append-drop (i + 1) outs)) longer

-- at a fault
pub at_err : {T E : Type 0} (r : Result T E) (P Q : Type 0) → IsErr r → Q → MatchResult r (λ _. P) (λ _. Q)
at_err (Ok x) P Q failed q = cc
at_err (Err e) P Q failed q = q

pub event_plays : (old new : Play) (event : Event) (outs : List Out) (r : Result (Unit {0}) RunFault) (c d : Option (List ℕ)) →
    Gives (language_in old.world) (members_in old.world) (now_of old.world) event (outputs_of outs) →
    now_of new.world ≡ happens (language_in old.world) (members_in old.world) (now_of old.world) event →
    events_of new.world ≡ events_of old.world ++ event ∷ [] →
    tables_in new.world ≡ tables_in old.world → members_in new.world ≡ members_in old.world → new.world.is_spent ≡ false →
    new.clocks.items ≡ old.clocks.items → new.mail ≡ old.mail ++ map newly_sent (messages_in outs) →
    WritesOrBegins c d r (flat_map output_text outs) → IfErr r IsPlayFault →
    Plays old.world r new (event_at (tables_in old.world) (members_in old.world) (stage_of old) event) c d
event_plays old new event outs r c d gives now events tables members live clocks sent wrote err =
    let after : new.mail ≡ old.mail ++ map newly_sent (drop (length (now_of old.world).sent) (happens (language_in old.world) (members_in old.world) (now_of old.world) event).sent) =
    sent ∙ ap (λ ms. old.mail ++ map newly_sent ms) (sym (sent_after (language_in old.world) (members_in old.world) (now_of old.world) event outs gives)) in
    act_plays old.world new r (Happens event) _ (flat_map output_text outs) c d
    (record { stage = λ i. record { clocks = clocks i; world = now i; sent = after i }; events = events; tables = tables; members = members; live = live })
    (outs, gives, refl) wrote err

pub question_plays : (old new : Play) (m : ℕ) (query : QueryShape) (outs : List Out) (r : Result (Unit {0}) RunFault) (c d : Option (List ℕ)) →
    Gives (language_in old.world) (members_in old.world) (now_of old.world) (model.Ask m (select_of query)) (outputs_of outs) → All (HasColumns (tables_in old.world) query.table) outs →
    now_of new.world ≡ now_of old.world → events_of new.world ≡ events_of old.world ++ model.Ask m (select_of query) ∷ [] →
    tables_in new.world ≡ tables_in old.world → members_in new.world ≡ members_in old.world → new.world.is_spent ≡ false →
    new.clocks.items ≡ old.clocks.items → new.mail ≡ old.mail → WritesOrBegins c d r (flat_map output_text outs) → IfErr r IsPlayFault →
    Plays old.world r new (record { acts = Asks m query ∷ []; stage = stage_of old }) c d
question_plays old new m query outs r c d gives columns now events tables members live clocks mail wrote err =
    act_plays old.world new r (Asks m query) (stage_of old) (flat_map output_text outs) c d
    (record { stage = λ i. record { clocks = clocks i; world = now i; sent = mail i }; events = events; tables = tables; members = members; live = live })
    (outs, gives, columns, refl) wrote err

pub refusal_plays : (old : Play) (m : ℕ) (refusal : Refusal) (r : Result (Unit {0}) RunFault) (c d : Option (List ℕ)) → old.world.is_spent ≡ false →
    WritesOrBegins c d r (output_text (RefusedOut m refusal)) → IfErr r IsPlayFault → Plays old.world r old (record { acts = Refuses m refusal ∷ []; stage = stage_of old }) c d
refusal_plays old m refusal r c d live wrote err =
    act_plays old.world old r (Refuses m refusal) (stage_of old) (output_text (RefusedOut m refusal)) c d
    (record { stage = refl; events = sym (append-none (events_of old.world)); tables = refl; members = refl; live = live })
    refl wrote err

-- a text that is no question, or memory was refused to its reader
pub refused_plays : (old : Play) (m : ℕ) (refusal : Refusal) (answer : Result QueryShape Refusal) (r : Result (Unit {0}) RunFault) (c d : Option (List ℕ)) → old.world.is_spent ≡ false →
    (refusal ≡ NoMemory) ⊎ (answer ≡ Err refusal) → (refusal ≡ NoMemory → (r ≡ Err (RefusedFault NoMemory)) × (d ≡ c)) → WritesOrBegins c d r (output_text (RefusedOut m refusal)) → IfErr r IsPlayFault →
    Plays old.world r old (asked (tables_in old.world) (members_in old.world) (stage_of old) m answer) c d
refused_plays old m refusal answer r c d live (inl memory) ends wrote err =
    let p = asked (tables_in old.world) (members_in old.world) (stage_of old) m answer in
    let done = ends memory in
    let P : Result (Unit {0}) RunFault → Type 0 = λ x. Plays old.world x old p c d in
    let Q : Option (List ℕ) → Type 0 = λ x. Plays old.world (Err (RefusedFault NoMemory)) old p c x in
    subst P (sym done.0) (subst Q (sym done.1) (nothing_yet old.world old (RefusedFault NoMemory) p c refl))
refused_plays old m refusal answer r c d live (inr is) ends wrote err =
    let P : Result QueryShape Refusal → Type 0 = λ x. Plays old.world r old (asked (tables_in old.world) (members_in old.world) (stage_of old) m x) c d in
    subst P (sym is) (refusal_plays old m refusal r c d live wrote err)

module _ (old new : Play) (r : Result (Unit {0}) RunFault) (c d : Option (List ℕ)) where
  pub delivers_some : (place k : ℕ) → suc place ≡ k →
      Plays old.world r new (delivery (tables_in old.world) (members_in old.world) (stage_of old) (suc place) (nth old.mail (suc place))) c d →
      Plays old.world r new (delivery (tables_in old.world) (members_in old.world) (stage_of old) k (nth old.mail k)) c d
  delivers_some place k is h =
      let P : ℕ → Type 0 = λ j. Plays old.world r new (delivery (tables_in old.world) (members_in old.world) (stage_of old) j (nth old.mail j)) c d in subst P is h

pub delivers_none : (old : Play) (k : ℕ) (c : Option (List ℕ)) → nth old.mail k ≡ None → old.world.is_spent ≡ false →
    Plays old.world (Ok tt) old (delivery (tables_in old.world) (members_in old.world) (stage_of old) k (nth old.mail k)) c c
delivers_none old k c none live =
    plays_from old.world old.world (Ok tt) old _ _ c c refl (ap (delivery (tables_in old.world) (members_in old.world) (stage_of old) k) (sym none)) (quiet old.world old (stage_of old) c refl refl live)
