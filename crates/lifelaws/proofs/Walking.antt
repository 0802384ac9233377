-- A life follows the run, step by step.
use Rattle.std.proofs.Common.{◌≡◌, ◌∙◌, ℕ, ℤ, zero, suc, ◌+◌, ◌==◌, ◌&&◌, Bool, true, false, Option, Some, None, List, [], ◌∷◌, ◌++◌, length, filter, fold, refl, sym, ap, subst, arith, inl, inr, append_assoc}
use Rattle.std.specs.Prelude.{if◌then◌else◌, slice_get, option_and_then}
use Rattle.std.specs.Option.{option_map_or}
use Rattle.std.proofs.lemmas.Bool.{cond-true, cond-false, cases_Bool, cond_both, eqb-false}
use Rattle.std.proofs.lemmas.Option.{same_Some}
use Rattle.model.specs.Lists.{nth}
use Rattle.model.specs.Transactions.{Language}
use Rattle.model.specs.Members.{Node}
use Rattle.model.specs.Steps.{Effect, Moves, Refuses, Nothing, on_message}
use Rattle.model.specs.Kept.{node_after}
use Rattle.model.specs.declared.message.Message.{Message}
use Rattle.model.specs.declared.event.Job.{Job}
use Rattle.model.specs.declared.event.Job.TheVariants.{Local, Delivery}
use Rattle.model.specs.declared.event.Left.{Left}
use Rattle.model.specs.Worlds.{World, Event, Deliver, Stop, Start, Torn, Ask, fresh, new_world, started, stopped, effect, with_node, done, node_left, is_for, does, delivers, tears, stops, starts, happens, run}
use Rattle.safety.specs.Floors.{WasAt}
use Rattle.safety.proofs.Lists.{if_there, same_some}
use Rattle.safety.proofs.Given.{nth_same}
use Rattle.safety.proofs.Moments.{nth_other}
use Rattle.safety.proofs.Runs.{run_append}
use Rattle.onelist.specs.Explained.{Stops as IsStopOf}
use Rattle.onelist.proofs.Upkeep as upkeep
use Rattle.keep.specs.Durable.{Durable}
use Rattle.node.specs.View.{durable_of, started_from, works}
use Rattle.flight.specs.Lives.{last_mark}
use Rattle.flight.specs.declared.life.Opening.{Opening}
use Rattle.flight.specs.declared.life.Packet.{Packet}
use Rattle.flight.specs.declared.life.Packet.TheVariants as packet
use Rattle.flight.specs.declared.life.Step.{Step}
use Rattle.flight.specs.declared.life.Life.{Life}
use Rattle.flight.specs.declared.life.Ending.{Ending}
use Rattle.flight.specs.declared.life.Ending.TheVariants as ending
use Rattle.sqlchecks.specs.Columns.{Tables}
use Rattle.sqlread.specs.Meaning.{language_of, select_of}
use Rattle.cells.specs.Lives.{opened_with, stepped, work_of}
use Rattle.world.specs.View.{if_up}
use Rattle.moments.specs.declared.moment.Deed.{Deed}
use Rattle.moments.specs.declared.moment.Deed.TheVariants.{Opens, Takes, Tears, Answers, Stops}
use Rattle.moments.specs.declared.moment.Moment.{Moment}
use Rattle.moments.specs.declared.recorded.Recorded.{Recorded}
use Rattle.moments.specs.Moments.{step_moments, torn_moments, end_moments}
use Rattle.moments.specs.Past.{Past, IsSent, after}
use Rattle.moments.specs.Behind.{Evidence, life_at, step_at, job_event, IsJob, IsTaken, IsCut, IsOpened, HasStored, IsAnsweredBy, IsLifeBegun, IsLifeCut, IsBehindDeed, IsBehind}
use Rattle.auditor.specs.Audited.{Leads}
use Rattle.lifelaws.specs.Lives.{begun}
use Rattle.lifelaws.proofs.Growing.{IsMove}
use Rattle.lifelaws.proofs.Ordering.{and_true, is_done, is_deed, in_order}

-- ---- what is done at other nodes

module _ (language : Language) (n : ℕ) (w : World) (me m : ℕ) (other : m ≡ me → ⊥) where
  abbrev IsSame : World → Type 0
  IsSame v = nth v.nodes me ≡ nth w.nodes me

  put_apart : (x : Node) (sent : List Message) → IsSame (with_node w m x sent)
  put_apart x sent = nth_other w.nodes m x me (λ e. other (sym e))

  done_apart : (e : Effect) → IsSame (done w m e)
  done_apart (Moves a) = put_apart a.node a.sent
  done_apart (Refuses refusal) = refl
  done_apart Nothing = refl

  does_apart : (job : Job) → IsSame (does language n w m job (nth w.nodes m))
  does_apart job = if_there (nth w.nodes m) _ w IsSame (λ x l. cond_both x.up _ w IsSame (λ p. done_apart (effect language n w m job x)) (λ p. refl)) refl

  starts_apart : IsSame (starts w m (nth w.nodes m))
  starts_apart = if_there (nth w.nodes m) _ w IsSame (λ x l. cond_both x.up w _ IsSame (λ p. refl) (λ p. put_apart (started x) [])) refl

  stops_apart : IsSame (stops w m (nth w.nodes m))
  stops_apart = if_there (nth w.nodes m) _ w IsSame (λ x l. cond_both x.up _ w IsSame (λ p. put_apart (stopped x) []) (λ p. refl)) refl

  tears_apart : (job : Job) (left : Left) → IsSame (tears language n w m job left (nth w.nodes m))
  tears_apart job left = if_there (nth w.nodes m) _ w IsSame (λ x l. cond_both (x.up && is_for w m job) _ w IsSame (λ p. put_apart (stopped (node_left left x (effect language n w m job x))) []) (λ p. refl)) refl

-- a delivery is one at its addressee
delivers_at : (language : Language) (n : ℕ) (p : Past) (at node : ℕ) (reading : ℤ) (message : Message) (k : ℕ) → IsSent p at node message k →
    happens language n p.world (Deliver k reading) ≡ does language n p.world node (Delivery k reading) (nth p.world.nodes node)
delivers_at language n p at node reading message k sent =
    ap (delivers language n p.world (Delivery k reading)) sent.is ∙ ap (λ (m : ℕ). does language n p.world m (Delivery k reading) (nth p.world.nodes m)) sent.addressed

job_at : (language : Language) (n : ℕ) (p : Past) (node : ℕ) (t : Packet) (job : Job) → IsJob p node t job → happens language n p.world (job_event node job) ≡ does language n p.world node job (nth p.world.nodes node)
job_at language n p node (packet.Local input) job is =
    let P : Job → Type 0 = λ j. happens language n p.world (job_event node j) ≡ does language n p.world node j (nth p.world.nodes node) in
    subst P (sym is) refl
job_at language n p node (packet.Delivered at reading message) job is =
    let P : Job → Type 0 = λ j. happens language n p.world (job_event node j) ≡ does language n p.world node j (nth p.world.nodes node) in
    subst P (sym is.2) (delivers_at language n p at node reading message is.0 is.1)

job_apart : (language : Language) (n : ℕ) (p : Past) (me node : ℕ) (t : Packet) (job : Job) → (node ≡ me → ⊥) → IsJob p node t job → nth (happens language n p.world (job_event node job)).nodes me ≡ nth p.world.nodes me
job_apart language n p me node t job other is =
    ap (λ (w : World). nth w.nodes me) (job_at language n p node t job is) ∙ does_apart language n p.world me node other job

-- what these events leave of member me
abbrev left_of : Language → ℕ → Past → ℕ → List Event → Option Node
left_of language n p me events = nth (run language n p.world events).nodes me

abbrev IsSameMember : Language → ℕ → Past → ℕ → List Event → Type 0
IsSameMember language n p me events = left_of language n p me events ≡ nth p.world.nodes me

by_event : (language : Language) (n : ℕ) (p : Past) (me : ℕ) (e : Event) (events : List Event) → events ≡ e ∷ [] → nth (happens language n p.world e).nodes me ≡ nth p.world.nodes me → IsSameMember language n p me events
by_event language n p me e events is same = ap (left_of language n p me) is ∙ same

begun_apart : (r : Evidence) (n : ℕ) (p : Past) (me node k : ℕ) (o : Option Life) (events : List Event) → (node ≡ me → ⊥) → IsLifeBegun r n p node k o events → IsSameMember (language_of r.tables) n p me events
begun_apart r n p me node k None events other h = absurd h
begun_apart r n p me node zero (Some l) events other h = ap (left_of (language_of r.tables) n p me) h.1
begun_apart r n p me node (suc k) (Some l) events other h = by_event (language_of r.tables) n p me (Start node) events h.2 (starts_apart (language_of r.tables) n p.world me node other)

taken_apart : (r : Evidence) (n : ℕ) (p : Past) (me node : ℕ) (o : Option Step) (events : List Event) → (node ≡ me → ⊥) → IsTaken r.version r.tables n p node o events → IsSameMember (language_of r.tables) n p me events
taken_apart r n p me node None events other h = absurd h
taken_apart r n p me node (Some s) events other h = by_event (language_of r.tables) n p me (job_event node h.0) events h.3 (job_apart (language_of r.tables) n p me node s.packet h.0 other h.1)

cut_apart : (language : Language) (n : ℕ) (p : Past) (me node : ℕ) (next : Option Life) (e : Ending) (events : List Event) → (node ≡ me → ⊥) → IsCut p node next e events → IsSameMember language n p me events
cut_apart language n p me node next ending.Up events other h = absurd h
cut_apart language n p me node next ending.Stopped events other h = absurd h
cut_apart language n p me node next (ending.Torn s) events other h = by_event language n p me (Torn node h.0 h.1) events h.4 (tears_apart language n p.world me node other h.0 h.1)

life_cut_apart : (r : Evidence) (n : ℕ) (p : Past) (me node k : ℕ) (o : Option Life) (events : List Event) → (node ≡ me → ⊥) → IsLifeCut r p node k o events → IsSameMember (language_of r.tables) n p me events
life_cut_apart r n p me node k None events other h = absurd h
life_cut_apart r n p me node k (Some l) events other h = cut_apart (language_of r.tables) n p me node (life_at r.lives node (k + 1)) l.ending events other h

asked_same : (r : Evidence) (n : ℕ) (p : Past) (me node : ℕ) (o : Option Recorded) (events : List Event) → IsAnsweredBy r n p node o events → IsSameMember (language_of r.tables) n p me events
asked_same r n p me node None events h = absurd h
asked_same r n p me node (Some a) events h = by_event (language_of r.tables) n p me (Ask node (select_of h.1.0)) events h.1.5 refl

apart : (node me : ℕ) → ((node == me) && true) ≡ false → node ≡ me → ⊥
apart node me h = eqb-false node me (sym (and_true (node == me)) ∙ h)

-- what is no deed of member me leaves it as it was
same_member : (r : Evidence) (n : ℕ) (p : Past) (me node : ℕ) (d : Deed) (events : List Event) → IsBehindDeed r n p node d events → ((node == me) && is_done d) ≡ false → IsSameMember (language_of r.tables) n p me events
same_member r n p me node (Opens k) events h passed = begun_apart r n p me node k (life_at r.lives node k) events (apart node me passed) h
same_member r n p me node (Takes k step) events h passed = taken_apart r n p me node (step_at r.lives node k step) events (apart node me passed) h
same_member r n p me node (Tears k) events h passed = life_cut_apart r n p me node k (life_at r.lives node k) events (apart node me passed) h
same_member r n p me node (Answers k) events h passed = asked_same r n p me node (slice_get r.answers k) events h
same_member r n p me node (Stops k) events h passed = by_event (language_of r.tables) n p me (Stop node) events h (stops_apart (language_of r.tables) n p.world me node (apart node me passed))

-- ---- the deeds of one node, one by one

-- the events of a moment, at which member me was this
pub record IsStep (r : Evidence) (events : List Event) (me : ℕ) (x : Option Node) (m : Moment) : Type 0 where
  pub early : List Event
  pub now : List Event
  pub late : List Event
  pub past : Past
  pub is : early ++ (now ++ late) ≡ events
  pub world : past.world ≡ run (language_of r.tables) (length r.lives) (new_world (length r.lives)) early
  pub at : nth past.world.nodes me ≡ x
  pub behind : IsBehind r (length r.lives) past m now

-- what the moment leaves
abbrev pub next_of : (r : Evidence) (events : List Event) (me : ℕ) (x : Option Node) (m : Moment) → IsStep r events me x m → Option Node
next_of r events me x m s = left_of (language_of r.tables) (length r.lives) s.past me s.now

abbrev pub Walks : Evidence → List Event → ℕ → Option Node → List Moment → Type 0
Walks r events me x [] = Unit {0}
Walks r events me x (m ∷ ms) = (s : IsStep r events me x m) × Walks r events me (next_of r events me x m s) ms

pub walks : (r : Evidence) (events : List Event) (me : ℕ) (p q : Past) (early late : List Event) (ms : List Moment) → early ++ late ≡ events → p.world ≡ run (language_of r.tables) (length r.lives) (new_world (length r.lives)) early →
    Leads r (length r.lives) p ms late q → Walks r events me (nth p.world.nodes me) (filter (is_deed me) ms)
walks r events me p q early late [] is world led = tt
walks r events me p q early late (m ∷ ms) is world led =
    let language : Language = language_of r.tables in
    let n : ℕ = length r.lives in
    let now : List Event = led.0 in
    let joined : early ++ (now ++ led.1) ≡ events = ap (λ (es : List Event). early ++ es) (sym led.2) ∙ is in
    let then_ : (after language n p m.mark now).world ≡ run language n (new_world n) (early ++ now) = ap (λ (w : World). run language n w now) world ∙ sym (run_append language n early now (new_world n)) in
    let rest = walks r events me (after language n p m.mark now) q (early ++ now) led.1 ms (append_assoc early now led.1 ∙ joined) then_ led.4 in
    elim (cases_Bool (is_deed me m)) [
      | inl held ↦ subst (λ (xs : List Moment). Walks r events me (nth p.world.nodes me) xs) (sym (cond-true (is_deed me m) (m ∷ filter (is_deed me) ms) (filter (is_deed me) ms) held))
          (record { early = early; now = now; late = led.1; past = p; is = joined; world = world; at = refl; behind = led.3 }, rest)
      | inr missed ↦ subst (λ (xs : List Moment). Walks r events me (nth p.world.nodes me) xs) (sym (cond-false (is_deed me m) (m ∷ filter (is_deed me) ms) (filter (is_deed me) ms) missed))
          (subst (λ (o : Option Node). Walks r events me o (filter (is_deed me) ms)) (same_member r n p me m.node m.deed now led.3 missed) rest)
    ]

-- ---- one step

module _ (language : Language) (n : ℕ) (w : World) (me : ℕ) (x : Node) (at : nth w.nodes me ≡ Some x) (up : x.up ≡ true) where
  done_here : (e : Effect) → nth (done w me e).nodes me ≡ Some (node_after x e)
  done_here (Moves a) = nth_same w.nodes me x a.node at
  done_here (Refuses refusal) = at
  done_here Nothing = at

  does_here : (job : Job) → nth (does language n w me job (nth w.nodes me)).nodes me ≡ Some (node_after x (effect language n w me job x))
  does_here job =
      ap (λ (o : Option Node). nth (does language n w me job o).nodes me) at
      ∙ ap (λ (b : Bool). nth (if b then done w me (effect language n w me job x) else w).nodes me) up
      ∙ done_here (effect language n w me job x)

-- a packet that was there to be taken is what the life replays
steps_by : (t : Tables) (n : ℕ) (p : Past) (me : ℕ) (x : Node) (s : Step) (k : Packet) (job : Job) → s.packet ≡ k → IsJob p me k job → node_after x (effect (language_of t) n p.world me job x) ≡ stepped t n me x s
unfolding stepped
steps_by t n p me x s (packet.Local input) job e is =
    ap (λ (j : Job). node_after x (effect (language_of t) n p.world me j x)) is ∙ ap (λ (k : Packet). node_after x (works t n me (work_of k) x)) (sym e)
steps_by t n p me x s (packet.Delivered mark reading message) job e is =
    ap (λ (j : Job). node_after x (effect (language_of t) n p.world me j x)) is.2
    ∙ ap (λ (o : Option Message). node_after x (option_map_or (λ (m : Message). on_message (language_of t) n me reading m x) o Nothing)) is.1.is
    ∙ ap (λ (k : Packet). node_after x (works t n me (work_of k) x)) (sym e)

steps_so : (t : Tables) (n : ℕ) (p : Past) (me : ℕ) (x : Node) (s : Step) (job : Job) → IsJob p me s.packet job → node_after x (effect (language_of t) n p.world me job x) ≡ stepped t n me x s
steps_so t n p me x s job is = steps_by t n p me x s s.packet job refl is

no_stop : (me : ℕ) (job : Job) → IsStopOf me (job_event me job) → ⊥
no_stop me (Local input) h = elim h [ ]
no_stop me (Delivery k reading) h = elim h [ ]

-- member me takes the packet of a step
record IsTakenSo (t : Tables) (n : ℕ) (p : Past) (me : ℕ) (y : Node) (job : Job) : Type 0 where
  next : nth (happens (language_of t) n p.world (job_event me job)).nodes me ≡ Some y
  still : y.up ≡ true

takes_so : (t : Tables) (n : ℕ) (p : Past) (me : ℕ) (x : Node) (s : Step) (job : Job) → nth p.world.nodes me ≡ Some x → x.up ≡ true → IsJob p me s.packet job → IsTakenSo t n p me (stepped t n me x s) job
takes_so t n p me x s job at up is =
    let w : World = happens (language_of t) n p.world (job_event me job) in
    let y : Node = stepped t n me x s in
    let next : nth w.nodes me ≡ Some y =
    ap (λ (v : World). nth v.nodes me) (job_at (language_of t) n p me s.packet job is) ∙ does_here (language_of t) n p.world me x at up job ∙ ap Some (steps_so t n p me x s job is) in
    let found = (upkeep.onward (language_of t) n p.world (job_event me job)).up me x at up (no_stop me job) in
    let same : found.0 ≡ y = same_some (nth w.nodes me) found.0 y found.1 next in
    record { next = next; still = subst (λ (z : Node). z.up ≡ true) same found.2 }

-- in the run
next_so : (r : Evidence) (early : List Event) (p : Past) (me : ℕ) (y : Node) (job : Job) → p.world ≡ run (language_of r.tables) (length r.lives) (new_world (length r.lives)) early → IsTakenSo r.tables (length r.lives) p me y job →
    nth (run (language_of r.tables) (length r.lives) (new_world (length r.lives)) (early ++ job_event me job ∷ [])).nodes me ≡ Some y
next_so r early p me y job world so =
    let language : Language = language_of r.tables in
    let n : ℕ = length r.lives in
    let e : Event = job_event me job in
    ap (λ (w : World). nth w.nodes me) (run_append language n early (e ∷ []) (new_world n) ∙ ap (λ (w : World). happens language n w e) (sym world)) ∙ so.next

moves_so : (r : Evidence) (early : List Event) (p : Past) (me : ℕ) (x y : Node) (job : Job) → p.world ≡ run (language_of r.tables) (length r.lives) (new_world (length r.lives)) early → nth p.world.nodes me ≡ Some x → x.up ≡ true →
    IsTakenSo r.tables (length r.lives) p me y job → IsMove (language_of r.tables) (length r.lives) me x y
moves_so r early p me x y job world at up so = record {
  early = early;
  event = job_event me job;
  at = ap (λ (w : World). nth w.nodes me) (sym world) ∙ at;
  next = next_so r early p me y job world so;
  up = up;
  still = so.still;
}

-- ---- one life

-- member me goes through these steps in the run
abbrev pub GoesThrough : Evidence → List Event → ℕ → Node → List Step → Type 0
GoesThrough r events me x [] = Unit {0}
GoesThrough r events me x (s ∷ steps) =
    IsMove (language_of r.tables) (length r.lives) me x (stepped r.tables (length r.lives) me x s) × WasAt (language_of r.tables) (length r.lives) (new_world (length r.lives)) events me (stepped r.tables (length r.lives) me x s)
    × GoesThrough r events me (stepped r.tables (length r.lives) me x s) steps

-- the step that was cut short is one of a run, had it been made whole
abbrev pub WasCut : Evidence → ℕ → Node → Ending → Type 0
WasCut r me x ending.Up = Unit {0}
WasCut r me x ending.Stopped = Unit {0}
WasCut r me x (ending.Torn s) = IsMove (language_of r.tables) (length r.lives) me x (stepped r.tables (length r.lives) me x s)

abbrev pub gone : Evidence → ℕ → Node → List Step → Node
gone r me x steps = fold (stepped r.tables (length r.lives) me) x steps

pub record IsFollowed (r : Evidence) (events : List Event) (me : ℕ) (life : Life) : Type 0 where
  pub begins : WasAt (language_of r.tables) (length r.lives) (new_world (length r.lives)) events me (begun life)
  pub goes : GoesThrough r events me (begun life) life.steps.items
  pub cut : WasCut r me (gone r me (begun life) life.steps.items) life.ending

-- what is left once the steps are taken
record AreTaken (r : Evidence) (events : List Event) (me : ℕ) (x : Node) (steps : List Step) (tail : List Moment) : Type 0 where
  goes : GoesThrough r events me x steps
  up : (gone r me x steps).up ≡ true
  rest : Walks r events me (Some (gone r me x steps)) tail

-- what is left once one step is taken
record IsTakenOnce (r : Evidence) (events : List Event) (me : ℕ) (x y : Node) (left : Option Node) : Type 0 where
  move : IsMove (language_of r.tables) (length r.lives) me x y
  was : WasAt (language_of r.tables) (length r.lives) (new_world (length r.lives)) events me y
  up : y.up ≡ true
  next : left ≡ Some y

follow_step : (r : Evidence) (events : List Event) (me : ℕ) (x : Node) (s : Step) (m : Moment) (w : IsStep r events me (Some x) m) → x.up ≡ true → IsTaken r.version r.tables (length r.lives) w.past me (Some s) w.now →
    IsTakenOnce r events me x (stepped r.tables (length r.lives) me x s) (next_of r events me (Some x) m w)
follow_step r events me x s m w up (job, is, tells, one) =
    let language : Language = language_of r.tables in
    let n : ℕ = length r.lives in
    let y : Node = stepped r.tables n me x s in
    let so = takes_so r.tables n w.past me x s job w.at up is in
    let e : Event = job_event me job in
    let moment : (w.early ++ e ∷ []) ++ w.late ≡ events = append_assoc w.early (e ∷ []) w.late ∙ ap (λ (es : List Event). w.early ++ (es ++ w.late)) (sym one) ∙ w.is in
    record {
      move = moves_so r w.early w.past me x y job w.world w.at up so;
      was = record { early = w.early ++ e ∷ []; late = w.late; moment = moment; at = next_so r w.early w.past me y job w.world so };
      up = so.still;
      next = ap (left_of language n w.past me) one ∙ so.next;
    }

follow_steps : (r : Evidence) (events : List Event) (me k j : ℕ) (x : Node) (steps : List Step) (tail : List Moment) → x.up ≡ true → ((i : ℕ) → step_at r.lives me k (j + i) ≡ slice_get steps i) →
    Walks r events me (Some x) (step_moments me k j steps ++ tail) → AreTaken r events me x steps tail
follow_steps r events me k j x [] tail up at walked = record { goes = tt; up = up; rest = walked }
follow_steps r events me k j x (s ∷ steps) tail up at walked =
    let w = walked.0 in
    let here : step_at r.lives me k j ≡ Some s = ap (step_at r.lives me k) (let e : j ≡ j + 0 = omega arith in e) ∙ at 0 in
    let once = follow_step r events me x s (record { mark = s.mark; node = me; deed = Takes k j }) w up (subst (λ (o : Option Step). IsTaken r.version r.tables (length r.lives) w.past me o w.now) here w.behind) in
    let y : Node = stepped r.tables (length r.lives) me x s in
    let rest : Walks r events me (Some y) (step_moments me k (j + 1) steps ++ tail) = subst (λ (o : Option Node). Walks r events me o (step_moments me k (j + 1) steps ++ tail)) once.next walked.1 in
    let later = follow_steps r events me k (j + 1) y steps tail once.up (λ i. ap (step_at r.lives me k) (let e : j + 1 + i ≡ j + suc i = omega arith in e) ∙ at (suc i)) rest in
    record { goes = (once.move, once.was, later.goes); up = later.up; rest = later.rest }

-- ---- a life that begins

started_same : (z : Node) → started z ≡ started_from (durable_of (started z))
started_same z = refl

down_is : (z : Node) → if_up (Some z) ≡ None → z.up ≡ false
down_is z h = elim (cases_Bool z.up) [
  | inl up ↦ absurd (let e : Some z ≡ None = sym (ap (λ (b : Bool). if b then Some z else None) up) ∙ h in cc)
  | inr down ↦ down
]

starts_here : (w : World) (me : ℕ) (o : Option Node) (opening : Opening) → nth w.nodes me ≡ o → if_up o ≡ None → HasStored (nth (starts w me o).nodes me) opening → nth (starts w me o).nodes me ≡ Some (started_from (opened_with opening))
starts_here w me None opening at down stored = absurd (subst (λ (o : Option Node). HasStored o opening) at stored)
starts_here w me (Some z) opening at down stored =
    let next : nth (starts w me (Some z)).nodes me ≡ Some (started z) = ap (λ (b : Bool). nth (if b then w else with_node w me (started z) []).nodes me) (down_is z down) ∙ nth_same w.nodes me z (started z) at in
    let has = subst (λ (o : Option Node). HasStored o opening) next stored in
    next ∙ ap Some (started_same z ∙ ap started_from has.1)

opens_so : (t : Tables) (n : ℕ) (p : Past) (me k : ℕ) (o : Opening) (events : List Event) → IsOpened t n p me k o events → (k ≡ 0 → nth p.world.nodes me ≡ Some (fresh 0 None)) → left_of (language_of t) n p me events ≡ Some (started_from (opened_with o))
opens_so t n p me zero o events h first = ap (left_of (language_of t) n p me) h.1 ∙ first refl ∙ ap (λ (d : Durable). Some (started_from d)) (sym h.0)
opens_so t n p me (suc k) o events h first = ap (left_of (language_of t) n p me) h.2 ∙ starts_here p.world me (nth p.world.nodes me) o refl h.0 h.1

-- ---- how a life ends

record IsEnded (r : Evidence) (events : List Event) (me : ℕ) (x : Node) (e : Ending) (ms : List Moment) : Type 0 where
  cut : WasCut r me x e
  left : Option Node
  rest : Walks r events me left ms

ends_so : (r : Evidence) (events : List Event) (me k mark : ℕ) (x : Node) (l : Life) (e : Ending) (ms : List Moment) → x.up ≡ true → life_at r.lives me k ≡ Some l → l.ending ≡ e →
    Walks r events me (Some x) (torn_moments me k e ++ (end_moments me k mark e ++ ms)) → IsEnded r events me x e ms
ends_so r events me k mark x l ending.Up ms up at is walked = record { cut = tt; left = Some x; rest = walked }
ends_so r events me k mark x l ending.Stopped ms up at is walked = record { cut = tt; left = _; rest = walked.1 }
ends_so r events me k mark x l (ending.Torn s) ms up at is walked =
    let w = walked.0 in
    let behind = subst (λ (o : Option Life). IsLifeCut r w.past me k o w.now) at w.behind in
    let cut = subst (λ (e : Ending). IsCut w.past me (life_at r.lives me (k + 1)) e w.now) is behind in
    let so = takes_so r.tables (length r.lives) w.past me x s cut.0 w.at up cut.2 in
    record { cut = moves_so r w.early w.past me x (stepped r.tables (length r.lives) me x s) cut.0 w.world w.at up so; left = _; rest = walked.1 }

-- ---- all lives of a node

not_first : (k : ℕ) (x y : Option Node) → k + 1 ≡ 0 → y ≡ x
not_first k x y e = absurd (omega (arith, e))

follow_lives : (r : Evidence) (events : List Event) (me k : ℕ) (lives : List Life) (x : Option Node) → (k ≡ 0 → x ≡ Some (fresh 0 None)) → ((i : ℕ) → life_at r.lives me (k + i) ≡ slice_get lives i) → Walks r events me x (in_order me k lives) →
    (i : ℕ) (life : Life) → slice_get lives i ≡ Some life → IsFollowed r events me life
follow_lives r events me k [] x first at walked i life found = absurd (cc found)
follow_lives r events me k (l ∷ lives) x first at walked i life found =
    let language : Language = language_of r.tables in
    let n : ℕ = length r.lives in
    let w = walked.0 in
    let here : life_at r.lives me k ≡ Some l = ap (life_at r.lives me) (let e : k ≡ k + 0 = omega arith in e) ∙ at 0 in
    let opened = subst (λ (o : Option Life). IsLifeBegun r n w.past me k o w.now) here w.behind in
    let next : left_of language n w.past me w.now ≡ Some (begun l) = opens_so r.tables n w.past me k l.opening w.now opened (λ e. w.at ∙ first e) in
    let ran : run language n (new_world n) (w.early ++ w.now) ≡ run language n w.past.world w.now = run_append language n w.early w.now (new_world n) ∙ ap (λ (v : World). run language n v w.now) (sym w.world) in
    let begins : WasAt language n (new_world n) events me (begun l) = record { early = w.early ++ w.now; late = w.late; moment = append_assoc w.early w.now w.late ∙ w.is; at = ap (λ (v : World). nth v.nodes me) ran ∙ next } in
    let ending : List Moment = torn_moments me k l.ending ++ (end_moments me k (last_mark l) l.ending ++ in_order me (k + 1) lives) in
    let rest : Walks r events me (Some (begun l)) (step_moments me k 0 l.steps.items ++ ending) = subst (λ (o : Option Node). Walks r events me o (step_moments me k 0 l.steps.items ++ ending)) next walked.1 in
    let steps = follow_steps r events me k 0 (begun l) l.steps.items ending refl (λ j. ap (step_at r.lives me k) (let e : 0 + j ≡ j = omega arith in e) ∙ ap (option_and_then (λ (y : Life). slice_get y.steps.items j)) here) rest in
    let ends = ends_so r events me k (last_mark l) (gone r me (begun l) l.steps.items) l l.ending (in_order me (k + 1) lives) steps.up here refl steps.rest in
    by_place i found (record { begins = begins; goes = steps.goes; cut = ends.cut })
    (follow_lives r events me (k + 1) lives ends.left (λ e. not_first k (Some (fresh 0 None)) ends.left e) (λ j. ap (life_at r.lives me) (let e : k + 1 + j ≡ k + suc j = omega arith in e) ∙ at (suc j)) ends.rest)
  where
    by_place : (i : ℕ) → slice_get (l ∷ lives) i ≡ Some life → IsFollowed r events me l → ((j : ℕ) (other : Life) → slice_get lives j ≡ Some other → IsFollowed r events me other) → IsFollowed r events me life
    by_place zero found now later = subst (λ (y : Life). IsFollowed r events me y) (same_Some l life found) now
    by_place (suc j) found now later = later j life found

pub lives_followed : (r : Evidence) (events : List Event) (me : ℕ) (own : List Life) → ((i : ℕ) → life_at r.lives me i ≡ slice_get own i) → Walks r events me (Some (fresh 0 None)) (in_order me 0 own) →
    (k : ℕ) (life : Life) → slice_get own k ≡ Some life → IsFollowed r events me life
lives_followed r events me own at walked = follow_lives r events me 0 own (Some (fresh 0 None)) (λ e. refl) (λ i. ap (life_at r.lives me) (let e : 0 + i ≡ i = omega arith in e) ∙ at i) walked
