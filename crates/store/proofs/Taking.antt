-- A step of a member of a store, as events of a run.
use Rattle.std.proofs.Common.{◌≡◌, ◌∙◌, ℕ, ◌+◌, ◌⊎◌, ⊎_elim, inl, inr, Bool, true, false, Option, Some, Result, Ok, Err, IsErr, MatchBool, List, [], ◌∷◌, ◌++◌, length, map, refl, sym, ap, subst, append-nil, arith}
use Rattle.std.specs.List.{All, Contains}
use Rattle.std.proofs.lemmas.List.Elements.{All-append}
use Rattle.std.specs.Option.{option_map_or}
use Rattle.std.proofs.lemmas.Bool.{eq-eqb}
use Rattle.std.specs.Prelude.{◌==◌, ℤ}
use Rattle.fault.specs.declared.refusal.Refusal.{Refusal as Reason}
use Rattle.fault.specs.declared.refusal.Refusal.TheVariants.{NodeDown}
use Rattle.model.specs.Lists.{nth, with_nth}
use Rattle.model.specs.Members as model
use Rattle.model.specs.Steps.{Effect, Moves, Refuses as Denies, Nothing, on_message}
use Rattle.model.specs.declared.entry.Told.{Told}
use Rattle.model.specs.declared.event.Job.{Job}
use Rattle.model.specs.declared.event.Job.TheVariants.{Local as TheLocal, Delivery}
use Rattle.model.specs.declared.message.Input.{Input}
use Rattle.model.specs.declared.message.Message.{Message}
use Rattle.model.specs.Worlds.{World, Event, Torn, Output, effect, is_for, node_left, numbered, run, stopped, with_node}
use Rattle.model.specs.Worlds.Output.{Applied, Refused as Refuses}
use Rattle.keep.specs.Durable.{Durable}
use Rattle.keep.specs.declared.error.StoreError.{StoreError}
use Rattle.sessions.specs.Kills.{durable, whole, Steps}
use Rattle.sqlchecks.specs.Columns.{Tables}
use Rattle.sqlread.specs.Meaning.{language_of}
use Rattle.node.specs.declared.node.Out.{Out}
use Rattle.node.specs.declared.node.Fault.{Fault}
use Rattle.node.specs.declared.node.Fault.TheVariants.{Kept, Down}
use Rattle.node.specs.View.{told_between, works, IsEmpty, IsGiven}
use Rattle.node.specs.Work.{Work, Local, Delivered}
use Rattle.runlaws.specs.Going.{Goes, HasGiven, WasTold}
use Rattle.runlaws.proofs.Going.{made, refused, stop_after, torn, torn_events, torn_gave, turned}
use Rattle.store.specs.declared.store.Store.{Store}
use Rattle.store.specs.declared.steps.Letter.{Letter}
use Rattle.store.specs.declared.steps.Stepped.{Stepped}
use Rattle.store.specs.declared.refusal.StoreRefusal.{StoreRefusal}
use Rattle.store.specs.Journals.{IsSpent}
use Rattle.store.specs.Nodes.{StepsTo}
use Rattle.store.specs.Seats.{IsClean}
use Rattle.journal.specs.declared.line.Taken.{Taken}
use Rattle.journal.specs.declared.line.Line.{Line}
use Rattle.journal.specs.declared.line.Line.TheVariants.{Takes}
use Rattle.store.specs.Lines.{Lines, and_then, behind, lines_in, waiting}
use Rattle.store.specs.Noting.{AreWritten, IsEnd, told_in}
use Rattle.flight.specs.declared.outcome.Outcome.{Outcome as Noted}
use Rattle.store.specs.Recording.{IsQuiet, IsStep, NobodySays, OneSays, job_of}
use Rattle.store.specs.declared.scribe.Scribe.{Scribe}
use Rattle.store.specs.Continuing.{IsContinued, reading_in}
use Rattle.store.specs.Going.{AreFiled, Changes, EndsStep, GoesOnFrom, HasSent, HasStepped, Hears, IsAmong, IsBrought, IsIn, SaysWhy, Stops, ToldIn, with_begun}
use Rattle.store.proofs.Continuing.{continued_both, kept_same}
use Rattle.store.proofs.Lines.{lines_then, none_first}
use Rattle.store.proofs.Noting.{fall_written, step_told, step_written}
use Rattle.store.proofs.Recording.{SaysLess, all_true, of_more, recorded_step, silent_quiet}
use Rattle.store.proofs.Storing.{same_stored}
use Rattle.store.proofs.Going.{TellsLess, ends_spent, from_weaker, hears_more, hears_same, same_count, seat_in, seats_as, sits, spent_publishes, tidy, told_behind, told_silent, was_tidy, world_with}

-- what a step sends, and what it tells
abbrev pub messages_of : Result Out Fault → List Message
messages_of (Ok out) = out.messages.items
messages_of (Err fault) = []

abbrev pub told_of : Result Out Fault → List Told
told_of (Ok out) = out.told.items
told_of (Err fault) = []

-- where a member refuses, it says why
abbrev pub Says : ℕ → Result Out Fault → List (List Output) → Type 0
Says m (Ok out) gave = Unit {0}
Says m (Err (Kept reason)) gave = HasGiven gave (Refuses m reason)
Says m (Err (Down error)) gave = Unit {0}

nobody : (one : Told) → Contains [] one → ⊥
nobody one (k, l, p) = omega (arith, l)

-- an error says nothing
pub says_nothing : (m : ℕ) (r : Result Stepped StoreRefusal) (gave : List (List Output)) → IsErr r → SaysWhy m r gave
says_nothing m (Ok x) gave e = absurd (cc e)
says_nothing m (Err refusal) gave e = tt

-- ---- one member

module _ (tables : Tables) (n m : ℕ) (work : Work) (w : World) (x : model.Node) (at : nth w.nodes m ≡ Some x) (job : Job) (for : is_for w m job ≡ true)
    (same : (z : model.Node) → effect (language_of tables) n w m job z ≡ works tables n m work z) where
  -- what a step comes to
  pub record Turn (y : model.Node) (result : Result Out Fault) : Type 0 where
    pub goes : Goes (language_of tables) n w (with_node w m y (messages_of result))
    pub events_are : (event : Event) × IsStep m job event × (goes.events ≡ event ∷ [])
    pub tells : (one : Told) → Contains (told_of result) one → HasGiven goes.gave (Applied m one)
    pub told_are : (outs : List Output) × (goes.gave ≡ outs ∷ []) × (told_in outs ≡ told_of result)
    pub says : Says m result goes.gave

  steps : x.up ≡ true → Steps w m job
  steps up = record { node = x; at = at; up = up; for = for }

  given : (y : model.Node) (out : Out) → IsGiven x y (works tables n m work x) out →
      (Moves (record { node = y; sent = out.messages.items }) ≡ effect (language_of tables) n w m job x) ⊎ ((Nothing ≡ effect (language_of tables) n w m job x) × (y ≡ x) × (out.messages.items ≡ []) × (out.told.items ≡ []))
  given y out came = ⊎_elim
      (λ (moved : Moves (record { node = y; sent = out.messages.items }) ≡ works tables n m work x). inl (moved ∙ sym (same x)))
      (λ (none : (Nothing ≡ works tables n m work x) × (y ≡ x) × IsEmpty out). inr (none.0 ∙ sym (same x), none.1, none.2.0, none.2.2)) came

  pub turn : (y : model.Node) (result : Result Out Fault) → StepsTo tables n m work x y result → Turn y result
  unfolding told_between steps
  turn y (Ok out) s =
      let d = made (language_of tables) n w m job (steps s.0) y out.messages.items out.told.items (given y out s.1) s.2 in
      record { goes = d.goes; events_are = (whole m job, inl refl, d.events_are); tells = d.tells; told_are = (numbered (length w.sent) out.messages.items ++ map (Applied m) out.told.items, d.gave_is, step_told (length w.sent) m out.messages.items out.told.items); says = tt }
  turn y (Err (Kept reason)) s = go x.up refl s.1
    where
      go : (b : Bool) → x.up ≡ b → MatchBool b (Denies reason ≡ works tables n m work x) (reason ≡ NodeDown) → Turn y (Err (Kept reason))
      go true up is =
          let d = refused (language_of tables) n w m job (steps up) y reason (is ∙ sym (same x)) s.0 in
          record { goes = d.goes; events_are = (whole m job, inl refl, d.events_are); tells = λ one has. absurd (nobody one has); told_are = (Refuses m reason ∷ [], d.gave_is, refl); says = d.says }
      go false down is =
          let d = turned (language_of tables) n w m job x at down for y s.0 in
          record { goes = d.goes; events_are = (whole m job, inl refl, d.events_are); tells = λ one has. absurd (nobody one has); told_are = (Refuses m NodeDown ∷ [], d.gave_is, refl); says = subst (λ (r : Reason). HasGiven d.goes.gave (Refuses m r)) (sym is) d.says }
  turn y (Err (Down error)) s =
      let left = s.1.1 ∙ ap (λ (o : Effect). stopped (node_left s.1.0 x o)) (sym (same x)) in
      record {
        goes = torn (language_of tables) n w m job (steps s.0) y s.1.0 left;
        events_are = (Torn m job s.1.0, inr (s.1.0, refl), torn_events (language_of tables) n w m job (steps s.0) y s.1.0 left);
        tells = λ one has. absurd (nobody one has);
        told_are = ([], torn_gave (language_of tables) n w m job (steps s.0) y s.1.0 left, refl);
        says = tt;
      }

-- ---- one step of a store

module _ {K J I : Type 0} {an : _} {g : _} {s : _} {d : _} (contents : J → Option (List ℕ)) (honest : K → Type 0) (held : K → Durable → Type 0) (holds : I → Durable → Type 0) where
  -- a member took a step that is begun, after which lines came that record nothing
  abbrev pub So : (m : ℕ) (taken : Taken) (now : ℤ) → Work → (List (List Output) → Type 0) → Store K J I an g s d → Store K J I an g s d → Type 0
  So m taken now work gives old new = GoesOnFrom contents honest held holds (Takes m taken ∷ []) (IsBrought old m (job_of now taken) work) gives old new

  -- the events of the step, in the lines
  filed : (says : ℕ → List Noted → Type 0) (old new : Store K J I an g s d) (m : ℕ) (taken : Taken) (now : ℤ) (lines : Lines) (w v : World) (goes : Goes (language_of old.schema) (length old.seats.items) w v) → reading_in old.scribe ≡ Some now → All (IsQuiet says) (lines_in lines) → (event : Event) × IsStep m (job_of now taken) event × (goes.events ≡ event ∷ []) →
      (lines.groups ≡ [] → durable v ≡ durable w) → AreFiled old new (with_begun (Takes m taken ∷ []) lines) w goes.events
  filed says old new m taken now lines w v goes shown silent (event, is, are) same =
      let language = language_of old.schema in
      let n = length old.seats.items in
      subst (AreFiled old new (with_begun (Takes m taken ∷ []) lines) w) (sym are)
      (recorded_step language n says w (reading_in old.scribe) m taken lines event (IsSpent new.scribe) (now, shown, event, is, refl) silent
      (λ none. ap durable (sym (goes.leads ∙ ap (run language n w) are)) ∙ same none))

  -- a member took a step, what it sent came under way, and what it told was heard
  pub step_on : (old mid new : Store K J I an g s d) (at : ℕ) (taken : Taken) (now : ℤ) (work : Work) (result : Result Out Fault) → reading_in old.scribe ≡ Some now → HasStepped contents honest held holds old mid at work result → (IsSpent old.scribe → ⊥) → EndsStep contents (at + 1) mid new (messages_of result) (told_of result) →
      So (at + 1) taken now work (Says (at + 1) result) old new
  step_on old mid new at taken now work result shown h live e =
      let p = e.publishes in
      let C = h.changes in
      let m = at + 1 in
      let lines = and_then C.journal.0 p.journal.0 in
      let says = OneSays m (told_of result) in
      let quiet = subst (All (IsQuiet says)) (sym (lines_then C.journal.0 p.journal.0)) (All-append (IsQuiet says) (lines_in C.journal.0) (lines_in p.journal.0) (silent_quiet says (lines_in C.journal.0) C.journal.1) p.journal.1) in
      record {
        schema = p.schema ∙ C.schema;
        count = ap length p.seats ∙ same_count contents honest held holds old mid at h.before h.after C;
        lines = lines;
        journal = continued_both contents old.scribe mid.scribe new.scribe C.journal.0 p.journal.0 C.journal.2 p.journal.2;
        clean = λ k. was_tidy contents honest held holds old mid at h.before h.after C (subst (All (IsClean honest holds)) p.seats k);
        went = λ k w i brought.
            let neat = subst (All (IsClean honest holds)) p.seats k in
            let sat = sits contents honest held holds old mid at h.before h.after C w i in
            let seat_clean = tidy contents honest held holds old mid at h.before h.after C neat in
            let t = h.steps seat_clean sat.0 sat.2 in
            let b = brought live in
            let turned = turn old.schema (length old.seats.items) m work w sat.0 sat.1 (job_of now taken) b.0 b.1 t.0 result t.1.1 in
            let there = seat_in contents honest held holds old mid at h.before h.after C (λ was. absurd (live was)) w t.0 i t.1.0 in
            let less : TellsLess (IsAmong (told_of result)) (WasTold turned.goes.gave) = λ client number o one. record { member = m; told = one.0; client_is = one.2; number_is = one.3; outcome_is = one.4; given = turned.tells one.0 one.1 } in
            let given : SaysLess says (ToldIn turned.goes.gave) = λ k outcomes (is, has). subst (λ (i : ℕ). ToldIn turned.goes.gave i outcomes) (sym is) (of_more (Contains (told_of result)) (λ told. HasGiven turned.goes.gave (Applied m told)) turned.tells outcomes has) in
            let hears = hears_more (IsAmong (told_of result)) (WasTold turned.goes.gave) less mid.watched new.watched p.hears in
            let v = with_node w m t.0 (messages_of result) in (
              record {
                world = v;
                goes = turned.goes;
                events_are = filed says old new m taken now lines w v turned.goes shown quiet turned.events_are (λ none. same_stored w m sat.0 t.0 (messages_of result) sat.1 (h.stored (none_first C.journal.0.groups (behind C.journal.0.rest p.journal.0.groups) none) seat_clean old.schema (length old.seats.items) m sat.0 t.0 sat.2 t.1.0 t.1.1));
                outcomes_are = told_behind turned.goes.gave (Takes m taken) lines tt (all_true says (ToldIn turned.goes.gave) given (lines_in lines) quiet);
                written = λ up.
                    let ended = subst (λ (n : ℕ). IsEnd m n (told_of result) (lines_in p.journal.0) new.noted) C.noted (e.written up) in
                    let joined : lines_in (with_begun (Takes m taken ∷ []) lines) ≡ Takes m taken ∷ (lines_in C.journal.0 ++ lines_in p.journal.0) = lines_then (waiting (Takes m taken ∷ [])) lines ∙ ap (λ (l : List Line). Takes m taken ∷ l) (lines_then C.journal.0 p.journal.0) in
                    subst (λ (g : List (List Output)). AreWritten old.noted g (lines_in (with_begun (Takes m taken ∷ []) lines)) new.noted) (sym turned.told_are.1)
                    (subst (λ (l : List Line). AreWritten old.noted (turned.told_are.0 ∷ []) l new.noted) (sym joined)
                    (step_written old.noted new.noted m taken turned.told_are.0 (told_of result) (lines_in C.journal.0) (lines_in p.journal.0) turned.told_are.2 C.journal.1 ended));
                is_in = record {
                  seated = seats_as contents honest held holds mid new p.schema p.seats (world_with (with_nth w.nodes m t.0) w.sent) there;
                  under_way = λ up. p.letters up w.sent (there.under_way (λ was. up (p.spent was)));
                };
                hears = subst (λ v. Hears (WasTold turned.goes.gave) v new.watched) C.watched hears;
              },
              turned.says,
            );
      }

  -- the same of a member by its number
  pub stepped : (old mid new : Store K J I an g s d) (at m : ℕ) (taken : Taken) (now : ℤ) (work : Work) (result : Result Out Fault) → m ≡ at + 1 → reading_in old.scribe ≡ Some now → HasStepped contents honest held holds old mid at work result → (IsSpent old.scribe → ⊥) → EndsStep contents m mid new (messages_of result) (told_of result) →
      So m taken now work (Says m result) old new
  stepped old mid new at m taken now work result is shown h live p =
      subst (λ (k : ℕ). So k taken now work (Says k result) old new) (sym is)
      (step_on old mid new at taken now work result shown h live (subst (λ (k : ℕ). EndsStep contents k mid new (messages_of result) (told_of result)) is p))

  -- the store was spent in the midst of it
  pub stepped_last : (old mid : Store K J I an g s d) (at m : ℕ) (taken : Taken) (now : ℤ) (work : Work) → m ≡ at + 1 → reading_in old.scribe ≡ Some now → ((result : Result Out Fault) × HasStepped contents honest held holds old mid at work result) → (IsSpent old.scribe → ⊥) → IsSpent mid.scribe →
      So m taken now work (λ gave. Unit {0}) old mid
  stepped_last old mid at m taken now work is shown h live spent =
      from_weaker contents honest held holds (Takes m taken ∷ []) (IsBrought old m (job_of now taken) work) (IsBrought old m (job_of now taken) work) (Says m h.0) (λ gave. Unit {0}) old mid (λ w b. b) (λ gave says. tt)
      (stepped old mid mid at m taken now work h.0 is shown h.1 live (ends_spent contents honest held holds m mid mid (messages_of h.0) (told_of h.0) (spent_publishes contents honest held holds mid mid (messages_of h.0) (told_of h.0) refl refl refl (kept_same contents mid.scribe) spent) spent))

  -- the member went down, and its node was stopped, which is no event
  pub stepped_down : (old mid new : Store K J I an g s d) (at m : ℕ) (taken : Taken) (now : ℤ) (work : Work) (error : StoreError) → m ≡ at + 1 → reading_in old.scribe ≡ Some now → HasStepped contents honest held holds old mid at work (Err (Down error)) → (IsSpent old.scribe → ⊥) →
      Stops honest held holds m mid new → So m taken now work (λ gave. Unit {0}) old new
  stepped_down old mid new at m taken now work error is shown h live stops = subst (λ (k : ℕ). Stops honest held holds k mid new → So k taken now work (λ gave. Unit {0}) old new) (sym is) go stops
    where
      C : Changes contents honest holds old mid at h.before h.after
      C = h.changes

      go : Stops honest held holds (at + 1) mid new → So (at + 1) taken now work (λ gave. Unit {0}) old new
      go S =
          record {
            schema = S.schema ∙ C.schema;
            count = S.count ∙ same_count contents honest held holds old mid at h.before h.after C;
            lines = C.journal.0;
            journal = subst (λ (x : Option (Scribe J)). IsContinued contents old.scribe x C.journal.0) (sym S.scribe) C.journal.2;
            clean = λ k. was_tidy contents honest held holds old mid at h.before h.after C (S.clean k);
            went = λ k w i brought.
                let sat = sits contents honest held holds old mid at h.before h.after C w i in
                let seat_clean = tidy contents honest held holds old mid at h.before h.after C (S.clean k) in
                let t = h.steps seat_clean sat.0 sat.2 in
                let b = brought live in
                let turned = turn old.schema (length old.seats.items) (at + 1) work w sat.0 sat.1 (job_of now taken) b.0 b.1 t.0 (Err (Down error)) t.1.1 in
                let v = with_node w (at + 1) t.0 [] in
                let there = seat_in contents honest held holds old mid at h.before h.after C (λ was. absurd (live was)) w t.0 i t.1.0 in
                let in_mid : IsIn held holds mid v = subst (IsIn held holds mid) (ap (world_with (with_nth w.nodes (at + 1) t.0)) (sym (append-nil w.sent))) there in
                let down : t.0.up ≡ false = ap (λ (z : model.Node). z.up) t.1.1.1.1 in
                let still = stop_after w (at + 1) sat.0 t.0 sat.1 down in (
                  record {
                    world = v;
                    goes = turned.goes;
                    events_are = filed NobodySays old new (at + 1) taken now C.journal.0 w v turned.goes shown C.journal.1 turned.events_are (λ none. same_stored w (at + 1) sat.0 t.0 [] sat.1 (h.stored none seat_clean old.schema (length old.seats.items) (at + 1) sat.0 t.0 sat.2 t.1.0 t.1.1));
                    outcomes_are = told_behind turned.goes.gave (Takes (at + 1) taken) C.journal.0 tt (told_silent turned.goes.gave (lines_in C.journal.0) C.journal.1);
                    written = λ up.
                        subst (λ (g : List (List Output)). AreWritten old.noted g (lines_in (with_begun (Takes (at + 1) taken ∷ []) C.journal.0)) new.noted) (sym turned.told_are.1)
                        (subst (λ (l : List Line). AreWritten old.noted (turned.told_are.0 ∷ []) l new.noted) (sym (lines_then (waiting (Takes (at + 1) taken ∷ [])) C.journal.0))
                        (fall_written old.noted new.noted (at + 1) taken turned.told_are.0 (lines_in C.journal.0) turned.told_are.2 C.journal.1 (S.noted ∙ C.noted)));
                    is_in = subst (IsIn held holds new) still (S.went k v in_mid);
                    hears = hears_same (WasTold turned.goes.gave) old.watched new.watched (S.watched ∙ C.watched);
                  },
                  tt,
                );
          }

  -- ---- what a step is in the events

  -- an input is handed to a member
  pub hands : (store : Store K J I an g s d) (m : ℕ) (job : Job) (input : Input) (w : World) → job ≡ TheLocal input → IsBrought store m job (Local input) w
  hands store m job input w is live = subst (λ (j : Job). (is_for w m j ≡ true) × ((x : model.Node) → effect (language_of store.schema) (length store.seats.items) w m j x ≡ works store.schema (length store.seats.items) m (Local input) x)) (sym is) (refl, λ x. refl)

  -- a letter is delivered
  pub delivers : (store : Store K J I an g s d) (letter : Letter) (reading : ℤ) (w : World) → HasSent store letter w → IsBrought store letter.message.addressee (Delivery letter.number reading) (Delivered reading letter.message) w
  delivers store letter reading w sent live =
      let there = sent live in (
        ap (λ o. option_map_or (λ (p : Message). p.addressee == letter.message.addressee) o false) there ∙ eq-eqb letter.message.addressee letter.message.addressee refl,
        λ x. ap (λ o. option_map_or (λ (p : Message). on_message (language_of store.schema) (length store.seats.items) letter.message.addressee reading p x) o Nothing) there,
      )
