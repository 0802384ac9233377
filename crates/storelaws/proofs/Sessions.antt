-- What a store leaves, and how its session goes on.
use Rattle.std.proofs.Common.{◌≡◌, ◌≢◌, ◌∙◌, ◌⊎◌, ⊎_elim, inl, inr, ℕ, zero, suc, ◌+◌, Bool, true, false, Option, Some, None, Result, List, [], ◌∷◌, ◌++◌, MatchOption, MatchBool, length, map, slice_get, string_bytes, refl, sym, ap, subst, append-nil, arith}
use Rattle.std.specs.Prelude.{All, IsSome}
use Rattle.std.specs.Io.KnownBytes.{append_known}
use Rattle.std.proofs.lemmas.List.Elements.{All-get_or}
use Rattle.std.proofs.lemmas.Option.{get_or_from_slice_get, slice_get_within}
use Rattle.std.proofs.lemmas.List.{length-map}
use Rattle.model.specs.Lists.{nth, IsBeginning}
use Rattle.model.specs.Members as model
use Rattle.model.specs.Transactions.{Language}
use Rattle.model.specs.declared.event.Job.TheVariants.{Local, Delivery}
use Rattle.fault.specs.declared.refusal.Refusal.{Refusal}
use Rattle.model.specs.declared.entry.Entry.{Entry}
use Rattle.model.specs.Answers.{Select, Query, IsAnswer, closed_query, read_at}
use Rattle.model.specs.Answers as model_answers
use Rattle.model.specs.Members.{applied, closed_time}
use Rattle.model.specs.Worlds.Output.{Answered}
use Rattle.onelist.specs.Explained.{IsAnswered}
use Rattle.model.specs.Worlds.{World, Event, Hand, Deliver, Stop, Start, Torn, Ask, Output, run, happens, stopped, step_gives, delivery_gives, GivesAll, IsGivenAt, IsGivenBy, IsGivenIn}
use Rattle.keep.specs.Durable.{Durable}
use Rattle.safety.proofs.Runs.{run_append}
use Rattle.onelist.proofs.Explained.{gives_append}
use Rattle.sessions.specs.Kills.{Between, durable, opened}
use Rattle.sessions.specs.Sessions.{Session, AreSessions, IsSession, found_after, new_databases}
use Rattle.sessions.specs.Together.{ExplainsSessions}
use Rattle.sessions.proofs.Lists.{further, get_short, get_there, of_map}
use Rattle.sqlchecks.specs.Columns.{Tables}
use Rattle.sqlread.specs.Meaning.{language_of, select_of}
use Rattle.answer.specs.declared.Answer.{Answer as Rows}
use Rattle.answer.specs.Answers.{answer_of}
use Rattle.runlaws.specs.Going.{Goes, WasTold}
use Rattle.runlaws.proofs.Going.{goes_by, goes_further, goes_nowhere}
use Rattle.runlaws.proofs.Seats.{nth_next, seated}
use Rattle.node.specs.declared.node.Node.{Node}
use Rattle.node.specs.Member.{member_of}
use Rattle.node.specs.View.{durable_of}
use Rattle.store.specs.declared.seat.Seat.{Seat}
use Rattle.store.specs.declared.store.Store.{Store}
use Rattle.store.specs.Asking.{IsAnswerOf}
use Rattle.store.specs.Nodes.{IsMember, IsNodeOf, Rests, rested}
use Rattle.store.specs.Seats.{HasMember, IsClean}
use Rattle.store.specs.Going.{Anywhere, AreClean, AreToldIn, GoesOn, GoesOnSo, IsIn, IsRunOf}
use Rattle.journal.specs.declared.line.Line.{Line}
use Rattle.journal.specs.Blocks.{block_text, blocks_text, last_sum}
use Rattle.store.specs.declared.device.DeviceError.{DeviceError}
use Rattle.store.specs.declared.members.Members.{Members}
use Rattle.store.specs.declared.scribe.Scribe.{Scribe}
use Rattle.store.specs.Continuing.{IsContinued, bodies_of, left_of, reading_in}
use Rattle.store.specs.Journals.{IsSpent}
use Rattle.store.specs.Noting.{AreWritten}
use Rattle.store.specs.Opening.{AreFound, AreOpened, Begins, longest_of}
use Rattle.store.specs.Lines.{and_then, filed_in, lines_in}
use Rattle.store.specs.Recording.{AreRecorded, RecordAll, last_reading}
use Rattle.store.specs.Tales.{Told}
use Rattle.store.specs.Writing.{lines_text}
use Rattle.store.proofs.Continuing.{bodies_alone, continued_both, continued_reading, continued_spent, left_alone}
use Rattle.store.proofs.Going.{told_both, written_then}
use Rattle.store.proofs.Opening.{runs_recorded}
use Rattle.store.proofs.Recording.{recorded_both}
use Rattle.store.proofs.Texts.{no_text}
use Rattle.store.specs.Closing.{AreLeft, IsClosed, MayHold, images_in}
use Rattle.storelaws.specs.Sessions.{AreAfter, Answers, Came, Further, HasAnswered, IsFiled, IsListed, IsOnFile, session_of, session_on}

-- what a member told in a session is in the list that explains it
pub listed : (language : Language) (sessions : List Session) (list : List Entry) → ExplainsSessions language sessions list → (i : ℕ) (s : Session) → nth sessions i ≡ Some s → (client number : ℕ) (outcome : Result ℕ Refusal) → WasTold s.gave client number outcome →
    IsListed language list client number outcome
listed language sessions list E i s at client number outcome t = (t.told, t.client_is, t.number_is, t.outcome_is, E.told i t.given.0 t.member t.told (s, at, t.given.1))

-- the next one in a list
behind : {A : Type 0} (xs : List A) (y : A) (k : ℕ) → k ≡ length xs + 1 → nth (xs ++ y ∷ []) k ≡ Some y
behind xs y k e = nth_next (xs ++ y ∷ []) k (length xs) e ∙ ap (slice_get (xs ++ y ∷ [])) (let e : length xs ≡ length xs + 0 = omega arith in e) ∙ further xs (y ∷ []) 0

module _ (language : Language) (n : ℕ) where
  given_all : (es : List Event) (w : World) (outs : List (List Output)) → GivesAll language n w es outs → length outs ≡ length es
  given_all [] w outs p = ap length p
  given_all (e ∷ es) w outs (out, rest, p, g, more) = ap length p ∙ ap suc (given_all es (happens language n w e) rest more)

  -- what the first of these events gave
  given_first : (one two : List Event) (w : World) (outs : List (List Output)) → GivesAll language n w (one ++ two) outs → (first later : List (List Output)) × (outs ≡ first ++ later) × GivesAll language n w one first
  given_first [] two w outs p = ([], outs, refl, refl)
  given_first (e ∷ one) two w outs (out, rest, p, g, more) =
      let next = given_first one two (happens language n w e) rest more in
      (out ∷ next.0, next.1, p ∙ ap (λ (x : List (List Output)). out ∷ x) next.2, (out, next.0, refl, g, next.3))

  -- ---- one session more

  sessions_more : (ss : List Session) (s : Session) (found : List model.Node) → AreSessions language n found ss → IsSession language n (found_after found ss) s → AreSessions language n found (ss ++ s ∷ [])
  sessions_more [] s found A S = (S, tt)
  sessions_more (t ∷ ss) s found A S = (A.0, sessions_more ss s t.left A.1 S)

  found_last : (ss : List Session) (s : Session) (found : List model.Node) → found_after found (ss ++ s ∷ []) ≡ s.left
  found_last [] s found = refl
  found_last (t ∷ ss) s found = found_last ss s t.left

  ends_now : (found : List model.Node) (w : World) (goes : Goes language n (opened found) w) → IsSession language n found (record { filed = goes.events; moment = Between []; gave = goes.gave; left = durable w })
  ends_now found w goes = record {
    leaves = (tt, ap durable goes.leads);
    gives = subst (λ (es : List Event). GivesAll language n (opened found) es goes.gave) (sym (append-nil goes.events)) goes.gives;
  }

  -- ---- events that are given what they gave

  -- one that asks nothing gives one thing, and one that asks changes nothing
  by_one : (e : Event) (w : World) → Goes language n w (happens language n w e)
  by_one (Hand m input) w = goes_by language n w (happens language n w (Hand m input)) (Hand m input) (step_gives language n w m (Local input) (nth w.nodes m)) refl refl
  by_one (Deliver k reading) w = goes_by language n w (happens language n w (Deliver k reading)) (Deliver k reading) (delivery_gives language n w (Delivery k reading) (nth w.sent k)) refl refl
  by_one (Stop m) w = goes_by language n w (happens language n w (Stop m)) (Stop m) [] refl refl
  by_one (Start m) w = goes_by language n w (happens language n w (Start m)) (Start m) [] refl refl
  by_one (Torn m job left) w = goes_by language n w (happens language n w (Torn m job left)) (Torn m job left) [] refl refl
  by_one (Ask m q) w = goes_nowhere language n w

  -- events one after the other
  joined : (w v u : World) → Goes language n w v → Goes language n v u → Goes language n w u
  joined w v u a b = record {
    events = a.events ++ b.events;
    gave = a.gave ++ b.gave;
    leads = b.leads ∙ ap (λ (z : World). run language n z b.events) a.leads ∙ sym (run_append language n a.events b.events w);
    gives = gives_append language n a.events b.events w a.gave b.gave a.gives (subst (λ (z : World). GivesAll language n z b.events b.gave) a.leads b.gives);
  }

  unasked : (events : List Event) (w : World) → Goes language n w (run language n w events)
  unasked [] w = goes_nowhere language n w
  unasked (e ∷ es) w = goes_further language n w (happens language n w e) (run language n w (e ∷ es)) (by_one e w) (unasked es (happens language n w e))

-- the member is asked, and gives its answer
gives_answer : (language : Language) (m : ℕ) (q : Select) (x y : model.Node) (o : Option model.Node) (a : model_answers.Answer) (t : ℕ) → o ≡ Some x → x ≡ y → y.up ≡ true → closed_query q (closed_time y) ≡ Some (read_at t q) → IsAnswer language (read_at t q) (applied y) a →
    IsGivenAt language m q o (Answered m a ∷ [])
gives_answer language m q x y o a t at same up closed is =
    let inside : IsGivenIn language m y (closed_query q (closed_time y)) (Answered m a ∷ []) = subst (λ (c : Option Query). IsGivenIn language m y c (Answered m a ∷ [])) (sym closed) (a, is, refl) in
    let by : IsGivenBy language m q y y.up (Answered m a ∷ []) = subst (λ (b : Bool). IsGivenBy language m q y b (Answered m a ∷ [])) (sym up) inside in
    subst (λ (z : Option model.Node). IsGivenAt language m q z (Answered m a ∷ [])) (sym at) (subst (λ (z : model.Node). IsGivenBy language m q z z.up (Answered m a ∷ [])) (sym same) by)

module _ {K I : Type 0} {g : _} {s : _} (held : K → Durable → Type 0) where
  -- an up node's keeper holds nothing else than what its member has stored
  abbrev pub Keeps : Node K I g s → Type 0
  Keeps node = node.is_up ≡ true → (stored : Durable) → held node.keeper stored → stored ≡ durable_of (member_of node)

  -- a node that stops
  node_rests : (holds : I → Durable → Type 0) (node : Node K I g s) → Keeps node → (x : model.Node) → IsMember held node x → (image : I) → ((stored : Durable) → holds image stored → held node.keeper stored) → Rests (holds image) (stopped x)
  node_rests holds node keeps x is image less = go node.is_up refl is
    where
      go : (up : Bool) → node.is_up ≡ up → MatchBool up (x ≡ member_of node) (Rests (held node.keeper) x) → Rests (holds image) (stopped x)
      go true u same = (refl, λ d h. ap stopped same ∙ sym (ap rested (keeps u d (less d h))))
      go false u rests = (refl, λ d h. ap stopped (rests.1 d (less d h)))

module _ {K J I : Type 0} {an : _} {g : _} {s : _} {d : _} (held : K → Durable → Type 0) (holds : I → Durable → Type 0) where
  -- ---- what a store leaves

  -- the database of a seat
  seat_rests : ((node : Node K I g s) → Keeps held node) → (tables : Tables) (n m : ℕ) (seat : Seat K J I an g s d) (x : model.Node) → HasMember held holds tables n m seat x → (image : I) → ((stored : Durable) → holds image stored → MayHold held holds seat stored) → Rests (holds image) (stopped x)
  seat_rests keeps tables n m seat x has image less = go seat.node has.1 less
    where
      at_rest : (o : Option I) → MatchOption o (x.up ≡ false) (λ i. Rests (holds i) x) → ((stored : Durable) → holds image stored → MatchOption o ⊥ (λ i. holds i stored)) → Rests (holds image) (stopped x)
      at_rest None down none = (refl, λ d h. absurd (none d h))
      at_rest (Some i) rests some = (refl, λ d h. ap stopped (rests.1 d (some d h)))

      go : (o : Option (Node K I g s)) → MatchOption o (MatchOption seat.image (x.up ≡ false) (λ i. Rests (holds i) x)) (λ node. IsNodeOf held tables n m node x) →
          ((stored : Durable) → holds image stored → MatchOption o (MatchOption seat.image ⊥ (λ i. holds i stored)) (λ node. held node.keeper stored)) → Rests (holds image) (stopped x)
      go None rests some = at_rest seat.image rests some
      go (Some node) is some = node_rests held holds node (keeps node) x is.is image some

  pub leaves : ((node : Node K I g s) → Keeps held node) → (store : Store K J I an g s d) (w : World) → IsIn held holds store w → (images : List (Option I)) → AreLeft held holds store images → AreFound holds images (durable w)
  leaves keeps store w i images L = record { all = length-map w.nodes stopped ∙ i.seated.all ∙ sym L.count; each = go }
    where
      rests : (o : Option I) (i : ℕ) (seat : Seat K J I an g s d) (x : model.Node) → slice_get store.seats.items i ≡ Some seat → slice_get images i ≡ Some o → HasMember held holds store.schema (length store.seats.items) (suc i) seat x →
          MatchOption o ((stopped x).up ≡ false) (λ image. Rests (holds image) (stopped x))
      rests None i seat x p q has = refl
      rests (Some image) i seat x p q has = seat_rests keeps store.schema (length store.seats.items) (suc i) seat x has image (λ stored h. L.each i seat image stored p q h)

      go : (m : ℕ) (image : Option I) (y : model.Node) → nth images m ≡ Some image → nth (durable w) m ≡ Some y → MatchOption image (y.up ≡ false) (λ i. Rests (holds i) y)
      go zero image y p q = absurd (cc p)
      go (suc k) image y p q =
          let short = get_short images k image p in
          let count = L.count in
          let seat = get_there store.seats.items k (omega (arith, short, count)) in
          let x = of_map stopped w.nodes k y q in
          subst (λ (z : model.Node). MatchOption image (z.up ≡ false) (λ i. Rests (holds i) z)) x.2
          (rests image k seat.0 x.0 seat.1 p (i.seated.each (suc k) seat.0 x.0 seat.1 x.1))

  -- of one that is closed
  pub is_left : (store : Store K J I an g s d) (seats : List (Seat K J I an g s d)) → IsClosed held holds store seats → AreLeft held holds store (images_in seats)
  is_left store seats C = record {
    count = length-map seats (λ (seat : Seat K J I an g s d). seat.image) ∙ C.count;
    each = λ i seat image stored p q h.
        let after = of_map (λ (seat : Seat K J I an g s d). seat.image) seats i (Some image) q in
        ((C.each i seat after.0 p after.1).holds_it image after.2 stored).0 h;
  }

  -- ---- how its session goes on

  pub came : (found : List model.Node) (store : Store K J I an g s d) → (events : List Event) × IsRunOf held holds found events store → Came held holds found store
  came found store ran = record { world = run (language_of store.schema) (length store.seats.items) (opened found) ran.0; goes = unasked (language_of store.schema) (length store.seats.items) ran.0 (opened found); is_in = ran.1 }

  pub goes_on : (contents : J → Option (List ℕ)) (honest : K → Type 0) (gives : List (List Output) → Type 0) (found : List model.Node) (old new : Store K J I an g s d) (before : Came held holds found old) → GoesOnSo contents honest held holds Anywhere gives old new → AreClean honest holds new →
      (after : Came held holds found new) × Further gives before after
  unfolding joined
  goes_on contents honest gives found old new before x k =
      let on = x.went k before.world before.is_in tt in
      let all = joined (language_of old.schema) (length old.seats.items) (opened found) before.world on.0.world before.goes on.0.goes in
      let goes : Goes (language_of new.schema) (length new.seats.items) (opened found) on.0.world = record {
        events = all.events;
        gave = all.gave;
        leads = subst (λ (t : Tables). on.0.world ≡ run (language_of t) (length new.seats.items) (opened found) all.events) (sym x.schema) (subst (λ (n : ℕ). on.0.world ≡ run (language_of old.schema) n (opened found) all.events) (sym x.count) all.leads);
        gives = subst (λ (t : Tables). GivesAll (language_of t) (length new.seats.items) (opened found) all.events all.gave) (sym x.schema) (subst (λ (n : ℕ). GivesAll (language_of old.schema) n (opened found) all.events all.gave) (sym x.count) all.gives);
      } in
      (record { world = on.0.world; goes = goes; is_in = on.0.is_in }, record { events = on.0.goes.events; gave = on.0.goes.gave; events_are = refl; gave_is = refl; gives_so = on.1 })

  -- a call of which no more is said
  pub so : (contents : J → Option (List ℕ)) (honest : K → Type 0) (old new : Store K J I an g s d) → GoesOn contents honest held holds old new → GoesOnSo contents honest held holds Anywhere (λ gave. Unit {0}) old new
  so contents honest old new x = record { schema = x.schema; count = x.count; lines = x.lines; journal = x.journal; clean = x.clean; went = λ k w i p. (x.went k w i, tt) }

  -- ---- what its journal says

  -- the lines of a store that goes on record its session further on
  pub files : (contents : J → Option (List ℕ)) (honest : K → Type 0) (found : List model.Node) (scribe : Scribe J) (noted : ℕ) (old new : Store K J I an g s d) (before : IsFiled contents held holds found scribe noted old) → GoesOn contents honest held holds old new → AreClean honest holds new →
      (after : IsFiled contents held holds found scribe noted new) × IsBeginning before.recorded.filed after.recorded.filed
  unfolding goes_on joined so
  files contents honest found scribe noted old new before x k =
      let language = language_of old.schema in
      let n = length old.seats.items in
      let lines = and_then before.lines x.lines in
      let on = x.went k before.came.world before.came.is_in in
      let after = goes_on contents honest (λ gave. Unit {0}) found old new before.came (so contents honest old new x) k in
      let first = before.came.goes.events in
      let both = recorded_both language n (opened found) before.came.world scribe.reading (reading_in old.scribe) before.lines x.lines first on.goes.events (IsSpent old.scribe) (IsSpent new.scribe) before.came.goes.leads
      (continued_reading contents (Some scribe) old.scribe before.lines before.journal)
      (λ spent. let stays = continued_spent contents old.scribe new.scribe x.lines x.journal spent in stays.1) (λ spent. let stays = continued_spent contents old.scribe new.scribe x.lines x.journal spent in subst IsSpent (sym stays.0) spent) before.recorded on.events_are in
      let T : Language → ℕ → List Event → Type 0 = λ t c events. (r : AreRecorded t c (opened found) scribe.reading lines events (IsSpent new.scribe)) × IsBeginning before.recorded.filed r.filed in
      let here : T language n after.0.goes.events = subst (T language n) (sym after.1.events_are) both in
      let counted : T language (length new.seats.items) after.0.goes.events = subst (λ (c : ℕ). T language c after.0.goes.events) (sym x.count) here in
      let named : T (language_of new.schema) (length new.seats.items) after.0.goes.events = subst (λ (t : Tables). T (language_of t) (length new.seats.items) after.0.goes.events) (sym x.schema) counted in
      let told : AreToldIn after.0.goes.gave (lines_in lines) =
      subst (λ (outs : List (List Output)). AreToldIn outs (lines_in lines)) (sym after.1.gave_is) (told_both before.came.goes.gave on.goes.gave before.lines x.lines before.outcomes_are on.outcomes_are) in
      let written : (IsSpent new.scribe → ⊥) → AreWritten noted after.0.goes.gave (lines_in lines) new.noted =
      λ live. subst (λ (outs : List (List Output)). AreWritten noted outs (lines_in lines) new.noted) (sym after.1.gave_is) (written_then contents noted old new before.lines x.lines x.journal before.came.goes.gave on.goes.gave before.written on.written live) in
      let all : IsFiled contents held holds found scribe noted new = record {
        lines = lines;
        journal = continued_both contents (Some scribe) old.scribe new.scribe before.lines x.lines before.journal x.journal;
        came = after.0;
        recorded = named.0;
        outcomes_are = told;
        written = written;
      } in
      (all, named.1)

  -- as a store begins
  pub files_first : (contents : J → Option (List ℕ)) (honest : K → Type 0) (told : Told) (images : List (Option I)) (found : List model.Node) (scribe : Scribe J) (members : Members K J I an g s d) (store : Store K J I an g s d) → AreFound holds images found → AreOpened honest held holds told images members →
      Begins contents honest held holds members scribe store → AreClean honest holds store → IsFiled contents held holds found scribe (longest_of 0 members.seats.items) store
  files_first contents honest told images found scribe members store are O B k =
      let ran = runs_recorded honest held holds contents told images members scribe store O B k found are in
      record { lines = B.lines; journal = B.journal; came = record { world = ran.0; goes = ran.1; is_in = ran.2 }; recorded = ran.3; outcomes_are = ran.4; written = ran.5 }

  -- what its file has
  pub on_file : (contents : J → Option (List ℕ)) (found : List model.Node) (scribe : Scribe J) (noted : ℕ) (store : Store K J I an g s d) → string_bytes scribe.buffer ≡ [] → (filed : IsFiled contents held holds found scribe noted store) → IsOnFile contents scribe filed.came
  on_file contents found scribe noted store empty filed = go store.scribe refl filed.journal
    where
      spent : (last : Scribe J) (o : Option DeviceError) → store.scribe ≡ Some last → last.failure ≡ o → (front : List ℕ) → (last.failure ≡ None → front ≡ []) → (front ≡ []) ⊎ IsSpent store.scribe
      spent last None is up front none = inl (none up)
      spent last (Some e) is up front none = inr (subst IsSpent (sym is) (subst IsSome (sym up) refl))

      live : (last : Scribe J) (o : Option DeviceError) → store.scribe ≡ Some last → last.failure ≡ o → (IsSpent store.scribe → ⊥) → last.failure ≡ None
      live last None is up unspent = up
      live last (Some e) is up unspent = absurd (unspent (subst IsSpent (sym is) (subst IsSome (sym up) refl)))

      go : (o : Option (Scribe J)) → store.scribe ≡ o → IsContinued contents (Some scribe) o filed.lines → IsOnFile contents scribe filed.came
      go None is away = absurd away
      go (Some last) is c =
          let buffer = string_bytes scribe.buffer in
          let groups = filed.lines.groups in
          let rest = filed.lines.rest in
          let r = filed.recorded in
          let bodies : bodies_of buffer groups ≡ map lines_text groups = ap (λ (x : List ℕ). bodies_of x groups) empty ∙ bodies_alone groups in
          let left : left_of buffer groups rest ≡ lines_text rest = ap (λ (x : List ℕ). left_of x groups rest) empty ∙ left_alone groups rest in
          let later = r.waiting ++ r.lost in
          let given = given_first (language_of store.schema) (length store.seats.items) r.filed later (opened found) filed.came.goes.gave (subst (λ (es : List Event). GivesAll (language_of store.schema) (length store.seats.items) (opened found) es filed.came.goes.gave) r.events_are filed.came.goes.gives) in
          record {
            groups = groups;
            next = rest;
            front = c.front;
            back = c.back;
            last = last;
            last_is = is;
            device = c.device ∙ ap (λ (x : List (List ℕ)). append_known (contents scribe.device) (blocks_text scribe.sum x c.front)) bodies;
            filled = subst (All (λ (body : List ℕ). body ≢ [])) bodies c.filled;
            torn = ap (λ (x : List (List ℕ)). block_text (last_sum scribe.sum x) (lines_text rest) []) (sym bodies)
                ∙ ap (λ (x : List ℕ). block_text (last_sum scribe.sum (bodies_of buffer groups)) x []) (sym left)
                ∙ c.torn;
            none = spent last last.failure is refl c.front (λ up. (c.live up).0);
            events = r.filed;
            later = later;
            events_are = r.events_are;
            gave = given.0;
            gave_later = given.1;
            gave_is = given.2;
            gives = given.3;
            stored = ap durable filed.came.goes.leads ∙ r.stored;
            recorded = r.on_device;
            all = λ unspent nothing.
                let up = live last last.failure is refl unspent in
                let none : rest ≡ [] = no_text rest (sym left ∙ sym (c.live up).1 ∙ nothing) in
                let language = language_of store.schema in
                let n = length store.seats.items in
                let quiet : r.waiting ≡ [] = subst (λ (lines : List Line). RecordAll language n (run language n (opened found) r.filed) (last_reading scribe.reading (filed_in filed.lines)) lines r.waiting) none r.in_buffer in
                ap (λ (x : List Event). x ++ r.lost) quiet ∙ ⊎_elim (λ (e : r.lost ≡ []). e) (λ spent. absurd (unspent spent)) r.none;
          }

  -- ---- one session more

  pub next : ((node : Node K I g s) → Keeps held node) → (sessions : List Session) (store : Store K J I an g s d) (c : Came held holds (found_after (new_databases (length store.seats.items)) sessions) store) → AreSessions (language_of store.schema) (length store.seats.items) (new_databases (length store.seats.items)) sessions →
      (left : List (Option I)) → AreLeft held holds store left → AreAfter holds (language_of store.schema) (length store.seats.items) (sessions ++ session_of c ∷ []) left
  next keeps sessions store c A left L =
      let language = language_of store.schema in
      let n = length store.seats.items in (
        sessions_more language n sessions (session_of c) (new_databases n) A (ends_now language n (found_after (new_databases n) sessions) c.world c.goes),
        subst (AreFound holds left) (sym (found_last language n sessions (session_of c) (new_databases n))) (leaves keeps store c.world c.is_in left L),
      )

  -- as its file has it
  pub next_filed : ((node : Node K I g s) → Keeps held node) → (contents : J → Option (List ℕ)) (scribe : Scribe J) (sessions : List Session) (store : Store K J I an g s d) (c : Came held holds (found_after (new_databases (length store.seats.items)) sessions) store) (on : IsOnFile contents scribe c) →
      AreSessions (language_of store.schema) (length store.seats.items) (new_databases (length store.seats.items)) sessions → (left : List (Option I)) → AreLeft held holds store left → AreAfter holds (language_of store.schema) (length store.seats.items) (sessions ++ session_on on ∷ []) left
  next_filed keeps contents scribe sessions store c on A left L =
      let language = language_of store.schema in
      let n = length store.seats.items in
      let found = found_after (new_databases n) sessions in
      let ends : IsSession language n found (session_on on) = record { leaves = (tt, on.stored); gives = subst (λ (es : List Event). GivesAll language n (opened found) es on.gave) (sym (append-nil on.events)) on.gives } in (
        sessions_more language n sessions (session_on on) (new_databases n) A ends,
        subst (AreFound holds left) (sym (found_last language n sessions (session_on on) (new_databases n))) (leaves keeps store c.world c.is_in left L),
      )

  -- ---- what is answered

  -- an event more, in which nothing changes
  asked : (found : List model.Node) (store : Store K J I an g s d) (before : Came held holds found store) (m : ℕ) (q : Select) (a : model_answers.Answer) → IsGivenAt (language_of store.schema) m q (nth before.world.nodes m) (Answered m a ∷ []) →
      (after : Came held holds found store) × Further (λ gave. gave ≡ (Answered m a ∷ []) ∷ []) before after × IsAnswered (after.goes.events ++ []) after.goes.gave (length before.goes.events + 1) m q a
  unfolding joined
  asked found store before m q a gives =
      let language = language_of store.schema in
      let n = length store.seats.items in
      let more : Goes language n before.world before.world = record { events = Ask m q ∷ []; gave = (Answered m a ∷ []) ∷ []; leads = refl; gives = (Answered m a ∷ [], [], refl, gives, refl) } in
      let goes = joined language n (opened found) before.world before.world before.goes more in
      let long = given_all language n before.goes.events (opened found) before.goes.gave before.goes.gives in (
        record { world = before.world; goes = goes; is_in = before.is_in },
        record { events = more.events; gave = more.gave; events_are = refl; gave_is = refl; gives_so = refl },
        (
          subst (λ (es : List Event). nth es (length before.goes.events + 1) ≡ Some (Ask m q)) (sym (append-nil goes.events)) (behind before.goes.events (Ask m q) (length before.goes.events + 1) refl),
          (Answered m a ∷ [], behind before.goes.gave (Answered m a ∷ []) (length before.goes.events + 1) (ap (λ (k : ℕ). k + 1) (sym long)), (0, omega arith, refl)),
        ),
      )

  pub answers : (honest : K → Type 0) (found : List model.Node) (store : Store K J I an g s d) (before : Came held holds found store) (at : ℕ) (text : List ℕ) (a : Rows) → AreClean honest holds store → HasAnswered honest store at text a → Answers held holds found store before (at + 1) text a
  answers honest found store before at text a clean has = by_seat (slice_get store.seats.items at) refl has
    where
      n : ℕ
      n = length store.seats.items

      by_node : (seat : Seat K J I an g s d) (o : Option (Node K I g s)) → slice_get store.seats.items at ≡ Some seat → seat.node ≡ o → MatchOption o ⊥ (λ node. IsAnswerOf honest node store.schema text a) → Answers held holds found store before (at + 1) text a
      by_node seat None there e none = absurd none
      by_node seat (Some node) there e (q, spelled, up, says) =
          let Has : ℕ → Seat K J I an g s d → model.Node → Type 0 = λ m seat x. HasMember held holds store.schema n m seat x in
          let sits = seated Has store.seats.items before.world.nodes before.is_in.seated (at + 1) seat (nth_next store.seats.items (at + 1) at refl ∙ there) in
          let is : IsNodeOf held store.schema n (at + 1) node sits.0 = subst (λ (o : Option (Node K I g s)). MatchOption o (MatchOption seat.image (sits.0.up ≡ false) (λ i. Rests (holds i) sits.0)) (λ node. IsNodeOf held store.schema n (at + 1) node sits.0)) e sits.2.1 in
          let same : sits.0 ≡ member_of node = subst (λ (b : Bool). MatchBool b (sits.0 ≡ member_of node) (Rests (held node.keeper) sits.0)) up is.is in
          let neat : IsClean honest holds seat = subst (IsClean honest holds) (get_or_from_slice_get store.seats.items at seat seat there) (All-get_or (IsClean honest holds) store.seats.items at seat (slice_get_within store.seats.items at seat there) clean) in
          let honest_is : honest node.keeper = subst (λ (o : Option (Node K I g s)). MatchOption o (MatchOption seat.image (Unit {0}) (λ image. (stored : Durable) × holds image stored)) (λ node. honest node.keeper)) e neat in
          let ask = says honest_is in
          let listed : IsAnswer (language_of store.schema) (read_at ask.0 (select_of q)) (applied (member_of node)) (answer_of a) = subst (λ (t : Tables). IsAnswer (language_of t) (read_at ask.0 (select_of q)) (applied (member_of node)) (answer_of a)) is.tables_are ask.3 in
          let came = asked found store before (at + 1) (select_of q) (answer_of a) (gives_answer (language_of store.schema) (at + 1) (select_of q) sits.0 (member_of node) (nth before.world.nodes (at + 1)) (answer_of a) ask.0 sits.1 same refl ask.2 listed) in
          record {
            query = q;
            spelled = spelled;
            after = came.0;
            further = came.1;
            answered = came.2;
          }

      by_seat : (o : Option (Seat K J I an g s d)) → slice_get store.seats.items at ≡ o → MatchOption o ⊥ (λ seat. MatchOption seat.node ⊥ (λ node. IsAnswerOf honest node store.schema text a)) → Answers held holds found store before (at + 1) text a
      by_seat None there none = absurd none
      by_seat (Some seat) there some = by_node seat seat.node there refl some
