-- A store that goes on.
use Rattle.std.proofs.Common.{◌≡◌, ◌∙◌, ℕ, zero, suc, ◌+◌, ◌<◌, false, ◌⊎◌, ⊎_elim, inl, inr, Option, Some, None, Result, Ok, Err, List, [], ◌∷◌, ◌++◌, IfSome, length, slice_get, slice_set, refl, sym, ap, subst, append-nil, append_assoc, arith}
use Rattle.std.specs.Prelude.{ℤ}
use Rattle.std.specs.List.{All}
use Rattle.std.proofs.lemmas.List.{length_push}
use Rattle.std.proofs.lemmas.List.Elements.{All-append, All-push, All-nil, All-cons, All-head, All-tail, Contains-append_left, Contains-append_right}
use Rattle.std.proofs.lemmas.Option.{IfSome_then, slice_get_past}
use Rattle.fault.specs.declared.refusal.Refusal.{Refusal as Reason}
use Rattle.flight.specs.declared.outcome.Outcome.{Outcome as Noted}
use Rattle.model.specs.Lists.{nth, with_nth}
use Rattle.model.specs.Members as model
use Rattle.model.specs.declared.entry.Told.{Told}
use Rattle.model.specs.declared.message.Message.{Message}
use Rattle.model.specs.Worlds.{World, Event, Start, Stop, Output, started, with_node, starts as starts_of, stops as stops_of}
use Rattle.model.specs.Worlds.Output.{Applied, Refused as Refuses}
use Rattle.keep.specs.Durable.{Durable}
use Rattle.sessions.proofs.Lists.{with_length}
use Rattle.sqlchecks.specs.Columns.{Tables}
use Rattle.sqlread.specs.Meaning.{language_of}
use Rattle.runlaws.specs.Going.{AreSeated, HasGiven, WasTold, after_stop}
use Rattle.runlaws.proofs.Going.{goes_nowhere, goes_both, given_before, given_then, told_before, told_then, nowhere_events, nowhere_gave, same_world, start_goes, starts_at, stop_goes, stops_at, stops_twice, By}
use Rattle.runlaws.proofs.Seats.{nth_next, set_next, seated, seated_anew, sent_before, sent_next}
use Rattle.store.specs.declared.store.Store.{Store}
use Rattle.store.specs.declared.seat.Seat.{Seat}
use Rattle.store.specs.declared.steps.Letter.{Letter}
use Rattle.store.specs.declared.steps.Watched.{Watched}
use Rattle.store.specs.declared.outcome.Outcome.{Outcome}
use Rattle.store.specs.declared.outcome.Outcome.TheVariants.{Accepted, Refused, Unanswered}
use Rattle.journal.specs.declared.line.Taken.{Taken}
use Rattle.journal.specs.declared.line.Line.{Line}
use Rattle.journal.specs.declared.line.Line.TheVariants.{Ends, Life, Made, Takes}
use Rattle.journal.specs.declared.stored.Summary.{Summary}
use Rattle.store.specs.declared.scribe.Scribe.{Scribe}
use Rattle.store.specs.Lines.{Lines, and_then, lines_in, no_lines, waiting}
use Rattle.store.specs.Recording.{AreRecorded, HasInShort, IsQuiet, IsSilent, IsStartOrStop, IsTrue, OneSays, Records, job_of, last_reading}
use Rattle.store.specs.Continuing.{IsContinued, IsKeptOn, reading_in}
use Rattle.store.specs.Journals.{IsSpent}
use Rattle.store.specs.Seats.{HasMember, IsClean}
use Rattle.node.specs.Work.{Work}
use Rattle.store.proofs.Continuing.{continued_both, continued_reading, continued_same, continued_spent, kept_both, kept_is, kept_none, kept_same}
use Rattle.store.proofs.Recording.{all_more, last_both, line_behind, of_more, recorded_after, recorded_both, recorded_idle, recorded_late, recorded_silent, silent_quiet, silent_true}
use Rattle.store.proofs.Lines.{lines_then}
use Rattle.store.proofs.Storing.{idle_stores, short_same}
use Rattle.store.specs.Lives.{HasStored}
use Rattle.flight.specs.Telling.{outcomes_of}
use Rattle.store.specs.Noting.{AreWritten, IsEnd, first_told, noted_after}
use Rattle.store.proofs.Noting.{end_written, life_written, made_end, written_both, written_silent}
use Rattle.store.specs.Going.{Anywhere, AreClean, AreFiled, AreToldIn, AreUnderWay, BeginsStep, Changes, ComesOf, EndsStep, GoesOn, GoesOnFrom, GoesOnSo, HasSent, Heard, Hears, IsAmong, IsBrought, IsIn, IsOutcome, Publishes, PublishesSo, StartsOne, Stops, ToldIn, WentOn, with_begun}

-- ---- what is heard

-- who tells an outcome of the request of a client and a number
abbrev pub Tells : Type 1
Tells = ℕ → ℕ → Result ℕ Reason → Type 0

-- what one tells another one tells too
abbrev pub TellsLess : (few more : ℕ → ℕ → Result ℕ Reason → Type 0) → Type 0
TellsLess few more = (client number : ℕ) (o : Result ℕ Reason) → few client number o → more client number o

pub hears_same : (tells : ℕ → ℕ → Result ℕ Reason → Type 0) (old new : Option Watched) → new ≡ old → Hears tells old new
hears_same tells old new same = subst (λ (v : Option Watched). Hears tells old v) (sym same) (go old)
  where
    before : (o : Option (Result ℕ Reason)) (P : Result ℕ Reason → Type 0) → IfSome o (λ x. (o ≡ Some x) ⊎ P x)
    before None P = tt
    before (Some x) P = inl refl

    go : (v : Option Watched) → Hears tells v v
    go None = tt
    go (Some v) = (refl, refl, before v.outcome (λ o. tells v.client v.number o))

heard_more : (few more : ℕ → ℕ → Result ℕ Reason → Type 0) → TellsLess few more → (v : Option Watched) (o : Result ℕ Reason) → Heard few v o → Heard more v o
heard_more few more less None o h = h
heard_more few more less (Some v) o h = ⊎_elim (λ early. inl early) (λ told. inr (less v.client v.number o told)) h

pub hears_more : (few more : ℕ → ℕ → Result ℕ Reason → Type 0) → TellsLess few more → (old new : Option Watched) → Hears few old new → Hears more old new
hears_more few more less old None h = tt
hears_more few more less None (Some w) h = h
hears_more few more less (Some v) (Some w) h = (h.0, h.1, IfSome_then w.outcome {P = Heard few (Some v)} {Q = Heard more (Some v)} h.2 (λ o k. heard_more few more less (Some v) o k))

pub some_at : {A : Type 0} (o : Option A) (P : A → Type 0) (x : A) → o ≡ Some x → IfSome o P → P x
some_at None P x e p = absurd (cc e)
some_at (Some y) P x e p = let same : y ≡ x = cc e in subst P same p

-- an outcome that is heard of what was heard before
heard_on : (one two all : ℕ → ℕ → Result ℕ Reason → Type 0) → TellsLess one all → TellsLess two all → (old mid : Option Watched) (o : Result ℕ Reason) → Hears one old mid → Heard two mid o → Heard all old o
heard_on one two all first then old None o a b = absurd b
heard_on one two all first then None (Some m) o a b = absurd a
heard_on one two all first then (Some v) (Some m) o a b = ⊎_elim
    (λ (was : m.outcome ≡ Some o). heard_more one all first (Some v) o (some_at m.outcome (Heard one (Some v)) o was a.2))
    (λ (told : two m.client m.number o). inr (then v.client v.number o (subst (λ k. two v.client k o) a.1 (subst (λ c. two c m.number o) a.0 told))))
    b

pub hears_both : (one two all : ℕ → ℕ → Result ℕ Reason → Type 0) → TellsLess one all → TellsLess two all → (old mid new : Option Watched) → Hears one old mid → Hears two mid new → Hears all old new
hears_both one two all first then old mid None a b = tt
hears_both one two all first then old None (Some w) a b = absurd b
hears_both one two all first then None (Some m) (Some w) a b = absurd a
hears_both one two all first then (Some v) (Some m) (Some w) a b =
    (b.0 ∙ a.0, b.1 ∙ a.1, IfSome_then w.outcome {P = Heard two (Some m)} {Q = Heard all (Some v)} b.2 (λ o h. heard_on one two all first then (Some v) (Some m) o a h))

-- outcomes of events, and of more events after them
module _ (one two : List (List Output)) where
  pub tells_before : TellsLess (WasTold one) (WasTold (one ++ two))
  tells_before client number o t = told_before one two client number o t

  pub tells_then : TellsLess (WasTold two) (WasTold (one ++ two))
  tells_then client number o t = told_then one two client number o t

  pub comes_before : (client number : ℕ) (o : Outcome) → ComesOf client number o one → ComesOf client number o (one ++ two)
  comes_before client number (Accepted stamp) c = tells_before client number (Ok stamp) c
  comes_before client number (Refused reason) c = ⊎_elim (λ t. inl (tells_before client number (Err reason) t)) (λ (m, h). inr (m, given_before one two (Refuses m reason) h)) c
  comes_before client number Unanswered c = tt

  pub comes_then : (client number : ℕ) (o : Outcome) → ComesOf client number o two → ComesOf client number o (one ++ two)
  comes_then client number (Accepted stamp) c = tells_then client number (Ok stamp) c
  comes_then client number (Refused reason) c = ⊎_elim (λ t. inl (tells_then client number (Err reason) t)) (λ (m, h). inr (m, given_then one two (Refuses m reason) h)) c
  comes_then client number Unanswered c = tt

  pub outcome_then : (old mid : Option Watched) (o : Outcome) → Hears (WasTold one) old mid → IsOutcome mid o two → IsOutcome old o (one ++ two)
  outcome_then old mid (Accepted stamp) h c = heard_on (WasTold one) (WasTold two) (WasTold (one ++ two)) tells_before tells_then old mid (Ok stamp) h c
  outcome_then old mid (Refused reason) h c = ⊎_elim
      (λ t. inl (heard_on (WasTold one) (WasTold two) (WasTold (one ++ two)) tells_before tells_then old mid (Err reason) h t))
      (λ (m, k). inr (m, given_then one two (Refuses m reason) k)) c
  outcome_then old mid Unanswered h c = tt

-- outcomes in lines
module _ (one two : List (List Output)) where
  pub lines_before : (lines : List Line) → AreToldIn one lines → AreToldIn (one ++ two) lines
  lines_before lines t =
      all_more (ToldIn one) (ToldIn (one ++ two)) (λ m outcomes o. of_more (λ told. HasGiven one (Applied m told)) (λ told. HasGiven (one ++ two) (Applied m told)) (λ told g. given_before one two (Applied m told) g) outcomes o) lines t

  pub lines_after : (lines : List Line) → AreToldIn two lines → AreToldIn (one ++ two) lines
  lines_after lines t =
      all_more (ToldIn two) (ToldIn (one ++ two)) (λ m outcomes o. of_more (λ told. HasGiven two (Applied m told)) (λ told. HasGiven (one ++ two) (Applied m told)) (λ told g. given_then one two (Applied m told) g) outcomes o) lines t

  -- those of two calls
  pub told_both : (early late : Lines) → AreToldIn one (lines_in early) → AreToldIn two (lines_in late) → AreToldIn (one ++ two) (lines_in (and_then early late))
  told_both early late a b =
      subst (AreToldIn (one ++ two)) (sym (lines_then early late))
      (All-append (IsTrue (ToldIn (one ++ two))) (lines_in early) (lines_in late) (lines_before (lines_in early) a) (lines_after (lines_in late) b))

-- lines that have none
pub told_silent : (gave : List (List Output)) (lines : List Line) → All IsSilent lines → AreToldIn gave lines
told_silent gave lines s = silent_true (ToldIn gave) lines s

pub one_told : (gave : List (List Output)) (line : Line) → IsTrue (ToldIn gave) line → AreToldIn gave (line ∷ [])
one_told gave line t = All-cons (IsTrue (ToldIn gave)) line [] t (All-nil (IsTrue (ToldIn gave)))

-- a line that has none in front of others
pub told_behind : (gave : List (List Output)) (line : Line) (lines : Lines) → IsTrue (ToldIn gave) line → AreToldIn gave (lines_in lines) → AreToldIn gave (lines_in (with_begun (line ∷ []) lines))
told_behind gave line lines a b =
    subst (AreToldIn gave) (sym (lines_then (waiting (line ∷ [])) lines)) (All-cons (IsTrue (ToldIn gave)) line (lines_in lines) a b)

told_rest : (gave : List (List Output)) (line : Line) (lines : Lines) → AreToldIn gave (lines_in (with_begun (line ∷ []) lines)) → AreToldIn gave (line ∷ lines_in lines)
told_rest gave line lines t = subst (AreToldIn gave) (lines_then (waiting (line ∷ [])) lines) t

-- a request that had no outcome yet
pub outcome_comes : (watched : Option Watched) (v : Watched) (o : Outcome) (gave : List (List Output)) → watched ≡ Some v → v.outcome ≡ None → IsOutcome watched o gave → ComesOf v.client v.number o gave
outcome_comes watched v o gave is none c = go o (subst (λ (x : Option Watched). IsOutcome x o gave) is c)
  where
    told : (r : Result ℕ Reason) → Heard (WasTold gave) (Some v) r → WasTold gave v.client v.number r
    told r h = ⊎_elim (λ was. absurd (cc (none, was))) (λ t. t) h

    go : (o : Outcome) → IsOutcome (Some v) o gave → ComesOf v.client v.number o gave
    go (Accepted stamp) h = told (Ok stamp) h
    go (Refused reason) h = ⊎_elim (λ t. inl (told (Err reason) t)) (λ r. inr r) h
    go Unanswered h = tt

-- ---- what was told, of lists

among_left : (a b : List Told) → TellsLess (IsAmong a) (IsAmong (a ++ b))
among_left a b client number o (t, has, c, n, is) = (t, Contains-append_left a b t has, c, n, is)

among_right : (a b : List Told) → TellsLess (IsAmong b) (IsAmong (a ++ b))
among_right a b client number o (t, has, c, n, is) = (t, Contains-append_right a b t has, c, n, is)

nobody : (tells : ℕ → ℕ → Result ℕ Reason → Type 0) → TellsLess (IsAmong []) tells
nobody tells client number o (t, (k, l, p), c, n, is) = absurd (omega (arith, l))

-- ---- one seat

-- the world of these members, with these messages sent
abbrev pub world_with : List model.Node → List Message → World
world_with nodes sent = record { nodes = nodes; sent = sent }

pub all_back : {A : Type 0} (P : A → Type 0) (xs : List A) (at : ℕ) (before after : A) → slice_get xs at ≡ Some before → (P after → P before) → All P (slice_set xs at after) → All P xs
all_back P [] at before after e f all = All-nil P
all_back P (x ∷ xs) zero before after e f all = let same : before ≡ x = cc e in All-cons P x xs (subst P same (f (All-head P after xs all))) (All-tail P after xs all)
all_back P (x ∷ xs) (suc at) before after e f all = All-cons P x xs (All-head P x (slice_set xs at after) all) (all_back P xs at before after e f (All-tail P x (slice_set xs at after) all))

pub all_at : {A : Type 0} (P : A → Type 0) (xs : List A) (at : ℕ) (before after : A) → slice_get xs at ≡ Some before → All P (slice_set xs at after) → P after
all_at P [] at before after e all = absurd (cc e)
all_at P (x ∷ xs) zero before after e all = All-head P after xs all
all_at P (x ∷ xs) (suc at) before after e all = all_at P xs at before after e (All-tail P x (slice_set xs at after) all)

-- the same letters
pub under_same : (old new : List Letter) (k l : ℕ) (sent : List Message) → new ≡ old → l ≡ k → AreUnderWay old k sent → AreUnderWay new l sent
under_same old new k l sent queue count u = subst (λ (c : ℕ). AreUnderWay new c sent) (sym count) (subst (λ (q : List Letter). AreUnderWay q k sent) (sym queue) u)

-- one more message
pub sent_one : (letters : List Letter) (count number : ℕ) (message : Message) (sent : List Message) → number ≡ count + 1 → AreUnderWay letters count sent → AreUnderWay (letters ++ record { number = number; message = message } ∷ []) number (sent ++ message ∷ [])
sent_one letters count number message sent is u =
    let next : number ≡ length sent + 1 = is ∙ ap (λ k. k + 1) u.0 in
    let new : Letter = record { number = number; message = message } in (
      next ∙ sym (long sent),
      All-push (λ (l : Letter). nth (sent ++ message ∷ []) l.number ≡ Some l.message) letters new
          (sent_before (λ (l : Letter). l.number) (λ (l : Letter). l.message) letters sent (message ∷ []) u.1)
          (ap (nth (sent ++ message ∷ [])) next ∙ sent_next sent [] message),
    )
  where
    long : (xs : List Message) → length (xs ++ message ∷ []) ≡ length xs + 1
    long xs = length_push xs message

module _ {K J I : Type 0} {an : _} {g : _} {s : _} {d : _} (contents : J → Option (List ℕ)) where
  -- what was written, and then more
  pub written_then : (from : ℕ) (b c : Store K J I an g s d) (one two : Lines) → IsContinued contents b.scribe c.scribe two → (early late : List (List Output)) → ((IsSpent b.scribe → ⊥) → AreWritten from early (lines_in one) b.noted) → ((IsSpent c.scribe → ⊥) → AreWritten b.noted late (lines_in two) c.noted) →
      (IsSpent c.scribe → ⊥) → AreWritten from (early ++ late) (lines_in (and_then one two)) c.noted
  written_then from b c one two came early late x y live =
      let up : IsSpent b.scribe → ⊥ = λ spent. let stays = continued_spent contents b.scribe c.scribe two came spent in live (subst IsSpent (sym stays.0) spent) in
      subst (λ (lines : List Line). AreWritten from (early ++ late) lines c.noted) (sym (lines_then one two)) (written_both from b.noted c.noted early late (lines_in one) (lines_in two) (x up) (y live))

module _ {K J I : Type 0} {an : _} {g : _} {s : _} {d : _} (contents : J → Option (List ℕ)) (honest : K → Type 0) (held : K → Durable → Type 0) (holds : I → Durable → Type 0) where
  abbrev On : Store K J I an g s d → Store K J I an g s d → Type 0
  On = GoesOn contents honest held holds

  -- ---- a store that goes on goes on

  -- a run that went on, and then went on
  pub record WentBoth (a b c : Store K J I an g s d) (w : World) (one two : Lines) (x : WentOn held holds one a b w) (y : WentOn held holds two b c x.world) : Type 0 where
    pub went : WentOn held holds (and_then one two) a c w
    pub gave : went.goes.gave ≡ x.goes.gave ++ y.goes.gave

  pub went_both : (a b c : Store K J I an g s d) → b.schema ≡ a.schema → length b.seats.items ≡ length a.seats.items → (one two : Lines) → IsContinued contents a.scribe b.scribe one → IsContinued contents b.scribe c.scribe two →
      (w : World) (x : WentOn held holds one a b w) (y : WentOn held holds two b c x.world) → WentBoth a b c w one two x y
  went_both a b c schema count one two early late w x y =
      let language = language_of a.schema in
      let n = length a.seats.items in
      let both = goes_both language (language_of b.schema) n (length b.seats.items) w x.world y.world (ap language_of schema) count x.goes y.goes in
      let hears : Hears (WasTold (x.goes.gave ++ y.goes.gave)) a.watched c.watched =
      hears_both (WasTold x.goes.gave) (WasTold y.goes.gave) (WasTold (x.goes.gave ++ y.goes.gave)) (tells_before x.goes.gave y.goes.gave) (tells_then x.goes.gave y.goes.gave) a.watched b.watched c.watched x.hears y.hears in
      let then_filed : AreRecorded language n x.world (reading_in b.scribe) two y.goes.events (IsSpent c.scribe) =
      subst (λ (k : ℕ). AreRecorded language k x.world (reading_in b.scribe) two y.goes.events (IsSpent c.scribe)) count
      (subst (λ (t : Tables). AreRecorded (language_of t) (length b.seats.items) x.world (reading_in b.scribe) two y.goes.events (IsSpent c.scribe)) schema y.events_are) in
      let filed = recorded_both language n w x.world (reading_in a.scribe) (reading_in b.scribe) one two x.goes.events y.goes.events (IsSpent b.scribe) (IsSpent c.scribe) x.goes.leads (continued_reading contents a.scribe b.scribe one early)
      (λ spent. let stays = continued_spent contents b.scribe c.scribe two late spent in stays.1) (λ spent. let stays = continued_spent contents b.scribe c.scribe two late spent in subst IsSpent (sym stays.0) spent) x.events_are then_filed in
      record {
        went = record { world = y.world; goes = both.goes; events_are = subst (AreFiled a c (and_then one two) w) (sym both.events_are) filed.0; outcomes_are = subst (λ (outs : List (List Output)). AreToldIn outs (lines_in (and_then one two))) (sym both.gave_is) (told_both x.goes.gave y.goes.gave one two x.outcomes_are y.outcomes_are); written = λ live. subst (λ (outs : List (List Output)). AreWritten a.noted outs (lines_in (and_then one two)) c.noted) (sym both.gave_is) (written_then contents a.noted b c one two late x.goes.gave y.goes.gave x.written y.written live); is_in = y.is_in; hears = subst (λ (outs : List (List Output)). Hears (WasTold outs) a.watched c.watched) (sym both.gave_is) hears };
        gave = both.gave_is;
      }

  pub stays : (t : Store K J I an g s d) → On t t
  stays t = record {
    schema = refl;
    count = refl;
    lines = no_lines;
    journal = continued_same contents t.scribe;
    clean = λ c. c;
    went = λ c w i.
        let goes = goes_nowhere (language_of t.schema) (length t.seats.items) w in
        record {
          world = w;
          goes = goes;
          events_are = recorded_silent (language_of t.schema) (length t.seats.items) w (reading_in t.scribe) no_lines goes.events (IsSpent t.scribe) (nowhere_events (language_of t.schema) (length t.seats.items) w) (All-nil IsSilent);
          outcomes_are = told_silent goes.gave [] (All-nil IsSilent);
          written = λ live. written_silent t.noted t.noted goes.gave [] (nowhere_gave (language_of t.schema) (length t.seats.items) w) (All-nil IsSilent) refl;
          is_in = i;
          hears = hears_same (WasTold goes.gave) t.watched t.watched refl;
        };
  }

  pub goes_on : (a b c : Store K J I an g s d) → On a b → On b c → On a c
  goes_on a b c x y = record {
    schema = y.schema ∙ x.schema;
    count = y.count ∙ x.count;
    lines = and_then x.lines y.lines;
    journal = continued_both contents a.scribe b.scribe c.scribe x.lines y.lines x.journal y.journal;
    clean = λ k. x.clean (y.clean k);
    went = λ k w i.
        let one = x.went (y.clean k) w i in
        let both = went_both a b c x.schema x.count x.lines y.lines x.journal y.journal w one (y.went k one.world one.is_in) in
        both.went;
  }

  -- what is said of a run that goes on before that, or after it
  pub so_then : (P : World → Type 0) (Q R : List (List Output) → Type 0) (a b c : Store K J I an g s d) → ((one two : List (List Output)) → Q one → R (one ++ two)) → GoesOnSo contents honest held holds P Q a b → On b c → GoesOnSo contents honest held holds P R a c
  so_then P Q R a b c later x y = record {
    schema = y.schema ∙ x.schema;
    count = y.count ∙ x.count;
    lines = and_then x.lines y.lines;
    journal = continued_both contents a.scribe b.scribe c.scribe x.lines y.lines x.journal y.journal;
    clean = λ k. x.clean (y.clean k);
    went = λ k w i p.
        let one = x.went (y.clean k) w i p in
        let two = y.went k one.0.world one.0.is_in in
        let both = went_both a b c x.schema x.count x.lines y.lines x.journal y.journal w one.0 two in
        (both.went, subst R (sym both.gave) (later one.0.goes.gave two.goes.gave one.1));
  }

  pub then_so : (Q R : List (List Output) → Type 0) (a b c : Store K J I an g s d) → ((one two : List (List Output)) → Hears (WasTold one) a.watched b.watched → Q two → R (one ++ two)) → On a b → GoesOnSo contents honest held holds Anywhere Q b c → GoesOnSo contents honest held holds Anywhere R a c
  then_so Q R a b c later x y = record {
    schema = y.schema ∙ x.schema;
    count = y.count ∙ x.count;
    lines = and_then x.lines y.lines;
    journal = continued_both contents a.scribe b.scribe c.scribe x.lines y.lines x.journal y.journal;
    clean = λ k. x.clean (y.clean k);
    went = λ k w i p.
        let one = x.went (y.clean k) w i in
        let two = y.went k one.world one.is_in tt in
        let both = went_both a b c x.schema x.count x.lines y.lines x.journal y.journal w one two.0 in
        (both.went, subst R (sym both.gave) (later one.goes.gave two.0.goes.gave one.hears two.1));
  }

  -- what is said of it is left out, or is always so
  pub so_goes : (P : World → Type 0) (Q : List (List Output) → Type 0) (a b : Store K J I an g s d) → ((w : World) → IsIn held holds a w → P w) → GoesOnSo contents honest held holds P Q a b → On a b
  so_goes P Q a b from x = record { schema = x.schema; count = x.count; lines = x.lines; journal = x.journal; clean = x.clean; went = λ k w i. let on = x.went k w i (from w i) in on.0 }

  pub goes_so : (P : World → Type 0) (Q : List (List Output) → Type 0) (a b : Store K J I an g s d) → ((gave : List (List Output)) → Q gave) → On a b → GoesOnSo contents honest held holds P Q a b
  goes_so P Q a b all x = record { schema = x.schema; count = x.count; lines = x.lines; journal = x.journal; clean = x.clean; went = λ k w i p. let on = x.went k w i in (on, all on.goes.gave) }

  pub from_weaker : (begun : List Line) (P R : World → Type 0) (Q S : List (List Output) → Type 0) (a b : Store K J I an g s d) → ((w : World) → R w → P w) → ((gave : List (List Output)) → Q gave → S gave) → GoesOnFrom contents honest held holds begun P Q a b → GoesOnFrom contents honest held holds begun R S a b
  from_weaker begun P R Q S a b from gives x = record { schema = x.schema; count = x.count; lines = x.lines; journal = x.journal; clean = x.clean; went = λ k w i p. let on = x.went k w i (from w p) in (on.0, gives on.0.goes.gave on.1) }

  pub so_weaker : (P R : World → Type 0) (Q S : List (List Output) → Type 0) (a b : Store K J I an g s d) → ((w : World) → R w → P w) → ((gave : List (List Output)) → Q gave → S gave) → GoesOnSo contents honest held holds P Q a b → GoesOnSo contents honest held holds R S a b
  so_weaker P R Q S a b from gives x = from_weaker [] P R Q S a b from gives x

  -- ---- the members stay, and maybe letters come under way

  pub passes : (a b : Store K J I an g s d) (messages : List Message) (told : List Told) → Publishes contents a b messages told → (tells : ℕ → ℕ → Result ℕ Reason → Type 0) → TellsLess (IsAmong told) tells → Hears tells a.watched b.watched
  passes a b messages told p tells less = hears_more (IsAmong told) tells less a.watched b.watched p.hears

  pub publishes_both : (a b c : Store K J I an g s d) (one two : List Message) (early late : List Told) → Publishes contents a b one early → Publishes contents b c two late → Publishes contents a c (one ++ two) (early ++ late)
  publishes_both a b c one two early late x y = record {
    schema = y.schema ∙ x.schema;
    seats = y.seats ∙ x.seats;
    journal = kept_both contents a.scribe b.scribe c.scribe x.journal y.journal;
    spent = λ k. y.spent (x.spent k);
    letters = λ live sent u. subst (AreUnderWay c.queue.items c.sent) (append_assoc sent one two) (y.letters live (sent ++ one) (x.letters (λ k. live (y.spent k)) sent u));
    hears = hears_both (IsAmong early) (IsAmong late) (IsAmong (early ++ late)) (among_left early late) (among_right early late) a.watched b.watched c.watched x.hears y.hears;
    noted = λ live none. y.noted live none ∙ x.noted (λ k. live (y.spent k)) none;
  }

  -- first nothing, then these
  pub then_publishes : (a b c : Store K J I an g s d) (messages : List Message) (told : List Told) → Publishes contents a b [] [] → Publishes contents b c messages told → Publishes contents a c messages told
  then_publishes a b c messages told x y = publishes_both a b c [] messages [] told x y

  -- first the messages, then what is told
  pub publishes_then : (a b c : Store K J I an g s d) (messages : List Message) (told : List Told) → Publishes contents a b messages [] → Publishes contents b c [] told → Publishes contents a c messages told
  publishes_then a b c messages told x y = subst (λ (ms : List Message). Publishes contents a c ms told) (append-nil messages) (publishes_both a b c messages [] [] told x y)

  -- in a spent store nothing comes under way, whatever was to
  pub spent_publishes : (a b : Store K J I an g s d) (messages : List Message) (told : List Told) → b.schema ≡ a.schema → b.seats ≡ a.seats → b.watched ≡ a.watched → IsKeptOn contents a.scribe b.scribe → IsSpent b.scribe → Publishes contents a b messages told
  spent_publishes a b messages told schema seats watched journal spent = record {
    schema = schema;
    seats = ap (λ v. v.items) seats;
    journal = journal;
    spent = λ k. spent;
    letters = λ live sent u. absurd (live spent);
    hears = hears_same (IsAmong told) a.watched b.watched watched;
    noted = λ live none. absurd (live spent);
  }

  -- the same where some were to come under way before
  pub spent_any : (a b : Store K J I an g s d) (some messages : List Message) (told : List Told) → Publishes contents a b some [] → IsSpent b.scribe → Publishes contents a b messages told
  spent_any a b some messages told p spent = record {
    schema = p.schema;
    seats = p.seats;
    journal = p.journal;
    spent = λ k. spent;
    letters = λ live sent u. absurd (live spent);
    hears = hears_more (IsAmong []) (IsAmong told) (nobody (IsAmong told)) a.watched b.watched p.hears;
    noted = λ live none. absurd (live spent);
  }

  -- it was spent in the midst of it
  pub spent_same : (a mid b : Store K J I an g s d) (messages : List Message) (told : List Told) → mid.schema ≡ a.schema → mid.seats ≡ a.seats → mid.watched ≡ a.watched → IsKeptOn contents a.scribe b.scribe → b ≡ record mid { scribe = b.scribe } → IsSpent b.scribe → Publishes contents a b messages told
  spent_same a mid b messages told schema seats watched journal is spent =
      spent_publishes a b messages told (ap (λ t. t.schema) is ∙ schema) (ap (λ t. t.seats) is ∙ seats) (ap (λ t. t.watched) is ∙ watched) journal spent

  -- a letter came under way
  pub posted : (a b : Store K J I an g s d) (number : ℕ) (message : Message) → number ≡ a.sent + 1 → b.queue.items ≡ a.queue.items ++ record { number = number; message = message } ∷ [] → b.sent ≡ number →
      b.schema ≡ a.schema → b.seats ≡ a.seats → b.scribe ≡ a.scribe → b.watched ≡ a.watched → b.noted ≡ a.noted → Publishes contents a b (message ∷ []) []
  posted a b number message next queue sent schema seats scribe watched noted = record {
    schema = schema;
    seats = ap (λ v. v.items) seats;
    journal = kept_is contents a.scribe b.scribe scribe;
    spent = λ k. subst IsSpent (sym scribe) k;
    letters = λ live before u. under_same (a.queue.items ++ record { number = number; message = message } ∷ []) b.queue.items number b.sent (before ++ message ∷ []) queue sent (sent_one a.queue.items a.sent number message before next u);
    hears = hears_same (IsAmong []) a.watched b.watched watched;
    noted = λ live none. noted;
  }

  -- a store by another name
  pub publishes_at : (a b t : Store K J I an g s d) (messages : List Message) (told : List Told) → t ≡ b → Publishes contents a b messages told → Publishes contents a t messages told
  publishes_at a b t messages told is p = subst (λ (x : Store K J I an g s d). Publishes contents a x messages told) (sym is) p

  -- nothing that is looked at here is another
  pub same_publishes : (a b : Store K J I an g s d) → b.schema ≡ a.schema → b.seats ≡ a.seats → b.queue ≡ a.queue → b.sent ≡ a.sent → b.watched ≡ a.watched → b.noted ≡ a.noted → IsKeptOn contents a.scribe b.scribe → (IsSpent a.scribe → IsSpent b.scribe) → Publishes contents a b [] []
  same_publishes a b schema seats queue sent watched noted journal spent = record {
    schema = schema;
    seats = ap (λ v. v.items) seats;
    journal = journal;
    spent = spent;
    letters = λ live sent_before u. subst (AreUnderWay b.queue.items b.sent) (sym (append-nil sent_before)) (under_same a.queue.items b.queue.items a.sent b.sent sent_before (ap (λ q. q.items) queue) sent u);
    hears = hears_same (IsAmong []) a.watched b.watched watched;
    noted = λ live none. noted;
  }

  -- nothing but the journal is another
  pub only_scribe : (old new : Store K J I an g s d) → new ≡ record old { scribe = new.scribe } → IsKeptOn contents old.scribe new.scribe → (IsSpent old.scribe → IsSpent new.scribe) → Publishes contents old new [] []
  only_scribe old new is journal spent = same_publishes old new (ap (λ t. t.schema) is) (ap (λ t. t.seats) is) (ap (λ t. t.queue) is) (ap (λ t. t.sent) is) (ap (λ t. t.watched) is) (ap (λ t. t.noted) is) journal spent

  -- the same seats
  pub seats_as : (a b : Store K J I an g s d) → b.schema ≡ a.schema → b.seats.items ≡ a.seats.items → (w : World) → IsIn held holds a w → AreSeated (λ m seat x. HasMember held holds b.schema (length b.seats.items) m seat x) b.seats.items w.nodes
  seats_as a b schema seats w i =
      subst (λ (t : Tables). AreSeated (λ m seat x. HasMember held holds t (length b.seats.items) m seat x) b.seats.items w.nodes) (sym schema)
      (subst (λ (xs : List (Seat K J I an g s d)). AreSeated (λ m seat x. HasMember held holds a.schema (length xs) m seat x) xs w.nodes) (sym seats) i.seated)

  -- a store whose members stay, and in which nothing comes under way, is in the same world
  pub same_in : (a b : Store K J I an g s d) (told : List Told) → Publishes contents a b [] told → (w : World) → IsIn held holds a w → IsIn held holds b w
  same_in a b told p w i = record {
    seated = seats_as a b p.schema p.seats w i;
    under_way = λ live. subst (AreUnderWay b.queue.items b.sent) (append-nil w.sent) (p.letters live w.sent (i.under_way (λ k. live (p.spent k))));
  }

  -- up to where outcomes are written is another, and then the store was spent
  pub noted_spent : (old mid new : Store K J I an g s d) (messages : List Message) (told : List Told) → mid ≡ record old { noted = mid.noted } → Publishes contents mid new [] [] → IsSpent new.scribe → Publishes contents old new messages told
  noted_spent old mid new messages told is p spent =
      let q = subst (λ (t : Store K J I an g s d). Publishes contents t new [] []) is p in
      record {
        schema = q.schema;
        seats = q.seats;
        journal = q.journal;
        spent = λ k. spent;
        letters = λ live sent u. absurd (live spent);
        hears = hears_more (IsAmong []) (IsAmong told) (nobody (IsAmong told)) old.watched new.watched q.hears;
        noted = λ live none. absurd (live spent);
      }

  -- nothing but what the queue is made of is another
  pub only_queue : (old new : Store K J I an g s d) → new ≡ record old { queue = new.queue } → new.queue.items ≡ old.queue.items → Publishes contents old new [] []
  only_queue old new is queue = record {
    schema = ap (λ t. t.schema) is;
    seats = ap (λ t. t.seats.items) is;
    journal = kept_is contents old.scribe new.scribe (ap (λ t. t.scribe) is);
    spent = λ k. subst IsSpent (sym (ap (λ t. t.scribe) is)) k;
    letters = λ live before u. subst (AreUnderWay new.queue.items new.sent) (sym (append-nil before)) (under_same old.queue.items new.queue.items old.sent new.sent before queue (ap (λ t. t.sent) is) u);
    hears = hears_same (IsAmong []) old.watched new.watched (ap (λ t. t.watched) is);
    noted = λ live none. ap (λ t. t.noted) is;
  }

  -- nothing comes of nothing
  pub publishes_none : (t : Store K J I an g s d) → Publishes contents t t [] []
  publishes_none t = same_publishes t t refl refl refl refl refl refl (kept_same contents t.scribe) (λ k. k)

  pub publishes_on : (a b : Store K J I an g s d) → Publishes contents a b [] [] → On a b
  publishes_on a b p = record {
    schema = p.schema;
    count = ap length p.seats;
    lines = p.journal.0;
    journal = p.journal.2;
    clean = λ k. subst (All (IsClean honest holds)) p.seats k;
    went = λ k w i.
        let goes = goes_nowhere (language_of a.schema) (length a.seats.items) w in
        record { world = w; goes = goes; events_are = recorded_silent (language_of a.schema) (length a.seats.items) w (reading_in a.scribe) p.journal.0 goes.events (IsSpent b.scribe) (nowhere_events (language_of a.schema) (length a.seats.items) w) p.journal.1; outcomes_are = told_silent goes.gave (lines_in p.journal.0) p.journal.1; written = λ live. written_silent a.noted b.noted goes.gave (lines_in p.journal.0) (nowhere_gave (language_of a.schema) (length a.seats.items) w) p.journal.1 (p.noted live (λ m outcomes none. none)); is_in = same_in a b [] p w i; hears = passes a b [] [] p (WasTold goes.gave) (nobody (WasTold goes.gave)) };
  }

  -- ---- a step is over

  -- nothing that is told came to the journal
  pub publishes_so : (says : ℕ → List Noted → Type 0) (a b : Store K J I an g s d) (messages : List Message) (told : List Told) → Publishes contents a b messages told → PublishesSo contents says a b messages told
  publishes_so says a b messages told p = record {
    schema = p.schema;
    seats = p.seats;
    journal = (p.journal.0, silent_quiet says (lines_in p.journal.0) p.journal.1, p.journal.2);
    spent = p.spent;
    letters = p.letters;
    hears = p.hears;
    noted = λ live none. p.noted live (λ m outcomes none. none);
  }

  -- the store was spent in it
  pub ends_spent : (m : ℕ) (a b : Store K J I an g s d) (messages : List Message) (told : List Told) → Publishes contents a b messages told → IsSpent b.scribe → EndsStep contents m a b messages told
  ends_spent m a b messages told p spent = record {
    publishes = publishes_so (OneSays m told) a b messages told p;
    written = λ live. absurd (live spent);
  }

  -- what is told for the first time was written first, and up to where outcomes are written is another
  pub made_then : (m : ℕ) (outcomes : List Noted) (old first mid new : Store K J I an g s d) (messages : List Message) (told : List Told) → IsQuiet (OneSays m told) (Made m outcomes) → (outcomes ≡ outcomes_of (first_told old.noted told)) × (first.noted ≡ noted_after old.noted told) →
      first ≡ record old { noted = first.noted } → mid ≡ record first { scribe = mid.scribe } → (IsSpent first.scribe → ⊥) →
      IsContinued contents first.scribe mid.scribe (waiting (Made m outcomes ∷ [])) → Publishes contents mid new messages told → EndsStep contents m old new messages told
  made_then m outcomes old first mid new messages told quiet all is on live came p =
      let line = Made m outcomes in
      let says = OneSays m told in
      let one : IsContinued contents old.scribe mid.scribe (waiting (line ∷ [])) = subst (λ (s : Option (Scribe J)). IsContinued contents s mid.scribe (waiting (line ∷ []))) (ap (λ t. t.scribe) is) came in
      let quiets = All-cons (IsQuiet says) line (lines_in p.journal.0) quiet (silent_quiet says (lines_in p.journal.0) p.journal.1) in
      let joined = lines_then (waiting (line ∷ [])) p.journal.0 in
      let last : (IsSpent new.scribe → ⊥) → new.noted ≡ noted_after old.noted told = λ up. p.noted up (λ k os none. none) ∙ ap (λ t. t.noted) on ∙ all.1 in
      record {
        publishes = record {
          schema = p.schema ∙ ap (λ t. t.schema) on ∙ ap (λ t. t.schema) is;
          seats = p.seats ∙ ap (λ t. t.seats.items) on ∙ ap (λ t. t.seats.items) is;
          journal = (and_then (waiting (line ∷ [])) p.journal.0, subst (All (IsQuiet says)) (sym joined) quiets, continued_both contents old.scribe mid.scribe new.scribe (waiting (line ∷ [])) p.journal.0 one p.journal.2);
          spent = λ k. absurd (live (subst IsSpent (sym (ap (λ t. t.scribe) is)) k));
          letters = λ up before u. p.letters up before (under_same old.queue.items mid.queue.items old.sent mid.sent before (ap (λ t. t.queue.items) on ∙ ap (λ t. t.queue.items) is) (ap (λ t. t.sent) on ∙ ap (λ t. t.sent) is) u);
          hears = subst (λ (w : Option Watched). Hears (IsAmong told) w new.watched) (ap (λ t. t.watched) on ∙ ap (λ t. t.watched) is) p.hears;
          noted = λ up none. absurd (none m outcomes quiet);
        };
        written = λ up. subst (λ (lines : List Line). IsEnd m old.noted told lines new.noted) (sym joined) (made_end m old.noted new.noted told outcomes (lines_in p.journal.0) all.0 (last up) p.journal.1);
      }

  -- nothing but who leads is another
  pub only_leader : (old new : Store K J I an g s d) → new ≡ record old { leader = new.leader } → On old new
  only_leader old new is = publishes_on old new (same_publishes old new (ap (λ t. t.schema) is) (ap (λ t. t.seats) is) (ap (λ t. t.queue) is) (ap (λ t. t.sent) is) (ap (λ t. t.watched) is) (ap (λ t. t.noted) is) (kept_is contents old.scribe new.scribe (ap (λ t. t.scribe) is)) (λ k. subst IsSpent (sym (ap (λ t. t.scribe) is)) k))

  -- the outcome of what is waited for was taken out
  pub outcome_taken : (old new : Store K J I an g s d) (v u : Watched) → old.watched ≡ Some v → new ≡ record old { watched = Some u } → u.client ≡ v.client → u.number ≡ v.number → u.outcome ≡ None → On old new
  outcome_taken old new v u was is client number none = publishes_on old new (record {
    schema = ap (λ t. t.schema) is;
    seats = ap (λ t. t.seats.items) is;
    journal = kept_is contents old.scribe new.scribe (ap (λ t. t.scribe) is);
    spent = λ k. subst IsSpent (sym (ap (λ t. t.scribe) is)) k;
    letters = λ live before under. subst (AreUnderWay new.queue.items new.sent) (sym (append-nil before)) (under_same old.queue.items new.queue.items old.sent new.sent before (ap (λ t. t.queue.items) is) (ap (λ t. t.sent) is) under);
    hears = subst (λ (o : Option Watched). Hears (IsAmong []) o new.watched) (sym was) (subst (λ (o : Option Watched). Hears (IsAmong []) (Some v) o) (sym (ap (λ t. t.watched) is)) (client, number, unheard u.outcome none));
    noted = λ live none_told. ap (λ t. t.noted) is;
  })
    where
      unheard : (o : Option (Result ℕ Reason)) → o ≡ None → IfSome o (Heard (IsAmong []) (Some v))
      unheard None e = tt
      unheard (Some r) e = absurd (cc e)

  -- what is waited for is another, and nothing is waited for at the end
  pub waited : (Q : List (List Output) → Type 0) (a b : Store K J I an g s d) (watched : Option Watched) → GoesOnSo contents honest held holds Anywhere Q (record a { watched = watched }) b → GoesOnSo contents honest held holds Anywhere Q a (record b { watched = None })
  waited Q a b watched x = record {
    schema = x.schema;
    count = x.count;
    lines = x.lines;
    journal = x.journal;
    clean = x.clean;
    went = λ k w i p.
        let on = x.went k w (record { seated = i.seated; under_way = i.under_way }) tt in
        (record { world = on.0.world; goes = on.0.goes; events_are = on.0.events_are; outcomes_are = on.0.outcomes_are; written = on.0.written; is_in = record { seated = on.0.is_in.seated; under_way = on.0.is_in.under_way }; hears = tt }, on.1);
  }

  -- ---- a letter that is taken out

  pub popped : (old mid new : Store K J I an g s d) (letter : Letter) → mid ≡ record old { queue = mid.queue } → old.queue.items ≡ letter ∷ mid.queue.items → GoesOnSo contents honest held holds (HasSent mid letter) (λ gave. Unit {0}) mid new → On old new
  popped old mid new letter is queue x =
      let y = subst (λ (m : Store K J I an g s d). GoesOnSo contents honest held holds (HasSent m letter) (λ gave. Unit {0}) m new) is x in
      record {
        schema = y.schema;
        count = y.count;
        lines = y.lines;
        journal = y.journal;
        clean = y.clean;
        went = λ k w i.
            let rest : (IsSpent old.scribe → ⊥) → AreUnderWay (letter ∷ mid.queue.items) old.sent w.sent = λ live. subst (λ (q : List Letter). AreUnderWay q old.sent w.sent) queue (i.under_way live) in
            let on = y.went k w
            (record { seated = i.seated; under_way = λ live. let u = rest live in (u.0, All-tail (λ (l : Letter). nth w.sent l.number ≡ Some l.message) letter mid.queue.items u.1) })
            (λ live. let u = rest live in All-head (λ (l : Letter). nth w.sent l.number ≡ Some l.message) letter mid.queue.items u.1) in
            record { world = on.0.world; goes = on.0.goes; events_are = on.0.events_are; outcomes_are = on.0.outcomes_are; written = on.0.written; is_in = on.0.is_in; hears = on.0.hears };
      }

  -- ---- a step that is begun

  pub begun : (m : ℕ) (taken : Taken) (now : ℤ) (work : Work) (Q : List (List Output) → Type 0) (old mid new : Store K J I an g s d) → mid ≡ record old { scribe = mid.scribe } → (IsSpent old.scribe → ⊥) → BeginsStep contents old.scribe mid.scribe m taken →
      GoesOnFrom contents honest held holds (Takes m taken ∷ []) (IsBrought mid m (job_of now taken) work) Q mid new → GoesOnSo contents honest held holds (IsBrought old m (job_of now taken) work) Q old new
  begun m taken now work Q old mid new is live (before, silent, came) x =
      let y = subst (λ (t : Store K J I an g s d). GoesOnFrom contents honest held holds (Takes m taken ∷ []) (IsBrought t m (job_of now taken) work) Q t new) is x in
      let first = reading_in old.scribe in
      let shown : last_reading first before ≡ reading_in mid.scribe = sym (continued_reading contents old.scribe mid.scribe (waiting (before ++ Takes m taken ∷ [])) came ∙ last_both first before (Takes m taken ∷ [])) in
      record {
        schema = y.schema;
        count = y.count;
        lines = and_then (waiting (before ++ Takes m taken ∷ [])) y.lines;
        journal = continued_both contents old.scribe mid.scribe new.scribe (waiting (before ++ Takes m taken ∷ [])) y.lines came y.journal;
        clean = y.clean;
        went = λ k w i p.
            let on = y.went k w (record { seated = i.seated; under_way = λ other. i.under_way live }) (λ other. p live) in
            let filed : AreFiled old new (and_then (waiting (before ++ Takes m taken ∷ [])) y.lines) w on.0.goes.events =
            recorded_after (language_of old.schema) (length old.seats.items) w first before (Takes m taken) y.lines on.0.goes.events (IsSpent new.scribe) silent
            (subst (λ (r : Option ℤ). AreRecorded (language_of old.schema) (length old.seats.items) w r (with_begun (Takes m taken ∷ []) y.lines) on.0.goes.events (IsSpent new.scribe)) (sym shown) on.0.events_are) in
            let gave = on.0.goes.gave in
            let front = before ++ Takes m taken ∷ [] in
            let P : Line → Type 0 = IsTrue (ToldIn gave) in
            let rest = All-tail P (Takes m taken) (lines_in y.lines) (told_rest gave (Takes m taken) y.lines on.0.outcomes_are) in
            let told : AreToldIn gave (lines_in (and_then (waiting front) y.lines)) =
            subst (AreToldIn gave) (sym (lines_then (waiting front) y.lines)) (All-append P front (lines_in y.lines) (All-push P before (Takes m taken) (told_silent gave before silent) tt) rest) in
            let whole : before ++ Takes m taken ∷ lines_in y.lines ≡ lines_in (and_then (waiting front) y.lines) = line_behind before (Takes m taken) (lines_in y.lines) ∙ sym (lines_then (waiting front) y.lines) in
            let bare : (IsSpent new.scribe → ⊥) → AreWritten old.noted gave (Takes m taken ∷ lines_in y.lines) new.noted = λ up. subst (λ (lines : List Line). AreWritten old.noted gave lines new.noted) (lines_then (waiting (Takes m taken ∷ [])) y.lines) (on.0.written up) in
            let written : (IsSpent new.scribe → ⊥) → AreWritten old.noted gave (lines_in (and_then (waiting front) y.lines)) new.noted =
            λ up. subst (λ (lines : List Line). AreWritten old.noted gave lines new.noted) whole (written_both old.noted old.noted new.noted [] gave before (Takes m taken ∷ lines_in y.lines) (written_silent old.noted old.noted [] before refl silent refl) (bare up)) in
            (record { world = on.0.world; goes = on.0.goes; events_are = filed; outcomes_are = told; written = written; is_in = on.0.is_in; hears = on.0.hears }, on.1);
      }

  -- ---- one event

  -- a line that waits records a start or a stop
  one_idle : (old new : Store K J I an g s d) (line : Line) (event : Event) (w : World) → IsStartOrStop event → Records w (reading_in old.scribe) line (event ∷ []) → AreFiled old new (waiting (line ∷ [])) w (event ∷ [])
  one_idle old new line event w idle records = recorded_idle (language_of old.schema) (length old.seats.items) w (reading_in old.scribe) (waiting (line ∷ [])) (event ∷ []) (IsSpent new.scribe) (event ∷ [], [], records, refl, refl) (All-cons IsStartOrStop event [] idle (All-nil IsStartOrStop))

  -- an event happened, of a store in which nothing is heard
  pub by_one : (event : Event) (land : World → World) (old new : Store K J I an g s d) → new.schema ≡ old.schema → length new.seats.items ≡ length old.seats.items → new.watched ≡ old.watched → (AreClean honest holds new → AreClean honest holds old) →
      (lines : Lines) → ((gave : List (List Output)) → gave ≡ [] ∷ [] → (IsSpent new.scribe → ⊥) → AreWritten old.noted gave (lines_in lines) new.noted) → IsContinued contents old.scribe new.scribe lines → ((gave : List (List Output)) → AreToldIn gave (lines_in lines)) → (AreClean honest holds new → (w : World) → IsIn held holds old w → AreFiled old new lines w (event ∷ [])) →
      ((w : World) → By (language_of old.schema) (length old.seats.items) w (land w) event) → (AreClean honest holds new → (w : World) → IsIn held holds old w → IsIn held holds new (land w)) → On old new
  by_one event land old new schema count watched clean lines written journal told filed by lands = record {
    schema = schema;
    count = count;
    lines = lines;
    journal = journal;
    clean = clean;
    went = λ k w i.
        let b = by w in
        record { world = land w; goes = b.goes; events_are = subst (AreFiled old new lines w) (sym b.events_are) (filed k w i); outcomes_are = told b.goes.gave; written = λ live. written b.goes.gave b.gave_is live; is_in = lands k w i; hears = hears_same (WasTold b.goes.gave) old.watched new.watched watched };
  }

  -- only lines came to the journal of a store that is not spent
  written_in : (old mid : Store K J I an g s d) → mid ≡ record old { scribe = mid.scribe } → (IsSpent old.scribe → ⊥) → (w : World) → IsIn held holds old w → IsIn held holds mid w
  written_in old mid is live w i = subst (λ (t : Store K J I an g s d). IsIn held holds t w) (sym is) (let there : IsIn held holds (record old { scribe = mid.scribe }) w = record { seated = i.seated; under_way = λ other. i.under_way live } in there)

  -- a member's end came to the journal, and it was stopped
  pub ended : (m : ℕ) (old mid new : Store K J I an g s d) → mid ≡ record old { scribe = mid.scribe } → (IsSpent old.scribe → ⊥) → IsContinued contents old.scribe mid.scribe (waiting (Ends m ∷ [])) → Stops honest held holds m mid new → On old new
  ended m old mid new is live came stops =
      let as_old : Stops honest held holds m (record old { scribe = mid.scribe }) new = subst (λ (t : Store K J I an g s d). Stops honest held holds m t new) is stops in
      let first = reading_in old.scribe in
      by_one (Stop m) (λ w. stops_of w m (nth w.nodes m)) old new as_old.schema as_old.count as_old.watched as_old.clean (waiting (Ends m ∷ [])) (λ gave is up. end_written old.noted new.noted m gave is as_old.noted)
      (subst (λ (x : Option (Scribe J)). IsContinued contents old.scribe x (waiting (Ends m ∷ []))) (sym as_old.scribe) came)
      (λ gave. one_told gave (Ends m) tt)
      (λ k w i. one_idle old new (Ends m) (Stop m) w (m, inr refl) refl)
      (λ w. stop_goes (language_of old.schema) (length old.seats.items) w m)
      (λ k w i. as_old.went k w (record { seated = i.seated; under_way = λ other. i.under_way live }))

  -- it was down before, and its end came to the journal then
  pub ended_late : (m : ℕ) (first old mid new : Store K J I an g s d) → Stops honest held holds m first old → mid ≡ record old { scribe = mid.scribe } → (IsSpent old.scribe → ⊥) → IsContinued contents old.scribe mid.scribe (waiting (Ends m ∷ [])) → Stops honest held holds m mid new → On first new
  ended_late m first old mid new fell is live came stops =
      let neat : AreClean honest holds new → AreClean honest holds old = λ k. subst (λ (t : Store K J I an g s d). AreClean honest holds t) is (stops.clean k) in
      by_one (Stop m) (λ w. stops_of w m (nth w.nodes m)) first new (stops.schema ∙ ap (λ t. t.schema) is ∙ fell.schema) (stops.count ∙ ap (λ t. length t.seats.items) is ∙ fell.count) (stops.watched ∙ ap (λ t. t.watched) is ∙ fell.watched)
      (λ k. fell.clean (neat k)) (waiting (Ends m ∷ [])) (λ gave given up. end_written first.noted new.noted m gave given (stops.noted ∙ ap (λ t. t.noted) is ∙ fell.noted))
      (subst (λ (x : Option (Scribe J)). IsContinued contents x new.scribe (waiting (Ends m ∷ []))) fell.scribe (subst (λ (x : Option (Scribe J)). IsContinued contents old.scribe x (waiting (Ends m ∷ []))) (sym stops.scribe) came))
      (λ gave. one_told gave (Ends m) tt)
      (λ k w i. one_idle first new (Ends m) (Stop m) w (m, inr refl) refl)
      (λ w. stop_goes (language_of first.schema) (length first.seats.items) w m)
      (λ k w i.
      let down = stops_of w m (nth w.nodes m) in
      subst (IsIn held holds new) (stops_twice w m) (stops.went k down (written_in old mid is live down (fell.went (neat k) w i))))

  -- and the journal was spent before that
  pub ended_unsaid : (m : ℕ) (first old new : Store K J I an g s d) → Stops honest held holds m first old → new ≡ record old { scribe = new.scribe } → IsContinued contents old.scribe new.scribe no_lines → IsSpent new.scribe → On first new
  ended_unsaid m first old new fell is came spent =
      let neat : AreClean honest holds new → AreClean honest holds old = λ k. subst (λ (t : Store K J I an g s d). AreClean honest holds t) is k in
      by_one (Stop m) (λ w. stops_of w m (nth w.nodes m)) first new (ap (λ t. t.schema) is ∙ fell.schema) (ap (λ t. length t.seats.items) is ∙ fell.count) (ap (λ t. t.watched) is ∙ fell.watched)
      (λ k. fell.clean (neat k)) no_lines (λ gave given up. absurd (up spent))
      (subst (λ (x : Option (Scribe J)). IsContinued contents x new.scribe no_lines) fell.scribe came)
      (λ gave. told_silent gave [] (All-nil IsSilent))
      (λ k w i. recorded_late (language_of first.schema) (length first.seats.items) w (reading_in first.scribe) (Stop m) (IsSpent new.scribe) (m, inr refl) spent)
      (λ w. stop_goes (language_of first.schema) (length first.seats.items) w m)
      (λ k w i.
      let there = fell.went (neat k) w i in
      subst (λ (t : Store K J I an g s d). IsIn held holds t (stops_of w m (nth w.nodes m))) (sym is)
      (let in_old : IsIn held holds (record old { scribe = new.scribe }) (stops_of w m (nth w.nodes m)) = record { seated = there.seated; under_way = λ live. absurd (live spent) } in in_old))

  -- a member was started, and its life came to the journal
  pub lives : (m : ℕ) (stored : Summary) (old mid new : Store K J I an g s d) → StartsOne honest held holds m old mid → HasStored honest held holds mid m stored → new ≡ record mid { scribe = new.scribe } → (IsSpent mid.scribe → ⊥) → IsContinued contents mid.scribe new.scribe (waiting (Life m stored ∷ [])) → On old new
  lives m stored old mid new starts has is live came =
      let language = language_of old.schema in
      let n = length old.seats.items in
      by_one (Start m) (λ w. starts_of w m (nth w.nodes m)) old new (ap (λ t. t.schema) is ∙ starts.schema) (ap (λ t. length t.seats.items) is ∙ starts.count) (ap (λ t. t.watched) is ∙ starts.watched)
      (λ k. starts.clean (subst (λ (t : Store K J I an g s d). AreClean honest holds t) is k)) (waiting (Life m stored ∷ [])) (λ gave given up. life_written old.noted new.noted m stored gave given (ap (λ t. t.noted) is ∙ starts.noted))
      (subst (λ (x : Option (Scribe J)). IsContinued contents x new.scribe (waiting (Life m stored ∷ []))) starts.scribe came)
      (λ gave. one_told gave (Life m stored) tt)
      (λ k w i.
      let v = starts_of w m (nth w.nodes m) in
      let neat = subst (λ (t : Store K J I an g s d). AreClean honest holds t) is k in
      let short : HasInShort w m stored = short_same v w m stored (sym (idle_stores language n (Start m) (m, inl refl) w)) (has neat v (starts.went neat w i)) in
      one_idle old new (Life m stored) (Start m) w (m, inl refl) (refl, short))
      (λ w. start_goes (language_of old.schema) (length old.seats.items) w m)
      (λ k w i. written_in mid new is live (starts_of w m (nth w.nodes m)) (starts.went (subst (λ (t : Store K J I an g s d). AreClean honest holds t) is k) w i))

  -- it was started, and the journal was spent before its life came there
  pub lives_unsaid : (m : ℕ) (old mid new : Store K J I an g s d) → StartsOne honest held holds m old mid → new ≡ record mid { scribe = new.scribe } → IsContinued contents mid.scribe new.scribe no_lines → IsSpent new.scribe → On old new
  lives_unsaid m old mid new starts is came spent =
      let first = reading_in old.scribe in
      by_one (Start m) (λ w. starts_of w m (nth w.nodes m)) old new (ap (λ t. t.schema) is ∙ starts.schema) (ap (λ t. length t.seats.items) is ∙ starts.count) (ap (λ t. t.watched) is ∙ starts.watched)
      (λ k. starts.clean (subst (λ (t : Store K J I an g s d). AreClean honest holds t) is k)) no_lines (λ gave given up. absurd (up spent))
      (subst (λ (x : Option (Scribe J)). IsContinued contents x new.scribe no_lines) starts.scribe came)
      (λ gave. told_silent gave [] (All-nil IsSilent))
      (λ k w i. recorded_late (language_of old.schema) (length old.seats.items) w (reading_in old.scribe) (Start m) (IsSpent new.scribe) (m, inl refl) spent)
      (λ w. start_goes (language_of old.schema) (length old.seats.items) w m)
      (λ k w i.
      let there = starts.went (subst (λ (t : Store K J I an g s d). AreClean honest holds t) is k) w i in
      subst (λ (t : Store K J I an g s d). IsIn held holds t (starts_of w m (nth w.nodes m))) (sym is)
      (let in_mid : IsIn held holds (record mid { scribe = new.scribe }) (starts_of w m (nth w.nodes m)) = record { seated = there.seated; under_way = λ live. absurd (live spent) } in in_mid))

  -- nothing came to a journal, which is spent
  pub unwritten : (old new : Store K J I an g s d) → new ≡ record old { scribe = new.scribe } → IsContinued contents old.scribe new.scribe no_lines → IsSpent new.scribe → On old new
  unwritten old new is came spent = publishes_on old new (only_scribe old new is (kept_none contents old.scribe new.scribe came) (λ was. spent))

  -- nobody is stopped who is not there
  pub stops_nobody : (t : Store K J I an g s d) (m : ℕ) → (length t.seats.items < m) ⊎ (m ≡ 0) → Stops honest held holds m t t
  stops_nobody t m away = record {
    schema = refl;
    count = refl;
    scribe = refl;
    noted = refl;
    watched = refl;
    clean = λ k. k;
    went = λ k w i. subst (IsIn held holds t) (sym (ap (stops_of w m) (nowhere w.nodes (i.seated.all) m away))) i;
  }
    where
      nowhere : (nodes : List model.Node) → length nodes ≡ length t.seats.items → (m : ℕ) → (length t.seats.items < m) ⊎ (m ≡ 0) → nth nodes m ≡ None
      nowhere nodes all zero away = refl
      nowhere nodes all (suc k) away = ⊎_elim (λ far. slice_get_past nodes k (omega (arith, far, all))) (λ none. absurd (cc none)) away

  -- who leads is another
  pub stops_leader : (m : ℕ) (old mid new : Store K J I an g s d) → new ≡ record mid { leader = new.leader } → Stops honest held holds m old mid → Stops honest held holds m old new
  stops_leader m old mid new is S = subst (Stops honest held holds m old) (sym is) (record {
    schema = S.schema;
    count = S.count;
    scribe = S.scribe;
    noted = S.noted;
    watched = S.watched;
    clean = S.clean;
    went = λ k w i. let there = S.went k w i in record { seated = there.seated; under_way = there.under_way };
  })

  -- ---- a seat whose member is stopped or started

  module _ (old new : Store K J I an g s d) (at : ℕ) (before after : Seat K J I an g s d) (C : Changes contents honest holds old new at before after) where
    abbrev Has : ℕ → Seat K J I an g s d → model.Node → Type 0
    Has m seat x = HasMember held holds old.schema (length old.seats.items) m seat x

    pub same_count : length new.seats.items ≡ length old.seats.items
    same_count = ap length (C.seats ∙ set_next old.seats.items (at + 1) at after refl) ∙ with_length old.seats.items (at + 1) after

    pub tidy : AreClean honest holds new → IsClean honest holds after
    tidy k = all_at (IsClean honest holds) old.seats.items at before after C.there (subst (All (IsClean honest holds)) C.seats k)

    pub was_tidy : AreClean honest holds new → AreClean honest holds old
    was_tidy k = all_back (IsClean honest holds) old.seats.items at before after C.there C.clean (subst (All (IsClean honest holds)) C.seats k)

    -- the member that sits there
    pub sits : (w : World) → IsIn held holds old w → (x : model.Node) × (nth w.nodes (at + 1) ≡ Some x) × Has (at + 1) before x
    sits w i = seated Has old.seats.items w.nodes i.seated (at + 1) before (nth_next old.seats.items (at + 1) at refl ∙ C.there)

    -- the store is in the world in which the seat's member is this one
    pub seat_in : (IsSpent old.scribe → IsSpent new.scribe) → (w : World) (y : model.Node) → IsIn held holds old w → Has (at + 1) after y → IsIn held holds new (world_with (with_nth w.nodes (at + 1) y) w.sent)
    seat_in spent w y i h =
        let nodes = with_nth w.nodes (at + 1) y in
        let anew : AreSeated Has (with_nth old.seats.items (at + 1) after) nodes = seated_anew Has old.seats.items w.nodes i.seated (at + 1) after y h in
        let seats : with_nth old.seats.items (at + 1) after ≡ new.seats.items = sym (C.seats ∙ set_next old.seats.items (at + 1) at after refl) in
        let there : AreSeated Has new.seats.items nodes = subst (λ (xs : List (Seat K J I an g s d)). AreSeated Has xs nodes) seats anew in
        let named : AreSeated (λ m seat x. HasMember held holds new.schema (length old.seats.items) m seat x) new.seats.items nodes =
        subst (λ (t : Tables). AreSeated (λ m seat x. HasMember held holds t (length old.seats.items) m seat x) new.seats.items nodes) (sym C.schema) there in
        record {
          seated = subst (λ (n : ℕ). AreSeated (λ m seat x. HasMember held holds new.schema n m seat x) new.seats.items nodes) (sym same_count) named;
          under_way = λ live. under_same old.queue.items new.queue.items old.sent new.sent w.sent (ap (λ q. q.items) C.queue) C.sent (i.under_way (λ k. live (spent k)));
        }

    -- a member that stays as it is, or turns into another one
    stays_in : new.scribe ≡ old.scribe → (w v : World) (x y : model.Node) → IsIn held holds old w → Has (at + 1) after y → v ≡ with_node w (at + 1) y [] → IsIn held holds new v
    stays_in scribe w v x y i h is =
        subst (IsIn held holds new) (sym (is ∙ ap (world_with (with_nth w.nodes (at + 1) y)) (append-nil w.sent))) (seat_in (λ spent. subst IsSpent (sym scribe) spent) w y i h)

    -- it was stopped
    pub stops_one : (m : ℕ) → m ≡ at + 1 → new.scribe ≡ old.scribe → (IsClean honest holds after → (x : model.Node) → Has (at + 1) before x → Has (at + 1) after (after_stop x)) → Stops honest held holds m old new
    stops_one m is scribe turn = subst (λ (k : ℕ). Stops honest held holds k old new) (sym is) (record {
      schema = C.schema;
      count = same_count;
      scribe = scribe;
      noted = C.noted;
      watched = C.watched;
      clean = was_tidy;
      went = λ k w i.
          let x = sits w i in
          stays_in scribe w (stops_of w (at + 1) (nth w.nodes (at + 1))) x.0 (after_stop x.0) i (turn (tidy k) x.0 x.2) (stops_at w (at + 1) x.0 x.1);
    })

    -- it was started
    pub starts_one : (m : ℕ) → m ≡ at + 1 → new.scribe ≡ old.scribe → (IsClean honest holds after → (x : model.Node) → Has (at + 1) before x → (x.up ≡ false) × Has (at + 1) after (started x)) → StartsOne honest held holds m old new
    starts_one m is scribe turn = subst (λ (k : ℕ). StartsOne honest held holds k old new) (sym is) (record {
      schema = C.schema;
      count = same_count;
      scribe = scribe;
      noted = C.noted;
      watched = C.watched;
      clean = was_tidy;
      went = λ k w i.
          let x = sits w i in
          let t = turn (tidy k) x.0 x.2 in
          stays_in scribe w (starts_of w (at + 1) (nth w.nodes (at + 1))) x.0 (started x.0) i t.1 (starts_at w (at + 1) x.0 x.1 t.0);
    })

    -- it stayed as it was
    pub same_seat : new.scribe ≡ old.scribe → (IsClean honest holds after → (x : model.Node) → Has (at + 1) before x → Has (at + 1) after x) → On old new
    same_seat scribe turn = record {
      schema = C.schema;
      count = same_count;
      lines = no_lines;
      journal = subst (λ (x : Option (Scribe J)). IsContinued contents old.scribe x no_lines) (sym scribe) (continued_same contents old.scribe);
      clean = was_tidy;
      went = λ k w i.
          let x = sits w i in
          let goes = goes_nowhere (language_of old.schema) (length old.seats.items) w in
          record {
            world = w;
            goes = goes;
            events_are = recorded_silent (language_of old.schema) (length old.seats.items) w (reading_in old.scribe) no_lines goes.events (IsSpent new.scribe) (nowhere_events (language_of old.schema) (length old.seats.items) w) (All-nil IsSilent);
            outcomes_are = told_silent goes.gave [] (All-nil IsSilent);
            written = λ live. written_silent old.noted new.noted goes.gave [] (nowhere_gave (language_of old.schema) (length old.seats.items) w) (All-nil IsSilent) C.noted;
            is_in = stays_in scribe w w x.0 x.0 i (turn (tidy k) x.0 x.2) (sym (same_world w (at + 1) x.0 x.0 x.1 refl));
            hears = hears_same (WasTold goes.gave) old.watched new.watched C.watched;
          };
    }

  -- a seat that was started, or was not, by the seat's own words
  pub begun_seat : (before after : Seat K J I an g s d) (schema named : Tables) (n k m : ℕ) → named ≡ schema → k ≡ n →
      ((x : model.Node) → HasMember held holds named k before.member before x → (x.up ≡ false) × HasMember held holds named k before.member after (started x)) →
      (x : model.Node) → HasMember held holds schema n m before x → (x.up ≡ false) × HasMember held holds schema n m after (started x)
  begun_seat before after schema named n k m tables count starts x has =
      let T : Tables → ℕ → ℕ → Type 0 = λ t c i. HasMember held holds t c i before x → (x.up ≡ false) × HasMember held holds t c i after (started x) in
      let a : T schema k before.member = subst (λ (t : Tables). T t k before.member) tables (starts x) in
      let b : T schema n before.member = subst (λ (c : ℕ). T schema c before.member) count a in
      let e : T schema n m = subst (λ (i : ℕ). T schema n i) has.0 b in
      e has

  pub stayed_seat : (before after : Seat K J I an g s d) (schema named : Tables) (n k m : ℕ) → named ≡ schema → k ≡ n →
      ((x : model.Node) → HasMember held holds named k before.member before x → HasMember held holds named k before.member after x) →
      (x : model.Node) → HasMember held holds schema n m before x → HasMember held holds schema n m after x
  stayed_seat before after schema named n k m tables count stays x has =
      let T : Tables → ℕ → ℕ → Type 0 = λ t c i. HasMember held holds t c i before x → HasMember held holds t c i after x in
      let a : T schema k before.member = subst (λ (t : Tables). T t k before.member) tables (stays x) in
      let b : T schema n before.member = subst (λ (c : ℕ). T schema c before.member) count a in
      let e : T schema n m = subst (λ (i : ℕ). T schema n i) has.0 b in
      e has
