-- An audit says the same in both words.
use Rattle.std.proofs.Common.{◌≡◌, ℕ, zero, suc, ◌+◌, ◌<◌, Option, Some, None, Result, Ok, Err, List, [], ◌∷◌, ◌++◌, length, refl, sym, ap, ◌∙◌, subst, map, ◌⊎◌, inl, inr}
use Rattle.std.specs.Prelude.{◌≢◌, codes, slice_get, IsSomeAnd, IfOk, IfErr}
use Rattle.std.specs.declared.vec.Vec.{Vec}
use Rattle.std.specs.declared.alloc.Global.{Global}
use Rattle.fault.specs.declared.refusal.Refusal.{Refusal}
use Rattle.fault.specs.declared.refusal.Refusal.TheVariants.{Syntax, UnknownTable, UnknownColumn, WrongType, NotAssignable, EmptyPeriod, OutOfRange, TooLarge, BadSchema, KeyOverlap, NoParent, RowLimit, NumberRange, Old, Gap, NotLeader, NotClosed, TimeFull, LogFull, TermFull, StoreFault, NodeDown, LifeFull, NoMemory, BadStore, NoView, BadFlight, BrokenLife, Unsent, StampOrder, WrongAnswer, BadScript}
use Rattle.model.specs.Lists.{nth}
use Rattle.model.specs.declared.entry.Told.{Told}
use Rattle.model.specs.Answers.{Select, Answer, IsAnswer, read_at}
use Rattle.model.specs.Worlds.{World, Event, Output, new_world}
use Rattle.model.specs.Worlds.Event.{Start, Ask}
use Rattle.model.specs.Worlds.Output.{Sent, Applied, Answered, Refused}
use Rattle.believed.specs.Worlds.{Gives}
use Rattle.flight.specs.declared.flight.Version.{Version}
use Rattle.flight.specs.declared.flight.Version.TheVariants.{One, Two, Three}
use Rattle.flight.specs.declared.outcome.Outcome.{Outcome}
use Rattle.flight.specs.declared.life.Life.{Life}
use Rattle.flight.specs.declared.life.Opening.{Opening}
use Rattle.flight.specs.declared.life.Step.{Step}
use Rattle.sqlchecks.specs.Columns.{Tables}
use Rattle.sqlread.specs.Meaning.{language_of, select_of}
use Rattle.believed.specs.Refusals.{shown}
use Rattle.believed.specs.Logs.{told_at}
use Rattle.believed.proofs.WorldsSame.{happens_same, run_same, decided_same}
use Rattle.believed.proofs.GivesSame.{gives_now, gives_before, answer_now, answer_before}
use Rattle.believed.proofs.AgreeSame.{told_now}
use Rattle.believed.proofs.Printed.{shown_same}
use Rattle.answertext.proofs.LinesSame.{answer_same}
use Rattle.believed.proofs.DaysSame.{instant_same}
use Rattle.believed.specs.Queries.{IsQuestion, IsAsking}
use Rattle.flight.specs.Telling as telling
use Rattle.sqlread.specs.Shapes.{QueryShape}
use Rattle.sqlread.specs.Texts.{query_in}
use Rattle.std.specs.Result.{result_map_both}
use Rattle.moments.specs.declared.moment.Deed.{Deed}
use Rattle.moments.specs.declared.moment.Deed.TheVariants.{Opens, Takes, Tears, Answers, Stops}
use Rattle.moments.specs.declared.moment.Moment.{Moment}
use Rattle.moments.specs.declared.recorded.Recorded.{Recorded}
use Rattle.moments.specs.declared.recorded.AuditFault.{AuditFault}
use Rattle.moments.specs.Past.{Past, beginning, grown}
use Rattle.moments.specs.Past as past
use Rattle.moments.specs.Behind.{Evidence, life_at, step_at, HasStored, job_event, outcomes_in}
use Rattle.moments.specs.Behind as behind
use Rattle.moments.specs.Rising.{IsMarked}
use Rattle.moments.specs.Faults.{IsNo, NoneAre}
use Rattle.world.specs.declared.event.Event.{Event as Given}
use Rattle.world.specs.View.{event_of}
use Rattle.auditor.specs.Faults.{OfRun}
use Rattle.auditor.proofs.Alone.{unexplained}
use Rattle.auditor.proofs.Judging.{no_of}
use Rattle.auditor.specs.Audited as before
use Rattle.auditor.specs.Upheld as upheld
use Rattle.auditor.specs.Joined as now

-- ---- what is told

text_same : (outcome : Result ℕ Refusal) → now.told_text outcome ≡ telling.told_text outcome
text_same (Ok stamp) = ap (λ (xs : List ℕ). codes "accepted " ++ xs) (instant_same stamp)
text_same (Err refusal) = ap (λ (xs : List ℕ). codes "refused " ++ xs) (shown_same refusal)

outcome_same : (told : Told) → now.outcome_of told ≡ telling.outcome_of told
outcome_same told = λ i. record { index = told.index; client = told.client; number = told.number; text = text_same told.outcome i }

outcomes_same : (outs : List Output) → now.outcomes_in outs ≡ outcomes_in outs
outcomes_same [] = refl
outcomes_same (Sent number message ∷ outs) = outcomes_same outs
outcomes_same (Applied m told ∷ outs) = ap (λ (o : Outcome). o ∷ now.outcomes_in outs) (outcome_same told) ∙ ap (λ (os : List Outcome). telling.outcome_of told ∷ os) (outcomes_same outs)
outcomes_same (Refused m refusal ∷ outs) = outcomes_same outs
outcomes_same (Answered m answer ∷ outs) = outcomes_same outs

-- ---- what is asked

-- each text has one meaning as a question, and it is what is read
pub record Asks : Type 0 where
  pub read : (tables : Tables) (text : List ℕ) → IsQuestion tables text (result_map_both select_of (λ refusal. refusal) (query_in tables text))
  pub one : (tables : Tables) (text : List ℕ) (r : Result Select Refusal) → IsQuestion tables text r → r ≡ result_map_both select_of (λ refusal. refusal) (query_in tables text)

pub asks_of : ((tables : Tables) → IsAsking tables (λ text. result_map_both select_of (λ refusal. refusal) (query_in tables text))) → Asks
asks_of law = record { read = λ tables text. (law tables text (result_map_both select_of (λ refusal. refusal) (query_in tables text))).1 refl; one = λ tables text r h. sym ((law tables text r).0 h) }

question_now : Asks → (tables : Tables) (text : List ℕ) (q : QueryShape) → query_in tables text ≡ Ok q → IsQuestion tables text (Ok (select_of q))
question_now asks tables text q e = subst (λ r. IsQuestion tables text (result_map_both select_of (λ refusal. refusal) r)) e (asks.read tables text)

read_as : (r : Result QueryShape Refusal) (q : Select) → Ok q ≡ result_map_both select_of (λ refusal. refusal) r → (shape : QueryShape) × (r ≡ Ok shape) × (select_of shape ≡ q)
read_as (Ok shape) q e = (shape, refl, cc)
read_as (Err refusal) q e = absurd cc

question_before : Asks → (tables : Tables) (text : List ℕ) (q : Select) → IsQuestion tables text (Ok q) → (shape : QueryShape) × (query_in tables text ≡ Ok shape) × (select_of shape ≡ q)
question_before asks tables text q h = read_as (query_in tables text) q (asks.one tables text (Ok q) h)

-- ---- what is behind a moment

opened_now : (r : Evidence) (n : ℕ) (p : Past) (node k : ℕ) (o : Opening) (events : List Event) → behind.IsOpened r.tables n p node k o events → now.IsOpened r n p node k o events
opened_now r n p node zero o events x = x
opened_now r n p node (suc k) o events (down, stored, are) = (down, subst (λ (w : World). HasStored (nth w.nodes node) o) (sym (happens_same (language_of r.tables) n p.world (Start node))) stored, are)

opened_before : (r : Evidence) (n : ℕ) (p : Past) (node k : ℕ) (o : Opening) (events : List Event) → now.IsOpened r n p node k o events → behind.IsOpened r.tables n p node k o events
opened_before r n p node zero o events x = x
opened_before r n p node (suc k) o events (down, stored, are) = (down, subst (λ (w : World). HasStored (nth w.nodes node) o) (happens_same (language_of r.tables) n p.world (Start node)) stored, are)

told_so : (v : Version) (outs : List Output) (outcomes : List Outcome) → behind.AreTold v outs outcomes → v ≢ One → now.outcomes_in outs ≡ outcomes
told_so One outs outcomes x other = absurd (other refl)
told_so Two outs outcomes x other = outcomes_same outs ∙ x
told_so Three outs outcomes x other = outcomes_same outs ∙ x

told_then : (v : Version) (outs : List Output) (outcomes : List Outcome) → (v ≢ One → now.outcomes_in outs ≡ outcomes) → behind.AreTold v outs outcomes
told_then One outs outcomes x = tt
told_then Two outs outcomes x = sym (outcomes_same outs) ∙ x (λ (e : Two ≡ One). let h = e in cc)
told_then Three outs outcomes x = sym (outcomes_same outs) ∙ x (λ (e : Three ≡ One). let h = e in cc)

taken_now : (r : Evidence) (n : ℕ) (p : Past) (node : ℕ) (found : Option Step) (events : List Event) → behind.IsTaken r.version r.tables n p node found events → IsSomeAnd found (λ s. now.IsTaken r n p node s events)
taken_now r n p node None events x = x
taken_now r n p node (Some s) events (job, is, (outs, gives, told), are) = (job, outs, is, gives_now (language_of r.tables) n p.world (job_event node job) outs gives, told_so r.version outs s.outcomes told, are)

taken_before : (r : Evidence) (n : ℕ) (p : Past) (node : ℕ) (found : Option Step) (events : List Event) → IsSomeAnd found (λ s. now.IsTaken r n p node s events) → behind.IsTaken r.version r.tables n p node found events
taken_before r n p node None events x = x
taken_before r n p node (Some s) events (job, outs, is, gives, told, are) = (job, is, (outs, gives_before (language_of r.tables) n p.world (job_event node job) outs gives, told_then r.version outs s.outcomes told), are)

refusal_now : (tables : Tables) (table m : ℕ) (refusal : Refusal) (text : List ℕ) → behind.IsRefusalText refusal text → now.IsText tables table (Refused m refusal ∷ []) text
refusal_now tables table m (NotClosed time) text x = x ∙ sym (shown_same (NotClosed time))
refusal_now tables table m (Syntax a) text x = x
refusal_now tables table m UnknownTable text x = x
refusal_now tables table m UnknownColumn text x = x
refusal_now tables table m WrongType text x = x
refusal_now tables table m NotAssignable text x = x
refusal_now tables table m EmptyPeriod text x = x
refusal_now tables table m OutOfRange text x = x
refusal_now tables table m TooLarge text x = x
refusal_now tables table m BadSchema text x = x
refusal_now tables table m KeyOverlap text x = x
refusal_now tables table m (NoParent a b c) text x = x
refusal_now tables table m RowLimit text x = x
refusal_now tables table m NumberRange text x = x
refusal_now tables table m Old text x = x
refusal_now tables table m Gap text x = x
refusal_now tables table m (NotLeader a) text x = x
refusal_now tables table m TimeFull text x = x
refusal_now tables table m LogFull text x = x
refusal_now tables table m TermFull text x = x
refusal_now tables table m StoreFault text x = x
refusal_now tables table m NodeDown text x = x
refusal_now tables table m LifeFull text x = x
refusal_now tables table m NoMemory text x = x
refusal_now tables table m BadStore text x = x
refusal_now tables table m NoView text x = x
refusal_now tables table m BadFlight text x = x
refusal_now tables table m (BrokenLife a b) text x = x
refusal_now tables table m (Unsent a b) text x = x
refusal_now tables table m (StampOrder a b) text x = x
refusal_now tables table m (WrongAnswer a b) text x = x
refusal_now tables table m (BadScript a) text x = x

refusal_before : (tables : Tables) (table m : ℕ) (refusal : Refusal) (text : List ℕ) → now.IsText tables table (Refused m refusal ∷ []) text → behind.IsRefusalText refusal text
refusal_before tables table m (NotClosed time) text x = x ∙ shown_same (NotClosed time)
refusal_before tables table m (Syntax a) text x = x
refusal_before tables table m UnknownTable text x = x
refusal_before tables table m UnknownColumn text x = x
refusal_before tables table m WrongType text x = x
refusal_before tables table m NotAssignable text x = x
refusal_before tables table m EmptyPeriod text x = x
refusal_before tables table m OutOfRange text x = x
refusal_before tables table m TooLarge text x = x
refusal_before tables table m BadSchema text x = x
refusal_before tables table m KeyOverlap text x = x
refusal_before tables table m (NoParent a b c) text x = x
refusal_before tables table m RowLimit text x = x
refusal_before tables table m NumberRange text x = x
refusal_before tables table m Old text x = x
refusal_before tables table m Gap text x = x
refusal_before tables table m (NotLeader a) text x = x
refusal_before tables table m TimeFull text x = x
refusal_before tables table m LogFull text x = x
refusal_before tables table m TermFull text x = x
refusal_before tables table m StoreFault text x = x
refusal_before tables table m NodeDown text x = x
refusal_before tables table m LifeFull text x = x
refusal_before tables table m NoMemory text x = x
refusal_before tables table m BadStore text x = x
refusal_before tables table m NoView text x = x
refusal_before tables table m BadFlight text x = x
refusal_before tables table m (BrokenLife a b) text x = x
refusal_before tables table m (Unsent a b) text x = x
refusal_before tables table m (StampOrder a b) text x = x
refusal_before tables table m (WrongAnswer a b) text x = x
refusal_before tables table m (BadScript a) text x = x

text_now : (tables : Tables) (table : ℕ) (outs : List Output) (text : List ℕ) → behind.IsText tables table outs text → now.IsText tables table outs text
text_now tables table [] text x = x
text_now tables table (Answered m a ∷ []) text (answer, is, columns, x) = (answer, is, columns, x ∙ sym (answer_same answer))
text_now tables table (Refused m refusal ∷ []) text x = refusal_now tables table m refusal text x
text_now tables table (Sent k message ∷ []) text x = absurd x
text_now tables table (Applied m told ∷ []) text x = absurd x
text_now tables table (Answered m a ∷ o ∷ outs) text x = absurd x
text_now tables table (Refused m refusal ∷ o ∷ outs) text x = absurd x
text_now tables table (Sent k message ∷ o ∷ outs) text x = absurd x
text_now tables table (Applied m told ∷ o ∷ outs) text x = absurd x

-- a refusal is followed by nothing
more_text : (tables : Tables) (table m : ℕ) (refusal : Refusal) (o : Output) (outs : List Output) (text : List ℕ) → now.IsText tables table (Refused m refusal ∷ o ∷ outs) text → ⊥
more_text tables table m (Syntax a) o outs text x = x
more_text tables table m UnknownTable o outs text x = x
more_text tables table m UnknownColumn o outs text x = x
more_text tables table m WrongType o outs text x = x
more_text tables table m NotAssignable o outs text x = x
more_text tables table m EmptyPeriod o outs text x = x
more_text tables table m OutOfRange o outs text x = x
more_text tables table m TooLarge o outs text x = x
more_text tables table m BadSchema o outs text x = x
more_text tables table m KeyOverlap o outs text x = x
more_text tables table m (NoParent a b c) o outs text x = x
more_text tables table m RowLimit o outs text x = x
more_text tables table m NumberRange o outs text x = x
more_text tables table m Old o outs text x = x
more_text tables table m Gap o outs text x = x
more_text tables table m (NotLeader a) o outs text x = x
more_text tables table m TimeFull o outs text x = x
more_text tables table m LogFull o outs text x = x
more_text tables table m TermFull o outs text x = x
more_text tables table m StoreFault o outs text x = x
more_text tables table m NodeDown o outs text x = x
more_text tables table m LifeFull o outs text x = x
more_text tables table m NoMemory o outs text x = x
more_text tables table m BadStore o outs text x = x
more_text tables table m NoView o outs text x = x
more_text tables table m BadFlight o outs text x = x
more_text tables table m (BrokenLife a b) o outs text x = x
more_text tables table m (Unsent a b) o outs text x = x
more_text tables table m (StampOrder a b) o outs text x = x
more_text tables table m (WrongAnswer a b) o outs text x = x
more_text tables table m (BadScript a) o outs text x = x
more_text tables table m (NotClosed a) o outs text x = x

text_before : (tables : Tables) (table : ℕ) (outs : List Output) (text : List ℕ) → now.IsText tables table outs text → behind.IsText tables table outs text
text_before tables table [] text x = x
text_before tables table (Answered m a ∷ []) text (answer, is, columns, x) = (answer, is, columns, x ∙ answer_same answer)
text_before tables table (Refused m refusal ∷ []) text x = refusal_before tables table m refusal text x
text_before tables table (Sent k message ∷ []) text x = absurd x
text_before tables table (Applied m told ∷ []) text x = absurd x
text_before tables table (Answered m a ∷ o ∷ outs) text x = absurd x
text_before tables table (Refused m refusal ∷ o ∷ outs) text x = absurd (more_text tables table m refusal o outs text x)
text_before tables table (Sent k message ∷ o ∷ outs) text x = absurd x
text_before tables table (Applied m told ∷ o ∷ outs) text x = absurd x

answered_now : Asks → (r : Evidence) (n : ℕ) (p : Past) (node : ℕ) (found : Option Recorded) (events : List Event) → behind.IsAnsweredBy r n p node found events → IsSomeAnd found (λ a. now.IsAnswered r n p node a events)
answered_now asks r n p node None events x = x
answered_now asks r n p node (Some a) events (mark, (q, out, reads, gives, text, are)) =
    (select_of q, out, mark, question_now asks r.tables a.query q reads, gives_now (language_of r.tables) n p.world (Ask node (select_of q)) out gives, text_now r.tables q.table out a.answer text, are)

answered_by : (r : Evidence) (n : ℕ) (p : Past) (node : ℕ) (a : Recorded) (events : List Event) (q : Select) (out : List Output) → (shape : QueryShape) × (query_in r.tables a.query ≡ Ok shape) × (select_of shape ≡ q) → IsMarked r.lives a →
    Gives (language_of r.tables) n p.world (Ask node q) out → now.IsText r.tables q.table out a.answer → events ≡ Ask node q ∷ [] → behind.IsAnsweredBy r n p node (Some a) events
answered_by r n p node a events q out (shape, reads, is) mark gives text are =
    let G : (s : Select) → Type 0 = λ s. Gives (language_of r.tables) n p.world (Ask node s) out in
    let T : (s : Select) → Type 0 = λ s. now.IsText r.tables s.table out a.answer in (
      mark,
      (
        shape,
        out,
        reads,
        gives_before (language_of r.tables) n p.world (Ask node (select_of shape)) out (subst G (sym is) gives),
        text_before r.tables shape.table out a.answer (subst T (sym is) text),
        are ∙ ap (λ (s : Select). Ask node s ∷ []) (sym is),
      ),
    )

answered_before : Asks → (r : Evidence) (n : ℕ) (p : Past) (node : ℕ) (found : Option Recorded) (events : List Event) → IsSomeAnd found (λ a. now.IsAnswered r n p node a events) → behind.IsAnsweredBy r n p node found events
answered_before asks r n p node None events x = x
answered_before asks r n p node (Some a) events (q, out, mark, reads, gives, text, are) = answered_by r n p node a events q out (question_before asks r.tables a.query q reads) mark gives text are

begun_now : (r : Evidence) (n : ℕ) (p : Past) (node k : ℕ) (found : Option Life) (events : List Event) → behind.IsLifeBegun r n p node k found events → IsSomeAnd found (λ (life : Life). now.IsOpened r n p node k life.opening events)
begun_now r n p node k None events x = x
begun_now r n p node k (Some life) events x = opened_now r n p node k life.opening events x

begun_before : (r : Evidence) (n : ℕ) (p : Past) (node k : ℕ) (found : Option Life) (events : List Event) → IsSomeAnd found (λ (life : Life). now.IsOpened r n p node k life.opening events) → behind.IsLifeBegun r n p node k found events
begun_before r n p node k None events x = x
begun_before r n p node k (Some life) events x = opened_before r n p node k life.opening events x

cut_now : (r : Evidence) (p : Past) (node k : ℕ) (found : Option Life) (events : List Event) → behind.IsLifeCut r p node k found events → IsSomeAnd found (λ (life : Life). behind.IsCut p node (life_at r.lives node (k + 1)) life.ending events)
cut_now r p node k None events x = x
cut_now r p node k (Some life) events x = x

cut_before : (r : Evidence) (p : Past) (node k : ℕ) (found : Option Life) (events : List Event) → IsSomeAnd found (λ (life : Life). behind.IsCut p node (life_at r.lives node (k + 1)) life.ending events) → behind.IsLifeCut r p node k found events
cut_before r p node k None events x = x
cut_before r p node k (Some life) events x = x

behind_now : Asks → (r : Evidence) (n : ℕ) (p : Past) (node : ℕ) (deed : Deed) (events : List Event) → behind.IsBehindDeed r n p node deed events → now.IsBehind r n p node deed events
behind_now asks r n p node (Opens k) events x = begun_now r n p node k (life_at r.lives node k) events x
behind_now asks r n p node (Takes k step) events x = taken_now r n p node (step_at r.lives node k step) events x
behind_now asks r n p node (Tears k) events x = cut_now r p node k (life_at r.lives node k) events x
behind_now asks r n p node (Answers k) events x = answered_now asks r n p node (slice_get r.answers k) events x
behind_now asks r n p node (Stops k) events x = x

behind_before : Asks → (r : Evidence) (n : ℕ) (p : Past) (node : ℕ) (deed : Deed) (events : List Event) → now.IsBehind r n p node deed events → behind.IsBehindDeed r n p node deed events
behind_before asks r n p node (Opens k) events x = begun_before r n p node k (life_at r.lives node k) events x
behind_before asks r n p node (Takes k step) events x = taken_before r n p node (step_at r.lives node k step) events x
behind_before asks r n p node (Tears k) events x = cut_before r p node k (life_at r.lives node k) events x
behind_before asks r n p node (Answers k) events x = answered_before asks r n p node (slice_get r.answers k) events x
behind_before asks r n p node (Stops k) events x = x

-- ---- runs

after_same : (r : Evidence) (n : ℕ) (p : Past) (mark : ℕ) (events : List Event) → now.after (language_of r.tables) n p mark events ≡ past.after (language_of r.tables) n p mark events
after_same r n p mark events = ap (λ w. grown p mark w) (run_same (language_of r.tables) n p.world events)

leads_now : Asks → (r : Evidence) (n : ℕ) (p : Past) (moments : List Moment) (events : List Event) (q : Past) → before.Leads r n p moments events q → now.Leads r n p moments events q
leads_now asks r n p [] events q x = x
leads_now asks r n p (m ∷ moments) events q (early, late, are, is, more) = (
  early,
  late,
  are,
  behind_now asks r n p m.node m.deed early is,
  subst (λ v. now.Leads r n v moments late q) (sym (after_same r n p m.mark early)) (leads_now asks r n (past.after (language_of r.tables) n p m.mark early) moments late q more),
)

leads_before : Asks → (r : Evidence) (n : ℕ) (p : Past) (moments : List Moment) (events : List Event) (q : Past) → now.Leads r n p moments events q → before.Leads r n p moments events q
leads_before asks r n p [] events q x = x
leads_before asks r n p (m ∷ moments) events q (early, late, are, is, more) = (
  early,
  late,
  are,
  behind_before asks r n p m.node m.deed early is,
  leads_before asks r n (past.after (language_of r.tables) n p m.mark early) moments late q (subst (λ v. now.Leads r n v moments late q) (after_same r n p m.mark early) more),
)

pub explains_now : Asks → (r : Evidence) (events : List Event) → before.Explains r events → now.Explains r events
explains_now asks r events x = record { moments = x.moments; timeline = x.timeline; end = x.end; leads = leads_now asks r (length r.lives) (beginning (length r.lives)) x.moments events x.end x.leads }

pub explains_before : Asks → (r : Evidence) (events : List Event) → now.Explains r events → before.Explains r events
explains_before asks r events x = record { moments = x.moments; timeline = x.timeline; end = x.end; leads = leads_before asks r (length r.lives) (beginning (length r.lives)) x.moments events x.end x.leads }

pub none_now : Asks → (r : Evidence) → NoneAre (before.Explains r) → NoneAre (now.Explains r)
none_now asks r none = λ events x. none events (explains_before asks r events x)

stuck_now : Asks → (r : Evidence) (n : ℕ) (p : Past) (moments : List Moment) (fault : AuditFault) → before.IsStuck r n p moments fault → now.IsStuck r n p moments fault
stuck_now asks r n p moments fault x = record {
  before = x.before;
  moment = x.moment;
  later = x.later;
  is = x.is;
  events = x.events;
  past = x.past;
  leads = leads_now asks r n p x.before x.events x.past x.leads;
  none = λ events b. x.none events (behind_before asks r n x.past x.moment.node x.moment.deed events b);
  named = x.named;
}

pub first_now : Asks → (r : Evidence) (fault : AuditFault) → before.IsFirst r fault → now.IsFirst r fault
first_now asks r fault (moments, timeline, x) = (moments, timeline, stuck_now asks r (length r.lives) (beginning (length r.lives)) moments fault x)

-- ---- what is upheld

list_same : (r : Evidence) (events : List Event) → now.decided_in r events ≡ upheld.decided_in r events
list_same r events = decided_same (language_of r.tables) (length r.lives) (new_world (length r.lives)) events

upheld_now : Asks → (r : Evidence) (events : List Event) (a : Recorded) (x : Answer) → upheld.IsUpheld r events a x → now.IsUpheld r events a x
upheld_now asks r events a x u = record {
  question = select_of u.question;
  reads = question_now asks r.tables a.query u.question u.reads;
  text = text_now r.tables u.question.table (Answered a.node x ∷ []) a.answer u.text;
  before = u.before;
  after = u.after;
  asked = u.asked;
  given = answer_now (language_of r.tables) (select_of u.question) x.last (now.decided_in r events) x (subst (λ l. IsAnswer (language_of r.tables) (read_at x.last (select_of u.question)) l x) (sym (list_same r events)) u.given);
  closed = λ i e l at. u.closed i e (subst (λ k. length k < i) (list_same r u.before) l) (ap (λ k. nth k i) (sym (list_same r events)) ∙ at);
}

upheld_before : Asks → (r : Evidence) (events : List Event) (a : Recorded) (x : Answer) → now.IsUpheld r events a x → upheld.IsUpheld r events a x
upheld_before asks r events a x u =
    let s = question_before asks r.tables a.query u.question u.reads in
    let T : (q : Select) → Type 0 = λ q. now.IsText r.tables q.table (Answered a.node x ∷ []) a.answer in
    let A : (q : Select) → Type 0 = λ q. IsAnswer (language_of r.tables) (read_at x.last q) (upheld.decided_in r events) x in
    record {
      question = s.0;
      reads = s.1;
      text = text_before r.tables s.0.table (Answered a.node x ∷ []) a.answer (subst T (sym s.2) u.text);
      before = u.before;
      after = u.after;
      asked = ap (λ (q : Select). u.before ++ Ask a.node q ∷ u.after) s.2 ∙ u.asked;
      given = subst A (sym s.2) (subst (λ l. IsAnswer (language_of r.tables) (read_at x.last u.question) l x) (list_same r events) (answer_before (language_of r.tables) u.question x.last (now.decided_in r events) x u.given));
      closed = λ i e l at. u.closed i e (subst (λ k. length k < i) (sym (list_same r u.before)) l) (ap (λ k. nth k i) (list_same r events) ∙ at);
    }

has_outcomes : (v : Version) → v ≢ One → upheld.HasOutcomes v
has_outcomes One other = other refl
has_outcomes Two other = tt
has_outcomes Three other = tt

pub upholds_now : Asks → (r : Evidence) (events : List Event) → upheld.Upholds r events → now.Upholds r events
upholds_now asks r events u = record {
  outcomes = λ node own life step o version at has steps told.
      let t = u.outcomes node own life step o (has_outcomes r.version version) at has steps told in
      (t.0, outcome_same t.0 ∙ t.1, ap (λ l. told_at (language_of r.tables) l t.0.index) (list_same r events) ∙ told_now (language_of r.tables) (upheld.decided_in r events) t.0 t.2);
  answers = λ a has. either a (u.answers a has);
  equal = λ a b x y ua ub same last. u.equal a b x y (upheld_before asks r events a x ua) (upheld_before asks r events b y ub) same last;
}
  where
    either : (a : Recorded) → ((x : Answer) × upheld.IsUpheld r events a x) ⊎ upheld.IsPutOff a → ((x : Answer) × now.IsUpheld r events a x) ⊎ ((time : Option (List ℕ)) × (a.answer ≡ shown (NotClosed time)))
    either a (inl x) = inl (x.0, upheld_now asks r events a x.0 x.1)
    either a (inr x) = inr (x.0, x.1 ∙ sym (shown_same (NotClosed x.0)))

-- ---- what is answered

pub explains_if : Asks → (r : Evidence) (res : Result (Vec Given Global) AuditFault) → IfOk res (λ events. before.Explains r (map event_of events.items)) → IfOk res (λ events. now.Explains r (map event_of events.items))
explains_if asks r (Ok events) h = explains_now asks r (map event_of events.items) h
explains_if asks r (Err fault) h = h

pub upholds_if : Asks → (r : Evidence) (res : Result (Vec Given Global) AuditFault) → IfOk res (λ events. upheld.Upholds r (map event_of events.items)) → IfOk res (λ events. now.Upholds r (map event_of events.items))
upholds_if asks r (Ok events) h = upholds_now asks r (map event_of events.items) h
upholds_if asks r (Err fault) h = h

pub first_if : {T : Type 0} → Asks → (r : Evidence) (res : Result T AuditFault) → IfErr res (IsNo (before.IsFirst r)) → IfErr res (OfRun (now.IsFirst r))
first_if {T} asks r (Ok x) h = h
first_if {T} asks r (Err fault) h = no_of (before.IsFirst r) (now.IsFirst r) fault (λ g first. first_now asks r g first) h

pub none_if : {T : Type 0} → Asks → (r : Evidence) (res : Result T AuditFault) → IfErr res (IsNo (before.IsFirst r)) → IfErr res (OfRun (λ _. NoneAre (now.Explains r)))
none_if {T} asks r (Ok x) h = h
none_if {T} asks r (Err fault) h = no_of (before.IsFirst r) (λ _. NoneAre (now.Explains r)) fault (λ g first. none_now asks r (unexplained r g first)) h
