-- What is so of each outcome and each answer where events explain what was recorded.
use Rattle.world.specs.declared.event.Event.{Event as Event'}
use Rattle.world.specs.View.{event_of}
use Rattle.moments.specs.declared.recorded.AuditFault.{AuditFault}
use Rattle.std.proofs.Common.{Result, Err, map, ◌≡◌, ◌∙◌, ℕ, suc, ◌<◌, ◌≤◌, Bool, true, false, List, [], ◌∷◌, ◌++◌, Option, Some, None, Ok, length, take, drop, refl, sym, ap, subst, inl, inr, append_assoc, append-nil, leb-true, arith}
use Rattle.std.specs.Prelude.{IfOk, slice_get, option_and_then, Contains, ◌⊎◌, nat_le, if◌then◌else◌}
use Rattle.std.proofs.Math.Seq.{drop-cons}
use Rattle.std.proofs.lemmas.List.{take-append-drop, length-append}
use Rattle.std.proofs.lemmas.List.Elements.{Contains-append_left, Contains-append_right, Contains-append_cases, Contains-push, Contains-push_cases}
use Rattle.std.proofs.lemmas.List.Sorted.{Contains-permutation}
use Rattle.std.proofs.lemmas.Option.{same_Some, slice_get_read}
use Rattle.std.specs.declared.vec.Vec.{Vec}
use Rattle.std.specs.declared.alloc.Global.{Global}
use Rattle.fault.specs.declared.refusal.Refusal.{Refusal}
use Rattle.fault.specs.declared.refusal.Refusal.TheVariants.{NotClosed}
use Rattle.model.specs.Lists.{nth, IsBeginning}
use Rattle.model.specs.Agreement.{Agree, IsTold}
use Rattle.model.specs.Answers.{Answer, IsAnswer, Query, Select, read_at, closed_query}
use Rattle.model.specs.Members.{Node, applied, closed_time}
use Rattle.model.specs.Transactions.{Language}
use Rattle.model.specs.Worlds.{World, Event, Output, Ask, Sent, Applied, Refused, Answered, Gives, IsGivenAt, IsGivenBy, IsGivenIn, new_world, run, happens}
use Rattle.model.specs.declared.entry.Entry.{Entry}
use Rattle.model.specs.declared.entry.Told.{Told}
use Rattle.safety.specs.Answers.{OneAnswer}
use Rattle.flight.specs.Telling.{outcome_of}
use Rattle.flight.specs.declared.flight.Version.{Version}
use Rattle.flight.specs.declared.flight.Version.TheVariants.{One, Two, Three}
use Rattle.flight.specs.declared.life.Life.{Life}
use Rattle.flight.specs.declared.life.Step.{Step}
use Rattle.flight.specs.declared.outcome.Outcome.{Outcome}
use Rattle.sqlread.specs.Meaning.{language_of, select_of}
use Rattle.sqlread.specs.Shapes.{QueryShape}
use Rattle.sqlread.specs.Texts.{query_in}
use Rattle.moments.specs.declared.moment.Deed.TheVariants.{Takes, Answers}
use Rattle.moments.specs.declared.moment.Moment.{Moment}
use Rattle.moments.specs.declared.recorded.Recorded.{Recorded}
use Rattle.moments.specs.Past.{Past, beginning, after}
use Rattle.moments.specs.Moments.{all_moments}
use Rattle.moments.specs.Behind.{Evidence, job_event, life_at, step_at, outcomes_in, AreTold, IsAnswered, IsAnsweredBy, IsBehind, IsRefusalText, IsTaken, IsText}
use Rattle.moments.specs.Texts.{OneText}
use Rattle.auditor.specs.Audited.{Leads, Explains}
use Rattle.auditor.specs.Upheld.{decided_in, HasOutcomes, IsPutOff, IsUpheld, Upholds}
use Rattle.auditor.proofs.Listing.{answer_listed, step_listed}

-- ---- a moment among all

abbrev schema_in : Evidence → Language
schema_in r = language_of r.tables

abbrev opening_of : Evidence → World
opening_of r = new_world (length r.lives)

run_append : (s : Language) (n : ℕ) (w : World) (xs ys : List Event) → run s n w (xs ++ ys) ≡ run s n (run s n w xs) ys
run_append s n w [] ys = refl
run_append s n w (x ∷ xs) ys = run_append s n (happens s n w x) xs ys

-- what is behind one moment of those that happened
record IsPlaced (r : Evidence) (n : ℕ) (p : Past) (m : Moment) (events : List Event) : Type 0 where
  early : List Event
  now : List Event
  late : List Event
  mid : Past
  is : events ≡ early ++ (now ++ late)
  behind : IsBehind r n mid m now
  world : mid.world ≡ run (schema_in r) n p.world early

placed : (r : Evidence) (n : ℕ) (p q : Past) (before later : List Moment) (m : Moment) (events : List Event) → Leads r n p (before ++ m ∷ later) events q → IsPlaced r n p m events
placed r n p q [] later m events led = record { early = []; now = led.0; late = led.1; mid = p; is = led.2; behind = led.3; world = refl }
placed r n p q (k ∷ before) later m events led =
    let rest = placed r n (after (schema_in r) n p k.mark led.0) q before later m led.1 led.4 in
    record {
      early = led.0 ++ rest.early;
      now = rest.now;
      late = rest.late;
      mid = rest.mid;
      is = led.2 ∙ ap (λ xs. led.0 ++ xs) rest.is ∙ sym (append_assoc led.0 rest.early (rest.now ++ rest.late));
      behind = rest.behind;
      world = rest.world ∙ sym (run_append (schema_in r) n p.world led.0 rest.early);
    }

placed_in : (r : Evidence) (events : List Event) (e : Explains r events) (m : Moment) → Contains e.moments m → IsPlaced r (length r.lives) (beginning (length r.lives)) m events
placed_in r events e m (k, within, is) =
    let split : e.moments ≡ take k e.moments ++ m ∷ drop (suc k) e.moments =
    sym (take-append-drop k e.moments) ∙ ap (λ xs. take k e.moments ++ xs) (drop-cons e.moments k m within ∙ ap (λ (y : Moment). y ∷ drop (suc k) e.moments) is) in
    let L : List Moment → Type 0 = λ ms. Leads r (length r.lives) (beginning (length r.lives)) ms events e.end in
    placed r (length r.lives) (beginning (length r.lives)) e.end (take k e.moments) (drop (suc k) e.moments) m events (subst L split e.leads)

-- the event of a moment, among all
one_event : (early now late events : List Event) (x : Event) → now ≡ x ∷ [] → events ≡ early ++ (now ++ late) → early ++ x ∷ late ≡ events
one_event early now late events x is all = ap (λ xs. early ++ (xs ++ late)) (sym is) ∙ sym all

-- ---- outcomes

no_element : {X : Type 0} (x : X) → Contains [] x → ⊥
no_element x (k, within, is) = omega (arith, within)

first_or_later : {X : Type 0} (x y : X) (xs : List X) → Contains (x ∷ xs) y → (x ≡ y) ⊎ Contains xs y
first_or_later x y xs h =
    elim (Contains-append_cases (x ∷ []) xs y h) [
      | inl here ↦ elim (Contains-push_cases [] x y here) [ inl none ↦ absurd (no_element y none) | inr same ↦ inl same ]
      | inr there ↦ inr there
    ]

-- a member tells of a request that has this outcome
record IsToldIn (outs : List Output) (o : Outcome) : Type 0 where
  member : ℕ
  told : Told
  among : Contains outs (Applied member told)
  is : outcome_of told ≡ o

more_told : (x : Output) (outs : List Output) (o : Outcome) → IsToldIn outs o → IsToldIn (x ∷ outs) o
more_told x outs o t = record { member = t.member; told = t.told; among = Contains-append_right (x ∷ []) outs (Applied t.member t.told) t.among; is = t.is }

told_among : (outs : List Output) (o : Outcome) → Contains (outcomes_in outs) o → IsToldIn outs o
told_among [] o h = absurd (no_element o h)
told_among (Sent number message ∷ outs) o h = more_told (Sent number message) outs o (told_among outs o h)
told_among (Refused m refusal ∷ outs) o h = more_told (Refused m refusal) outs o (told_among outs o h)
told_among (Answered m answer ∷ outs) o h = more_told (Answered m answer) outs o (told_among outs o h)
told_among (Applied m told ∷ outs) o h =
    elim (first_or_later (outcome_of told) o (outcomes_in outs) h) [
      | inl same ↦ record { member = m; told = told; among = Contains-append_left (Applied m told ∷ []) outs (Applied m told) (Contains-push [] (Applied m told)); is = same }
      | inr later ↦ more_told (Applied m told) outs o (told_among outs o later)
    ]

told_are : (v : Version) (outs : List Output) (outcomes : List Outcome) → HasOutcomes v → AreTold v outs outcomes → outcomes_in outs ≡ outcomes
told_are One outs outcomes has told = absurd has
told_are Two outs outcomes has told = told
told_are Three outs outcomes has told = told

step_is : (lives : List (Vec Life Global)) (node k i : ℕ) (own : Vec Life Global) (l : Life) (s : Step) → nth lives node ≡ Some own → slice_get own.items k ≡ Some l → slice_get l.steps.items i ≡ Some s → step_at lives node k i ≡ Some s
step_is lives node k i own l s at life found =
    ap (λ (o : Option (Vec Life Global)). option_and_then (λ (x : Life). slice_get x.steps.items i) (option_and_then (λ (y : Vec Life Global). slice_get y.items k) o)) at
    ∙ ap (option_and_then (λ (x : Life). slice_get x.steps.items i)) life ∙ found

-- the place of an element
at_place : {X : Type 0} (xs : List X) (x : X) (h : Contains xs x) → slice_get xs h.0 ≡ Some x
at_place xs x (k, within, is) = slice_get_read xs (length xs) k x refl within (sym is)

abbrev AgreesIn : Evidence → List Event → Type 0
AgreesIn r events = Agree (schema_in r) (length r.lives) (opening_of r) events

outcome_held : (r : Evidence) (events : List Event) → Explains r events → AgreesIn r events → (node : ℕ) (own : Vec Life Global) (life : Life) (step : Step) (o : Outcome) → HasOutcomes r.version →
    nth r.lives node ≡ Some own → Contains own.items life → Contains life.steps.items step → Contains step.outcomes o → (told : Told) × (outcome_of told ≡ o) × IsTold (schema_in r) (decided_in r events) told
outcome_held r events e agree node own life step o has at lived stepped among =
    let n = length r.lives in
    let life_is = at_place own.items life lived in
    let found = at_place life.steps.items step stepped in
    let m : Moment = record { mark = step.mark; node = node; deed = Takes lived.0 stepped.0 } in
    let listed = step_listed r.lives r.answers node lived.0 stepped.0 own life step at life_is found in
    let p = placed_in r events e m (Contains-permutation (all_moments r.lives r.answers) e.moments m e.timeline.all listed) in
    let T : Option Step → Type 0 = λ s. IsTaken r.version r.tables n p.mid node s p.now in
    let taken = subst T (step_is r.lives node lived.0 stepped.0 own life step at life_is found) p.behind in
    let outs = taken.2.0 in
    let t = told_among outs o (subst (λ (os : List Outcome). Contains os o) (sym (told_are r.version outs step.outcomes has taken.2.2)) among) in
    let gives : Gives (schema_in r) n (run (schema_in r) n (opening_of r) p.early) (job_event node taken.0) outs = subst (λ (w : World). Gives (schema_in r) n w (job_event node taken.0) outs) p.world taken.2.1 in
    (t.told, t.is, agree.outcomes_agree p.early p.late (job_event node taken.0) outs t.member t.told (one_event p.early p.now p.late events (job_event node taken.0) taken.3 p.is) gives t.among)

-- ---- a step has an event

-- what a place names is there
named : {A B : Type 0} (o : Option A) (f : A → Option B) (b : B) → option_and_then f o ≡ Some b → (a : A) × (o ≡ Some a) × (f a ≡ Some b)
named None f b is = absurd (cc is)
named (Some a) f b is = (a, refl, is)

not_none : (xs ys : List Event) (x : Event) → xs ++ x ∷ ys ≡ [] → ⊥
not_none [] ys x is = absurd (cc is)
not_none (z ∷ xs) ys x is = absurd (cc is)

pub step_has_event : (r : Evidence) (events : List Event) → Explains r events → (node life place : ℕ) (step : Step) → step_at r.lives node life place ≡ Some step → events ≡ [] → ⊥
step_has_event r events e node life place step at none =
    let lived = named (life_at r.lives node life) (λ (l : Life). slice_get l.steps.items place) step at in
    let owned = named (nth r.lives node) (λ (own : Vec Life Global). slice_get own.items life) lived.0 lived.1 in
    let m : Moment = record { mark = step.mark; node = node; deed = Takes life place } in
    let listed = step_listed r.lives r.answers node life place owned.0 lived.0 step owned.1 owned.2 lived.2 in
    let p = placed_in r events e m (Contains-permutation (all_moments r.lives r.answers) e.moments m e.timeline.all listed) in
    let T : Option Step → Type 0 = λ s. IsTaken r.version r.tables (length r.lives) p.mid node s p.now in
    let taken = subst T at p.behind in
    not_none p.early p.late (job_event node taken.0) (one_event p.early p.now p.late events (job_event node taken.0) taken.3 p.is ∙ none)

-- ---- answers

-- a member that answers so is the one that was asked, and what it was asked about is closed there
record Closes (o : Option Node) (m k last : ℕ) : Type 0 where
  named : k ≡ m
  member : Node
  time : ℕ
  is : o ≡ Some member
  closed : closed_time member ≡ Some time
  within : last ≤ time

by_test : (b : Bool) (v r : Query) → (if b then Some v else None) ≡ Some r → (b ≡ true) × (v ≡ r)
by_test true v r is = (refl, same_Some v r is)
by_test false v r is = absurd (cc is)

closed_by : (q : Select) (time : Option ℕ) (r : Query) → closed_query q time ≡ Some r → (t : ℕ) × (time ≡ Some t) × (r.time.last ≤ t)
closed_by q None r is = absurd (cc is)
closed_by q (Some t) r is =
    let tested = by_test (nat_le (read_at t q).time.last t) (read_at t q) r is in
    (t, refl, subst (λ (x : Query). x.time.last ≤ t) tested.1 (leb-true (read_at t q).time.last t tested.0))

closes_in : (s : Language) (m : ℕ) (q : Select) (y : Node) (c : Option Query) (x : Answer) (out : List Output) (k : ℕ) → closed_query q (closed_time y) ≡ c → IsGivenIn s m y c out → out ≡ Answered k x ∷ [] → Closes (Some y) m k x.last
closes_in s m q y None x out k is given shape = absurd (cc (given, shape))
closes_in s m q y (Some r) x out k is (a, answers, gave) shape =
    let same : a ≡ x = cc (gave, shape) in
    let c = closed_by q (closed_time y) r is in
    let last : x.last ≡ r.time.last = ap (λ (z : Answer). z.last) (sym same) ∙ answers.last in
    record { named = cc (gave, shape); member = y; time = c.0; is = refl; closed = c.1; within = omega (arith, c.2, last) }

closes_by : (s : Language) (m : ℕ) (q : Select) (y : Node) (up : Bool) (x : Answer) (out : List Output) (k : ℕ) → IsGivenBy s m q y up out → out ≡ Answered k x ∷ [] → Closes (Some y) m k x.last
closes_by s m q y false x out k given shape = absurd (cc (given, shape))
closes_by s m q y true x out k given shape = closes_in s m q y (closed_query q (closed_time y)) x out k refl given shape

closes_at : (s : Language) (m : ℕ) (q : Select) (o : Option Node) (x : Answer) (out : List Output) (k : ℕ) → IsGivenAt s m q o out → out ≡ Answered k x ∷ [] → Closes o m k x.last
closes_at s m q None x out k given shape = absurd (cc (given, shape))
closes_at s m q (Some y) x out k given shape = closes_by s m q y y.up x out k given shape

beginning_within : (xs ys : List Entry) → IsBeginning xs ys → length xs ≤ length ys
beginning_within xs ys (rest, is) = omega (arith, ap length is, length-append xs rest)

abbrev Always : Type 0
Always = (language : Language) (n : ℕ) (events : List Event) → Agree language n (new_world n) events

-- what was not decided by then is stamped above what was closed at a member
later_above : Always → (r : Evidence) (events early late : List Event) (node k last : ℕ) → AgreesIn r events → early ++ late ≡ events → Closes (nth (run (schema_in r) (length r.lives) (opening_of r) early).nodes node) node k last →
    (i : ℕ) (e : Entry) → length (decided_in r early) < i → nth (decided_in r events) i ≡ Some e → last < e.stamp
later_above always r events early late node k last agree split c i e past at =
    let then_ = (always (schema_in r) (length r.lives) early).applied_is_decided early [] node c.member (append-nil early) c.is in
    let short = beginning_within (applied c.member) (decided_in r early) then_.0 in
    let above = agree.nothing_later_is_closed early late node i c.time c.member e split c.is c.closed (omega (arith, short, past)) at in
    omega (arith, c.within, above)

put_off : (refusal : Refusal) (a : Recorded) → IsRefusalText refusal a.answer → IsPutOff a
put_off (NotClosed time) a text = (time, text)
put_off _ a text = absurd text

upheld_by : Always → (r : Evidence) (events early late : List Event) (a : Recorded) (q : QueryShape) (out : List Output) → AgreesIn r events → query_in r.tables a.query ≡ Ok q → early ++ Ask a.node (select_of q) ∷ late ≡ events →
    Gives (schema_in r) (length r.lives) (run (schema_in r) (length r.lives) (opening_of r) early) (Ask a.node (select_of q)) out → IsText r.tables q.table out a.answer → ((x : Answer) × IsUpheld r events a x) ⊎ IsPutOff a
upheld_by always r events early late a q [] agree reads split gives text = absurd text
upheld_by always r events early late a q (Sent number message ∷ outs) agree reads split gives text = absurd text
upheld_by always r events early late a q (Applied m told ∷ outs) agree reads split gives text = absurd text
upheld_by always r events early late a q (Refused m refusal ∷ []) agree reads split gives text = inr (put_off refusal a text)
upheld_by always r events early late a q (Refused m refusal ∷ x ∷ outs) agree reads split gives text = absurd text
upheld_by always r events early late a q (Answered m x ∷ y ∷ outs) agree reads split gives text = absurd text
upheld_by always r events early late a q (Answered m x ∷ []) agree reads split gives text =
    let n = length r.lives in
    let w = run (schema_in r) n (opening_of r) early in
    let closes = closes_at (schema_in r) a.node (select_of q) (nth w.nodes a.node) x (Answered m x ∷ []) m gives refl in
    inl (
      x,
      record {
        question = q;
        reads = reads;
        text = text;
        before = early;
        after = late;
        asked = split;
        given = agree.answers_agree early late a.node (select_of q) (Answered m x ∷ []) x split gives (subst (λ (k : ℕ). Contains (Answered m x ∷ []) (Answered k x)) closes.named (Contains-push [] (Answered m x)));
        closed = later_above always r events early (Ask a.node (select_of q) ∷ late) a.node m x.last agree split closes;
      },
    )

answer_held : Always → (r : Evidence) (events : List Event) → Explains r events → AgreesIn r events → (a : Recorded) → Contains r.answers a → ((x : Answer) × IsUpheld r events a x) ⊎ IsPutOff a
answer_held always r events e agree a given =
    let n = length r.lives in
    let at = at_place r.answers a given in
    let m : Moment = record { mark = a.mark; node = a.node; deed = Answers given.0 } in
    let listed = answer_listed r.lives r.answers given.0 a at in
    let p = placed_in r events e m (Contains-permutation (all_moments r.lives r.answers) e.moments m e.timeline.all listed) in
    let B : Option Recorded → Type 0 = λ o. IsAnsweredBy r n p.mid a.node o p.now in
    let here : IsAnswered r.tables n p.mid a.node a p.now = (subst B at p.behind).1 in
    let gives : Gives (schema_in r) n (run (schema_in r) n (opening_of r) p.early) (Ask a.node (select_of here.0)) here.1 = subst (λ (w : World). Gives (schema_in r) n w (Ask a.node (select_of here.0)) here.1) p.world here.3 in
    upheld_by always r events p.early p.late a here.0 here.1 agree here.2 (one_event p.early p.now p.late events (Ask a.node (select_of here.0)) here.5 p.is) gives here.4

answers_equal : OneAnswer → OneText → (r : Evidence) (events : List Event) (a b : Recorded) (x y : Answer) → IsUpheld r events a x → IsUpheld r events b y → a.query ≡ b.query → x.last ≡ y.last → a.answer ≡ b.answer
answers_equal one text r events a b x y u v same last =
    let q : v.question ≡ u.question = cc (sym v.reads, ap (query_in r.tables) (sym same), u.reads) in
    let I : QueryShape → ℕ → Type 0 = λ k t. IsAnswer (schema_in r) (read_at t (select_of k)) (decided_in r events) y in
    let given : I u.question x.last = subst (I u.question) (sym last) (subst (λ (k : QueryShape). I k y.last) q v.given) in
    let answer : y ≡ x = one (schema_in r) (read_at x.last (select_of u.question)) (decided_in r events) y x given u.given in
    let W : QueryShape → Answer → Type 0 = λ k z. IsText r.tables k.table (Answered b.node z ∷ []) b.answer in
    text r.tables u.question.table a.node b.node x a.answer b.answer u.text (subst (W u.question) answer (subst (λ (k : QueryShape). W k y) q v.text))

pub upholds : OneAnswer → OneText → Always → (r : Evidence) (events : List Event) → Explains r events → Upholds r events
upholds one text always r events e =
    let agree = always (schema_in r) (length r.lives) events in
    record { outcomes = outcome_held r events e agree; answers = answer_held always r events e agree; equal = answers_equal one text r events }

pub upheld_if : OneAnswer → OneText → Always → (r : Evidence) (res : Result (Vec Event' Global) AuditFault) → IfOk res (λ events. Explains r (map event_of events.items)) → IfOk res (λ events. Upholds r (map event_of events.items))
upheld_if one text always r (Ok events) e = upholds one text always r (map event_of events.items) e
upheld_if one text always r (Err fault) e = e
