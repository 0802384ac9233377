-- Lines that record events, one after another.
use Rattle.std.proofs.Common.{◌≡◌, ◌∙◌, ⊎_elim, inl, inr, ℕ, ℤ, Option, List, [], ◌∷◌, ◌++◌, flat_map, refl, sym, ap, subst, append-nil, append_assoc}
use Rattle.std.specs.Prelude.{All}
use Rattle.std.specs.List.{Contains}
use Rattle.std.proofs.lemmas.Grind.{flat_map-append}
use Rattle.std.proofs.lemmas.List.Elements.{All-append, All-nil, All-cons, All-head, All-push, All-tail, All-weaker}
use Rattle.flight.specs.declared.outcome.Outcome.{Outcome}
use Rattle.flight.specs.Telling.{outcome_of}
use Rattle.model.specs.declared.entry.Told.{Told}
use Rattle.model.specs.Lists.{IsBeginning}
use Rattle.model.specs.Transactions.{Language}
use Rattle.model.specs.Worlds.{World, Event, happens, run}
use Rattle.safety.proofs.Runs.{run_append}
use Rattle.sessions.specs.Kills.{durable}
use Rattle.journal.specs.declared.line.Taken.{Taken}
use Rattle.journal.specs.declared.line.Line.{Line}
use Rattle.journal.specs.declared.line.Line.TheVariants.{Opens, Rests, Life, Clock, Takes, Saves, Made, Ends, Answer, Printed}
use Rattle.store.specs.Going.{with_begun}
use Rattle.store.specs.Lines.{Lines, and_then, filed_in, lines_in, no_lines, waiting}
use Rattle.store.specs.Recording.{AreOf, AreRecorded, IsQuiet, IsSilent, IsStartOrStop, IsTrue, NobodySays, OneSays, RecordAll, Records, last_reading, reading_after}
use Rattle.store.proofs.Lines.{then_none}
use Rattle.store.proofs.Storing.{idle_left, idle_run, idle_stores}

pub last_both : (reading : Option ℤ) (one two : List Line) → last_reading reading (one ++ two) ≡ last_reading (last_reading reading one) two
last_both reading [] two = refl
last_both reading (line ∷ one) two = last_both (reading_after reading line) one two

module _ (language : Language) (n : ℕ) where
  -- lines from another world, which is the same
  pub record_from : (w v : World) (reading : Option ℤ) (lines : List Line) (events : List Event) → v ≡ w → RecordAll language n w reading lines events → RecordAll language n v reading lines events
  record_from w v reading lines events same r = subst (λ (u : World). RecordAll language n u reading lines events) (sym same) r

  pub record_both : (w : World) (reading : Option ℤ) (one two : List Line) (x y : List Event) → RecordAll language n w reading one x → RecordAll language n (run language n w x) (last_reading reading one) two y → RecordAll language n w reading (one ++ two) (x ++ y)
  record_both w reading [] two x y a b = subst (λ (z : List Event). RecordAll language n (run language n w z) reading two y → RecordAll language n w reading two (z ++ y)) (sym a) (λ r. r) b
  record_both w reading (line ∷ one) two x y (first, rest, h, more, is) b =
      let v = run language n w first in
      let there = record_from (run language n w x) (run language n v rest) (last_reading reading (line ∷ one)) two y (sym (ap (run language n w) is ∙ run_append language n first rest w)) b in
      (first, rest ++ y, h, record_both v (reading_after reading line) one two rest y more there, ap (λ (z : List Event). z ++ y) is ∙ append_assoc first rest y)

  -- what the first of these lines record, and what those behind them do
  pub record_split : (w : World) (reading : Option ℤ) (one two : List Line) (events : List Event) → RecordAll language n w reading (one ++ two) events →
      (x y : List Event) × (events ≡ x ++ y) × RecordAll language n w reading one x × RecordAll language n (run language n w x) (last_reading reading one) two y
  record_split w reading [] two events r = ([], events, refl, refl, r)
  record_split w reading (line ∷ one) two events (first, rest, h, more, is) =
      let v = run language n w first in
      let split = record_split v (reading_after reading line) one two rest more in (
        first ++ split.0,
        split.1,
        is ∙ ap (λ (z : List Event). first ++ z) split.2 ∙ sym (append_assoc first split.0 split.1),
        (first, split.0, h, split.3, refl),
        record_from (run language n v split.0) (run language n w (first ++ split.0)) (last_reading reading (line ∷ one)) two split.1 (run_append language n first split.0 w) split.4,
      )

-- ---- what lines tell of requests

-- what is said by some is said by more
abbrev pub SaysLess : (few more : ℕ → List Outcome → Type 0) → Type 0
SaysLess few more = (m : ℕ) (outcomes : List Outcome) → few m outcomes → more m outcomes

pub of_none : (tells : Told → Type 0) (outcomes : List Outcome) → outcomes ≡ [] → AreOf tells outcomes
of_none tells outcomes none = subst (AreOf tells) (sym none) (All-nil (λ (o : Outcome). (told : Told) × tells told × (o ≡ outcome_of told)))

pub of_more : (few more : Told → Type 0) → ((told : Told) → few told → more told) → (outcomes : List Outcome) → AreOf few outcomes → AreOf more outcomes
of_more few more less outcomes t =
    All-weaker (λ (o : Outcome). (told : Told) × few told × (o ≡ outcome_of told)) (λ (o : Outcome). (told : Told) × more told × (o ≡ outcome_of told)) (λ o (told, says, is). (told, less told says, is)) outcomes t

-- one more
pub of_one : (all : List Told) (outcomes : List Outcome) (one : Told) → Contains all one → AreOf (Contains all) outcomes → AreOf (Contains all) (outcomes ++ outcome_of one ∷ [])
of_one all outcomes one has t = All-push (λ (o : Outcome). (told : Told) × Contains all told × (o ≡ outcome_of told)) outcomes (outcome_of one) t (one, has, refl)

-- what is written of what one member told
pub made_told : (member : ℕ) (told : List Told) (outcomes : List Outcome) → AreOf (Contains told) outcomes → IsQuiet (OneSays member told) (Made member outcomes)
made_told member told outcomes t = (refl, t)

pub true_more : (few more : ℕ → List Outcome → Type 0) → SaysLess few more → (line : Line) → IsTrue few line → IsTrue more line
true_more few more less (Opens journal sum marks) t = tt
true_more few more less (Rests m stored) t = tt
true_more few more less (Life m stored) t = tt
true_more few more less (Clock now) t = tt
true_more few more less (Takes m taken) t = tt
true_more few more less (Saves m stored) t = tt
true_more few more less (Made m outcomes) t = less m outcomes t
true_more few more less (Ends m) t = tt
true_more few more less (Answer m query answer) t = tt
true_more few more less (Printed client number words) t = tt

pub quiet_true : (says : ℕ → List Outcome → Type 0) (line : Line) → IsQuiet says line → IsTrue says line
quiet_true says (Opens journal sum marks) q = tt
quiet_true says (Rests m stored) q = tt
quiet_true says (Life m stored) q = absurd q
quiet_true says (Clock now) q = tt
quiet_true says (Takes m taken) q = absurd q
quiet_true says (Saves m stored) q = tt
quiet_true says (Made m outcomes) q = q
quiet_true says (Ends m) q = absurd q
quiet_true says (Answer m query answer) q = tt
quiet_true says (Printed client number words) q = tt

quiet_more : (few more : ℕ → List Outcome → Type 0) → SaysLess few more → (line : Line) → IsQuiet few line → IsQuiet more line
quiet_more few more less (Opens journal sum marks) q = tt
quiet_more few more less (Rests m stored) q = tt
quiet_more few more less (Life m stored) q = q
quiet_more few more less (Clock now) q = tt
quiet_more few more less (Takes m taken) q = q
quiet_more few more less (Saves m stored) q = tt
quiet_more few more less (Made m outcomes) q = less m outcomes q
quiet_more few more less (Ends m) q = q
quiet_more few more less (Answer m query answer) q = tt
quiet_more few more less (Printed client number words) q = tt

pub nobody_less : (says : ℕ → List Outcome → Type 0) → SaysLess NobodySays says
nobody_less says m outcomes none = absurd none

-- the same of some lines
pub all_more : (few more : ℕ → List Outcome → Type 0) → SaysLess few more → (lines : List Line) → All (IsTrue few) lines → All (IsTrue more) lines
all_more few more less lines t = All-weaker (IsTrue few) (IsTrue more) (true_more few more less) lines t

pub all_true : (few more : ℕ → List Outcome → Type 0) → SaysLess few more → (lines : List Line) → All (IsQuiet few) lines → All (IsTrue more) lines
all_true few more less lines q = All-weaker (IsQuiet few) (IsTrue more) (λ line quiet. true_more few more less line (quiet_true few line quiet)) lines q

pub silent_true : (says : ℕ → List Outcome → Type 0) (lines : List Line) → All IsSilent lines → All (IsTrue says) lines
silent_true says lines s = all_true NobodySays says (nobody_less says) lines s

pub silent_quiet : (says : ℕ → List Outcome → Type 0) (lines : List Line) → All IsSilent lines → All (IsQuiet says) lines
silent_quiet says lines s = All-weaker IsSilent (IsQuiet says) (quiet_more NobodySays says (nobody_less says)) lines s

-- ---- lines that record nothing

quiet_none : (says : ℕ → List Outcome → Type 0) (w : World) (reading : Option ℤ) (line : Line) → IsQuiet says line → Records w reading line []
quiet_none says w reading (Opens journal sum marks) q = refl
quiet_none says w reading (Rests m stored) q = refl
quiet_none says w reading (Life m stored) q = absurd q
quiet_none says w reading (Clock now) q = refl
quiet_none says w reading (Takes m taken) q = absurd q
quiet_none says w reading (Saves m stored) q = refl
quiet_none says w reading (Made m outcomes) q = refl
quiet_none says w reading (Ends m) q = absurd q
quiet_none says w reading (Answer m query answer) q = refl
quiet_none says w reading (Printed client number words) q = refl

module _ (language : Language) (n : ℕ) (w : World) where
  quiet_records : (says : ℕ → List Outcome → Type 0) (reading : Option ℤ) (lines : List Line) → All (IsQuiet says) lines → RecordAll language n w reading lines []
  quiet_records says reading [] q = refl
  quiet_records says reading (line ∷ lines) q = ([], [], quiet_none says w reading line (All-head (IsQuiet says) line lines q), quiet_records says (reading_after reading line) lines (All-tail (IsQuiet says) line lines q), refl)

  pub silent_records : (reading : Option ℤ) (lines : List Line) → All IsSilent lines → RecordAll language n w reading lines []
  silent_records reading lines s = quiet_records NobodySays reading lines s

pub silent_both : (one two : List Line) → All IsSilent one → All IsSilent two → All IsSilent (one ++ two)
silent_both one two a b = All-append IsSilent one two a b

pub all_left : {A : Type 0} (P : A → Type 0) (one two : List A) → All P (one ++ two) → All P one
all_left P [] two q = All-nil P
all_left P (x ∷ one) two q = All-cons P x one (All-head P x (one ++ two) q) (all_left P one two (All-tail P x (one ++ two) q))

pub all_right : {A : Type 0} (P : A → Type 0) (one two : List A) → All P (one ++ two) → All P two
all_right P [] two q = q
all_right P (x ∷ one) two q = all_right P one two (All-tail P x (one ++ two) q)

pub silent_one : (line : Line) → IsSilent line → All IsSilent (line ∷ [])
silent_one line s = All-cons IsSilent line [] s (All-nil IsSilent)

-- ---- lines and events

idle_both : (one two : List Event) → All IsStartOrStop one → All IsStartOrStop two → All IsStartOrStop (one ++ two)
idle_both [] two a b = b
idle_both (e ∷ one) two a b = All-cons IsStartOrStop e (one ++ two) (All-head IsStartOrStop e one a) (idle_both one two (All-tail IsStartOrStop e one a) b)

-- ---- lines in blocks, and lines that wait

filed_lines : (one : List (List Line)) (rest group : List Line) (two : List (List Line)) → flat_map (λ (g : List Line). g) (one ++ (rest ++ group) ∷ two) ≡ (flat_map (λ (g : List Line). g) one ++ rest) ++ (group ++ flat_map (λ (g : List Line). g) two)
filed_lines one rest group two =
    flat_map-append (λ (g : List Line). g) one ((rest ++ group) ∷ two)
    ∙ ap (λ (x : List Line). flat_map (λ (g : List Line). g) one ++ x) (append_assoc rest group (flat_map (λ (g : List Line). g) two))
    ∙ sym (append_assoc (flat_map (λ (g : List Line). g) one) rest (group ++ flat_map (λ (g : List Line). g) two))

-- lines in front of a line and others
pub line_behind : (before : List Line) (line : Line) (more : List Line) → before ++ line ∷ more ≡ (before ++ line ∷ []) ++ more
line_behind before line more = sym (append_assoc before (line ∷ []) more)

lines_behind : (before : List Line) (line : Line) (more rest : List Line) → before ++ line ∷ (more ++ rest) ≡ ((before ++ line ∷ []) ++ more) ++ rest
lines_behind before line more rest = line_behind before line (more ++ rest) ∙ sym (append_assoc (before ++ line ∷ []) more rest)

module _ (language : Language) (n : ℕ) where
  -- starts and stops
  pub recorded_idle : (w : World) (reading : Option ℤ) (lines : Lines) (events : List Event) (spent : Type 0) → RecordAll language n w reading (lines_in lines) events → All IsStartOrStop events → AreRecorded language n w reading lines events spent
  recorded_idle w reading lines events spent r idle =
      let split = record_split language n w reading (filed_in lines) lines.rest events r in
      record {
        filed = split.0;
        waiting = split.1;
        lost = [];
        events_are = split.2 ∙ ap (λ (z : List Event). split.0 ++ z) (sym (append-nil split.1));
        on_device = split.3;
        in_buffer = split.4;
        idle = All-nil IsStartOrStop;
        none = inl refl;
        stored = idle_run language n events idle w ∙ sym (idle_run language n split.0 (idle_left split.0 split.1 (subst (All IsStartOrStop) split.2 idle)) w);
      }

  pub recorded_silent : (w : World) (reading : Option ℤ) (lines : Lines) (events : List Event) (spent : Type 0) → events ≡ [] → All IsSilent (lines_in lines) → AreRecorded language n w reading lines events spent
  recorded_silent w reading lines events spent none s =
      subst (λ (es : List Event). AreRecorded language n w reading lines es spent) (sym none) (recorded_idle w reading lines [] spent (silent_records language n w reading (lines_in lines) s) (All-nil IsStartOrStop))

  -- a start or a stop that no line records
  pub recorded_late : (w : World) (reading : Option ℤ) (event : Event) (spent : Type 0) → IsStartOrStop event → spent → AreRecorded language n w reading no_lines (event ∷ []) spent
  recorded_late w reading event spent idle late = record {
    filed = [];
    waiting = [];
    lost = event ∷ [];
    events_are = refl;
    on_device = refl;
    in_buffer = refl;
    idle = All-cons IsStartOrStop event [] idle (All-nil IsStartOrStop);
    none = inr late;
    stored = idle_stores language n event idle w;
  }

  -- a step that was begun, which stored nothing else unless a block was written
  pub recorded_step : (says : ℕ → List Outcome → Type 0) (w : World) (reading : Option ℤ) (m : ℕ) (taken : Taken) (lines : Lines) (event : Event) (spent : Type 0) → Records w reading (Takes m taken) (event ∷ []) → All (IsQuiet says) (lines_in lines) → (lines.groups ≡ [] → durable (happens language n w event) ≡ durable w) →
      AreRecorded language n w reading (with_begun (Takes m taken ∷ []) lines) (event ∷ []) spent
  recorded_step says w reading m taken lines event spent r silent same = go lines.groups lines.rest silent same
    where
      go : (groups : List (List Line)) (rest : List Line) → All (IsQuiet says) (flat_map (λ (g : List Line). g) groups ++ rest) → (groups ≡ [] → durable (happens language n w event) ≡ durable w) →
          AreRecorded language n w reading (with_begun (Takes m taken ∷ []) (record { groups = groups; rest = rest })) (event ∷ []) spent
      go [] rest quiet keeps = record {
        filed = [];
        waiting = event ∷ [];
        lost = [];
        events_are = refl;
        on_device = refl;
        in_buffer = (event ∷ [], [], r, quiet_records language n (happens language n w event) says reading rest quiet, refl);
        idle = All-nil IsStartOrStop;
        none = inl refl;
        stored = keeps refl;
      }
      go (group ∷ groups) rest quiet keeps =
          let more = group ++ flat_map (λ (g : List Line). g) groups in
          record {
            filed = event ∷ [];
            waiting = [];
            lost = [];
            events_are = refl;
            on_device = (event ∷ [], [], r, quiet_records language n (happens language n w event) says reading more (all_left (IsQuiet says) more rest quiet), refl);
            in_buffer = quiet_records language n (happens language n w event) says (last_reading reading (Takes m taken ∷ more)) rest (all_right (IsQuiet says) more rest quiet);
            idle = All-nil IsStartOrStop;
            none = inl refl;
            stored = refl;
          }

  -- lines that record nothing wait in front of a line
  pub recorded_after : (w : World) (reading : Option ℤ) (before : List Line) (line : Line) (lines : Lines) (events : List Event) (spent : Type 0) → All IsSilent before → AreRecorded language n w (last_reading reading before) (with_begun (line ∷ []) lines) events spent →
      AreRecorded language n w reading (and_then (waiting (before ++ line ∷ [])) lines) events spent
  recorded_after w reading before line lines events spent silent recorded = go lines.groups lines.rest recorded
    where
      quiet : RecordAll language n w reading before []
      quiet = silent_records language n w reading before silent

      go : (groups : List (List Line)) (rest : List Line) → AreRecorded language n w (last_reading reading before) (with_begun (line ∷ []) (record { groups = groups; rest = rest })) events spent →
          AreRecorded language n w reading (and_then (waiting (before ++ line ∷ [])) (record { groups = groups; rest = rest })) events spent
      go [] rest r = record {
        filed = r.filed;
        waiting = r.waiting;
        lost = r.lost;
        events_are = r.events_are;
        on_device = r.on_device;
        in_buffer =
            let v = run language n w r.filed in
            subst (λ (x : List Line). RecordAll language n v reading x r.waiting) (line_behind before line rest) (record_both language n v reading before (line ∷ rest) [] r.waiting (silent_records language n v reading before silent) r.in_buffer);
        idle = r.idle;
        none = r.none;
        stored = r.stored;
      }
      go (group ∷ groups) rest r =
          let more = flat_map (λ (g : List Line). g) groups in
          let path = lines_behind before line group more in
          record {
            filed = r.filed;
            waiting = r.waiting;
            lost = r.lost;
            events_are = r.events_are;
            on_device = subst (λ (x : List Line). RecordAll language n w reading x r.filed) path (record_both language n w reading before (line ∷ (group ++ more)) [] r.filed quiet r.on_device);
            in_buffer = subst (λ (x : Option ℤ). RecordAll language n (run language n w r.filed) x rest r.waiting) (sym (last_both reading before (line ∷ (group ++ more))) ∙ ap (last_reading reading) path) r.in_buffer;
            idle = r.idle;
            none = r.none;
            stored = r.stored;
          }

  -- lines of events, and then of more: those that were on the device are there still
  abbrev pub RecordedOn : (w : World) (reading : Option ℤ) (one two : Lines) (x y filed : List Event) (late : Type 0) → Type 0
  RecordedOn w reading one two x y filed late = (r : AreRecorded language n w reading (and_then one two) (x ++ y) late) × IsBeginning filed r.filed

  pub recorded_both : (w v : World) (reading mid : Option ℤ) (one two : Lines) (x y : List Event) (early late : Type 0) → v ≡ run language n w x → mid ≡ last_reading reading (lines_in one) → (early → two ≡ no_lines) → (early → late) →
      (a : AreRecorded language n w reading one x early) → AreRecorded language n v mid two y late → RecordedOn w reading one two x y a.filed late
  recorded_both w v reading mid one two x y early late leads at quiet on a b = ⊎_elim (λ none. live none two.groups two.rest next) dead a.none
    where
      next : AreRecorded language n (run language n w x) (last_reading reading (lines_in one)) two y late
      next = subst (λ (r : Option ℤ). AreRecorded language n (run language n w x) r two y late) at (subst (λ (u : World). AreRecorded language n u mid two y late) leads b)

      long : (events : List Event) → durable (run language n w (x ++ events)) ≡ durable (run language n (run language n w x) events)
      long events = ap durable (run_append language n x events w)

      live : a.lost ≡ [] → (groups : List (List Line)) (rest : List Line) → AreRecorded language n (run language n w x) (last_reading reading (lines_in one)) (record { groups = groups; rest = rest }) y late →
          RecordedOn w reading one (record { groups = groups; rest = rest }) x y a.filed late
      live none [] rest c =
          let is : x ≡ a.filed ++ a.waiting = a.events_are ∙ ap (λ (z : List Event). a.filed ++ (a.waiting ++ z)) none ∙ ap (λ (z : List Event). a.filed ++ z) (append-nil a.waiting) in
          let same = append-nil one.groups in
          let u = run language n w a.filed in
          let there : run language n u a.waiting ≡ run language n (run language n w x) c.filed = sym (run_append language n a.filed a.waiting w) ∙ ap (run language n w) (sym is) ∙ ap (run language n (run language n w x)) (sym c.on_device) in
          let shown : RecordAll language n (run language n u a.waiting) (last_reading (last_reading reading (filed_in one)) one.rest) rest c.waiting =
          record_from language n (run language n (run language n w x) c.filed) (run language n u a.waiting) (last_reading (last_reading reading (filed_in one)) one.rest) rest c.waiting there
          (subst (λ (r : Option ℤ). RecordAll language n (run language n (run language n w x) c.filed) r rest c.waiting) (last_both reading (filed_in one) one.rest) c.in_buffer) in
          let all : AreRecorded language n w reading (and_then one (record { groups = []; rest = rest })) (x ++ y) late = record {
            filed = a.filed;
            waiting = a.waiting ++ c.waiting;
            lost = c.lost;
            events_are =
                ap (λ (z : List Event). z ++ y) is
                ∙ ap (λ (z : List Event). (a.filed ++ a.waiting) ++ z) (c.events_are ∙ ap (λ (z : List Event). z ++ (c.waiting ++ c.lost)) c.on_device)
                ∙ append_assoc a.filed a.waiting (c.waiting ++ c.lost)
                ∙ ap (λ (z : List Event). a.filed ++ z) (sym (append_assoc a.waiting c.waiting c.lost));
            on_device = subst (λ (gs : List (List Line)). RecordAll language n w reading (flat_map (λ (g : List Line). g) gs) a.filed) (sym same) a.on_device;
            in_buffer = subst (λ (gs : List (List Line)). RecordAll language n u (last_reading reading (flat_map (λ (g : List Line). g) gs)) (one.rest ++ rest) (a.waiting ++ c.waiting)) (sym same)
                (record_both language n u (last_reading reading (filed_in one)) one.rest rest a.waiting c.waiting a.in_buffer shown);
            idle = c.idle;
            none = c.none;
            stored = long y ∙ c.stored ∙ ap (λ (z : List Event). durable (run language n (run language n w x) z)) c.on_device ∙ a.stored;
          } in
          (all, ([], append-nil a.filed))
      live none (group ∷ groups) rest c =
          let is : x ≡ a.filed ++ a.waiting = a.events_are ∙ ap (λ (z : List Event). a.filed ++ (a.waiting ++ z)) none ∙ ap (λ (z : List Event). a.filed ++ z) (append-nil a.waiting) in
          let more = group ++ flat_map (λ (g : List Line). g) groups in
          let path = filed_lines one.groups one.rest group groups in
          let first = a.filed ++ a.waiting in
          let before : RecordAll language n w reading (lines_in one) first = record_both language n w reading (filed_in one) one.rest a.filed a.waiting a.on_device a.in_buffer in
          let then_filed : RecordAll language n (run language n w first) (last_reading reading (lines_in one)) more c.filed =
          record_from language n (run language n w x) (run language n w first) (last_reading reading (lines_in one)) more c.filed (ap (run language n w) (sym is)) c.on_device in
          let there : run language n w (first ++ c.filed) ≡ run language n (run language n w x) c.filed = ap (λ (z : List Event). run language n w (z ++ c.filed)) (sym is) ∙ run_append language n x c.filed w in
          let all : AreRecorded language n w reading (and_then one (record { groups = group ∷ groups; rest = rest })) (x ++ y) late = record {
            filed = (a.filed ++ a.waiting) ++ c.filed;
            waiting = c.waiting;
            lost = c.lost;
            events_are =
                ap (λ (z : List Event). z ++ y) is
                ∙ ap (λ (z : List Event). (a.filed ++ a.waiting) ++ z) c.events_are
                ∙ sym (append_assoc (a.filed ++ a.waiting) c.filed (c.waiting ++ c.lost));
            on_device = subst (λ (ls : List Line). RecordAll language n w reading ls (first ++ c.filed)) (sym path) (record_both language n w reading (lines_in one) more first c.filed before then_filed);
            in_buffer = subst (λ (r : Option ℤ). RecordAll language n (run language n w (first ++ c.filed)) r rest c.waiting) (sym (last_both reading (lines_in one) more) ∙ ap (last_reading reading) (sym path))
                (record_from language n (run language n (run language n w x) c.filed) (run language n w (first ++ c.filed)) (last_reading (last_reading reading (lines_in one)) more) rest c.waiting there c.in_buffer);
            idle = c.idle;
            none = c.none;
            stored = long y ∙ c.stored ∙ sym (long c.filed) ∙ ap (λ (z : List Event). durable (run language n w (z ++ c.filed))) is;
          } in
          (all, (a.waiting ++ c.filed, sym (append_assoc a.filed a.waiting c.filed)))

      dead : early → RecordedOn w reading one two x y a.filed late
      dead spent =
          let nothing = quiet spent in
          let c : AreRecorded language n (run language n w x) (last_reading reading (lines_in one)) no_lines y late = subst (λ (l : Lines). AreRecorded language n (run language n w x) (last_reading reading (lines_in one)) l y late) nothing next in
          let rest : y ≡ c.lost = c.events_are ∙ ap (λ (z : List Event). z ++ (c.waiting ++ c.lost)) c.on_device ∙ ap (λ (z : List Event). z ++ c.lost) c.in_buffer in
          let all : AreRecorded language n w reading one (x ++ y) late = record {
            filed = a.filed;
            waiting = a.waiting;
            lost = a.lost ++ c.lost;
            events_are =
                ap (λ (z : List Event). z ++ y) a.events_are
                ∙ ap (λ (z : List Event). (a.filed ++ (a.waiting ++ a.lost)) ++ z) rest
                ∙ append_assoc a.filed (a.waiting ++ a.lost) c.lost
                ∙ ap (λ (z : List Event). a.filed ++ z) (append_assoc a.waiting a.lost c.lost);
            on_device = a.on_device;
            in_buffer = a.in_buffer;
            idle = idle_both a.lost c.lost a.idle c.idle;
            none = inr (on spent);
            stored = long y ∙ c.stored ∙ ap (λ (z : List Event). durable (run language n (run language n w x) z)) c.on_device ∙ a.stored;
          } in
          subst (λ (l : Lines). (r : AreRecorded language n w reading l (x ++ y) late) × IsBeginning a.filed r.filed) (sym (ap (and_then one) nothing ∙ then_none one)) (all, ([], append-nil a.filed))
