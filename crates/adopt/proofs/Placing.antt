-- Where a journal stands, moment by moment.
use Rattle.std.proofs.Common.{◌≡◌, ◌∙◌, ◌<◌, ◌+◌, ℕ, suc, List, [], ◌∷◌, ◌++◌, length, map, take, drop, get_or, Result, Ok, Err, refl, sym, ap, subst, add-one, append-nil, append_assoc}
use Rattle.std.specs.Prelude.{IfErr, slice_get, option_and_then}
use Rattle.std.specs.declared.vec.Vec.{Vec}
use Rattle.std.specs.declared.alloc.Global.{Global}
use Rattle.std.proofs.Math.Seq.{drop-cons}
use Rattle.std.proofs.lemmas.List.{take-append-drop, length-map}
use Rattle.model.specs.Worlds.{World, Event, happens}
use Rattle.model.specs.Worlds.Event.{Start}
use Rattle.sqlchecks.specs.Columns.{Tables}
use Rattle.sqlread.specs.Meaning.{language_of}
use Rattle.flight.specs.declared.flight.Version.{Version}
use Rattle.flight.specs.declared.life.Life.{Life}
use Rattle.world.specs.declared.history.World.{World as Whole}
use Rattle.world.specs.Run.{language_in, tables_in, members_in, events_of, now_of}
use Rattle.world.specs.View.{event_of}
use Rattle.moments.specs.declared.moment.Deed.{Deed}
use Rattle.moments.specs.declared.moment.Deed.TheVariants.{Opens, Takes, Tears, Answers, Stops}
use Rattle.moments.specs.declared.moment.Moment.{Moment}
use Rattle.moments.specs.declared.recorded.Recorded.{Recorded}
use Rattle.moments.specs.declared.recorded.AuditFault.{AuditFault}
use Rattle.moments.specs.declared.replay.Replay.{Replay}
use Rattle.moments.specs.Past.{Past, after}
use Rattle.moments.specs.Behind.{Evidence, IsBehind, life_at}
use Rattle.moments.specs.Faults.{IsFaultAt, IsNo, Lacks, NoneAre}
use Rattle.moments.specs.View.{past_of, Follows, IsLive, IsSameRun}
use Rattle.auditor.specs.Audited.{Leads, IsStuck}
use Rattle.auditor.proofs.Judging.{no_weaker}
use Rattle.journal.specs.declared.line.Line.{Line}
use Rattle.journal.specs.declared.line.Line.TheVariants.{Life as Begins}
use Rattle.adopt.specs.declared.deeds.Sight.{Sight}
use Rattle.adopt.specs.declared.telling.Telling.{Telling}
use Rattle.adopt.specs.Taken.{event_taken, taken_in}
use Rattle.adopt.specs.Lines.{summary_at, line_of, torn_lines, left_lines, down_lines, deed_lines, noted_by}
use Rattle.adopt.specs.Spelled.{Place, sight, lines_at, place_after, Spells, last_lines}
use Rattle.adopt.specs.View.{place_of, IsEnd, IsOpening, IsTear, IsSameTelling, IsTold, AreTold}

-- ---- the run is looked at

pub run_itself : (x : Replay) → IsLive x → IsSameRun x x
run_itself x live = record { kept = refl; past = refl; tables = refl; members = refl; live = live }

pub run_again : (a b c : Replay) → IsSameRun a b → IsSameRun b c → IsSameRun a c
run_again a b c p q = record {
  kept = q.kept ∙ p.kept;
  past = q.past ∙ p.past;
  tables = q.tables ∙ p.tables;
  members = q.members ∙ p.members;
  live = q.live;
}

-- a fault is of the run that was looked at, too
pub same_fault : {T : Type 0} (res : Result T AuditFault) (v : Version) (lives : List (Vec Life Global)) (answers : List Recorded) (old one : Replay) (m : Moment) → IsSameRun old one →
    IfErr res (IsNo (Lacks (IsFaultAt lives (past_of one) m) (IsBehind (record { version = v; tables = tables_in one.world; lives = lives; answers = answers }) (members_in one.world) (past_of one) m))) →
    IfErr res (IsNo (Lacks (IsFaultAt lives (past_of old) m) (IsBehind (record { version = v; tables = tables_in old.world; lives = lives; answers = answers }) (members_in old.world) (past_of old) m)))
same_fault res v lives answers old one m same said =
    let P : Tables → ℕ → Past → Type 0 = λ t n p. IfErr res (IsNo (Lacks (IsFaultAt lives p m) (IsBehind (record { version = v; tables = t; lives = lives; answers = answers }) n p m))) in
    let tables : P (tables_in old.world) (members_in one.world) (past_of one) = subst (λ t. P t (members_in one.world) (past_of one)) same.tables said in
    let members : P (tables_in old.world) (members_in old.world) (past_of one) = subst (λ n. P (tables_in old.world) n (past_of one)) same.members tables in
    subst (λ p. P (tables_in old.world) (members_in old.world) p) same.past members

-- one member more is stopped at the end
pub last_more : (w : World) (i : ℕ) → last_lines w i ++ down_lines (i + 1) (summary_at w (i + 1)) ≡ last_lines w (i + 1)
last_more w i =
    let next : i + 1 ≡ suc i = add-one i in
    (λ j. last_lines w i ++ down_lines (next j) (summary_at w (next j))) ∙ sym (ap (last_lines w) next)

-- ---- what is seen

seam : (old now : List Event) → slice_get (old ++ now) (length old) ≡ slice_get now 0
seam [] now = refl
seam (e ∷ old) now = seam old now

mapped : (w : Whole) → length (events_of w) ≡ length w.kept.items
mapped w = length-map w.kept.items event_of

-- what is taken by the first event after the old ones
taken_next : (old now all : List Event) (count : ℕ) → all ≡ old ++ now → count ≡ length old → option_and_then event_taken (slice_get all count) ≡ taken_in now
taken_next old now all count is long = ap (option_and_then event_taken) ((λ i. slice_get (is i) (long i)) ∙ seam old now)

-- the lines say nothing else of what is seen
same_lines : (lives : List (Vec Life Global)) (answers : List Recorded) (noted node : ℕ) (deed : Deed) (s t : Sight) → s.taken ≡ t.taken → (IsEnd deed → s.before ≡ t.before) → (IsOpening deed → s.after ≡ t.after) → (IsTear deed → s.started ≡ t.started) →
    deed_lines lives answers noted node deed s ≡ deed_lines lives answers noted node deed t
same_lines lives answers noted node (Opens k) s t taken before after started = ap (line_of (Begins node)) (after tt)
same_lines lives answers noted node (Takes k step) s t taken before after started = ap (λ x. deed_lines lives answers noted node (Takes k step) (record t { taken = x })) taken
same_lines lives answers noted node (Tears k) s t taken before after started = λ i. torn_lines node (taken i) (left_lines node (before tt i) (life_at lives node (k + 1)) (started tt i)) (life_at lives node k)
same_lines lives answers noted node (Answers k) s t taken before after started = refl
same_lines lives answers noted node (Stops k) s t taken before after started = ap (down_lines node) (before tt)

-- a moment happens, and what is seen of it is told
pub told_so : (v : Version) (lives : List (Vec Life Global)) (answers : List Recorded) (old one two three new : Telling) (m : Moment) (s : Sight) (count : ℕ) →
    IsSameTelling old one →
    Follows (IsBehind (record { version = v; tables = tables_in one.replay.world; lives = lives; answers = answers }) (members_in one.replay.world) (past_of one.replay) m) one.replay two.replay m.mark →
    two.lines.items ≡ one.lines.items → two.noted ≡ one.noted → IsSameTelling two three →
    count ≡ length one.replay.world.kept.items → s.taken ≡ option_and_then event_taken (slice_get (events_of two.replay.world) count) →
    (IsEnd m.deed → s.before ≡ summary_at (past_of old.replay).world m.node) →
    (IsOpening m.deed → s.after ≡ summary_at (past_of two.replay).world m.node) →
    (IsTear m.deed → s.started ≡ summary_at (happens (language_in three.replay.world) (members_in three.replay.world) (now_of three.replay.world) (Start m.node)) m.node) →
    new.lines.items ≡ three.lines.items ++ deed_lines lives answers three.noted m.node m.deed s → new.noted ≡ noted_by lives three.noted m.node m.deed → new.replay ≡ three.replay →
    IsTold (record { version = v; tables = tables_in old.replay.world; lives = lives; answers = answers }) (members_in old.replay.world) old new m
told_so v lives answers old one two three new m s count first follows lined noted next counted taken before after' started adds notes stays =
    let t = tables_in old.replay.world in
    let n = members_in old.replay.world in
    let p = past_of old.replay in
    let r : Evidence = record { version = v; tables = t; lives = lives; answers = answers } in
    let now = follows.0 in
    let here = follows.2 in
    let run1 = first.run in
    let run3 = next.run in
    let B : Tables → ℕ → Past → Type 0 = λ ts k q. IsBehind (record { version = v; tables = ts; lives = lives; answers = answers }) k q m now in
    let behind1 : B t (members_in one.replay.world) (past_of one.replay) = subst (λ ts. B ts (members_in one.replay.world) (past_of one.replay)) run1.tables follows.1 in
    let behind2 : B t n (past_of one.replay) = subst (λ k. B t k (past_of one.replay)) run1.members behind1 in
    let behind : B t n p = subst (λ q. B t n q) run1.past behind2 in
    let past2 : past_of two.replay ≡ after (language_of t) n p m.mark now = here.past ∙ (λ i. after (language_of (run1.tables i)) (run1.members i) (run1.past i) m.mark now) in
    let past3 : past_of three.replay ≡ after (language_of t) n p m.mark now = run3.past ∙ past2 in
    let tables3 : tables_in three.replay.world ≡ t = run3.tables ∙ here.tables ∙ run1.tables in
    let members3 : members_in three.replay.world ≡ n = run3.members ∙ here.members ∙ run1.members in
    let noted3 : three.noted ≡ old.noted = next.noted ∙ noted ∙ first.noted in
    let lines3 : three.lines.items ≡ old.lines.items = next.lines ∙ lined ∙ first.lines in
    let S : Sight = sight r n p.world m.node now in
    let seen : s.taken ≡ S.taken = taken ∙ taken_next (events_of one.replay.world) now (events_of two.replay.world) count here.kept (counted ∙ sym (mapped one.replay.world)) in
    let opened : IsOpening m.deed → s.after ≡ S.after = λ h. after' h ∙ ap (λ (q : Past). summary_at q.world m.node) past2 in
    let begun : IsTear m.deed → s.started ≡ S.started = λ h. started h ∙ (λ i. summary_at (happens (language_of (tables3 i)) (members3 i) (past3 i).world (Start m.node)) m.node) in
    let told : deed_lines lives answers three.noted m.node m.deed s ≡ deed_lines lives answers old.noted m.node m.deed S =
    ap (λ k. deed_lines lives answers k m.node m.deed s) noted3 ∙ same_lines lives answers old.noted m.node m.deed s S seen before opened begun in
    let newest : past_of new.replay ≡ after (language_of t) n p m.mark now = ap past_of stays ∙ past3 in
    let notes3 : new.noted ≡ noted_by lives old.noted m.node m.deed = notes ∙ ap (λ k. noted_by lives k m.node m.deed) noted3 in
    record {
      now = now;
      behind = behind;
      lines = adds ∙ (λ i. lines3 i ++ told i);
      place = λ i. record { past = newest i; noted = notes3 i };
      tables = ap (λ (x : Replay). tables_in x.world) stays ∙ tables3;
      members = ap (λ (x : Replay). members_in x.world) stays ∙ members3;
      live = subst IsLive (sym stays) run3.live;
    }

-- ---- one moment more

spells_more : (r : Evidence) (n : ℕ) (p q : Place) (ms : List Moment) (m : Moment) (lines : List Line) (now : List Event) → Spells r n p ms lines q → IsBehind r n q.past m now →
    Spells r n p (ms ++ m ∷ []) (lines ++ lines_at r n q m now) (place_after r n q m now)
spells_more r n p q [] m lines now told behind =
    let B : Place → Type 0 = λ x. IsBehind r n x.past m now in
    (now, [], ap (λ xs. xs ++ lines_at r n q m now) told.0 ∙ ap (λ (x : Place). lines_at r n x m now) told.1 ∙ sym (append-nil (lines_at r n p m now)), subst B told.1 behind, (refl, ap (λ (x : Place). place_after r n x m now) told.1))
spells_more r n p q (k ∷ ms) m lines now told behind =
    (told.0, told.1 ++ lines_at r n q m now, ap (λ xs. xs ++ lines_at r n q m now) told.2 ∙ append_assoc (lines_at r n p k told.0) told.1 (lines_at r n q m now), told.3, spells_more r n (place_after r n p k told.0) q ms m told.1 now told.4 behind)

pub told_more : (v : Version) (lives : List (Vec Life Global)) (answers : List Recorded) (old cur new : Telling) (ms : List Moment) (m : Moment) →
    AreTold (record { version = v; tables = tables_in old.replay.world; lives = lives; answers = answers }) (members_in old.replay.world) old cur ms →
    IsTold (record { version = v; tables = tables_in cur.replay.world; lives = lives; answers = answers }) (members_in cur.replay.world) cur new m →
    AreTold (record { version = v; tables = tables_in old.replay.world; lives = lives; answers = answers }) (members_in old.replay.world) old new (ms ++ m ∷ [])
told_more v lives answers old cur new ms m told here =
    let n = members_in old.replay.world in
    let r : Evidence = record { version = v; tables = tables_in old.replay.world; lives = lives; answers = answers } in
    let T : Tables → ℕ → Type 0 = λ ts k. IsTold (record { version = v; tables = ts; lives = lives; answers = answers }) k cur new m in
    let one : IsTold r n cur new m = subst (T (tables_in old.replay.world)) told.members (subst (λ ts. T ts (members_in cur.replay.world)) told.tables here) in
    let adds = lines_at r n (place_of cur) m one.now in
    let S : Place → Type 0 = λ q. Spells r n (place_of old) (ms ++ m ∷ []) (told.more ++ adds) q in
    record {
      more = told.more ++ adds;
      lines = one.lines ∙ ap (λ xs. xs ++ adds) told.lines ∙ append_assoc old.lines.items told.more adds;
      spells = subst S (sym one.place) (spells_more r n (place_of old) (place_of cur) ms m told.more one.now told.spells one.behind);
      tables = one.tables ∙ told.tables;
      members = one.members ∙ told.members;
      live = one.live;
    }

-- ---- a moment that has no events

leads_of : (r : Evidence) (n : ℕ) (p q : Place) (ms : List Moment) (lines : List Line) → Spells r n p ms lines q → (events : List Event) × Leads r n p.past ms events q.past
leads_of r n p q [] lines told = ([], (refl, ap (λ (x : Place). x.past) told.1))
leads_of r n p q (m ∷ ms) lines told = let rest = leads_of r n (place_after r n p m told.0) q ms told.1 told.4 in (told.0 ++ rest.0, (told.0, rest.0, refl, told.3, rest.1))

stuck_at : (v : Version) (lives : List (Vec Life Global)) (answers : List Recorded) (old cur : Telling) (all : List Moment) (i : ℕ) (m : Moment) (f : AuditFault) →
    AreTold (record { version = v; tables = tables_in old.replay.world; lives = lives; answers = answers }) (members_in old.replay.world) old cur (take i all) → i < length all → m ≡ get_or all i m →
    IsNo (Lacks (IsFaultAt lives (past_of cur.replay) m) (IsBehind (record { version = v; tables = tables_in cur.replay.world; lives = lives; answers = answers }) (members_in cur.replay.world) (past_of cur.replay) m)) f →
    IsNo (IsStuck (record { version = v; tables = tables_in old.replay.world; lives = lives; answers = answers }) (members_in old.replay.world) (past_of old.replay) all) f
stuck_at v lives answers old cur all i m f told within is said =
    let r : Evidence = record { version = v; tables = tables_in old.replay.world; lives = lives; answers = answers } in
    let n = members_in old.replay.world in
    let led = leads_of r n (place_of old) (place_of cur) (take i all) told.more told.spells in
    let B : Tables → ℕ → Type 0 = λ ts k. NoneAre (IsBehind (record { version = v; tables = ts; lives = lives; answers = answers }) k (past_of cur.replay) m) in
    no_weaker (Lacks (IsFaultAt lives (past_of cur.replay) m) (IsBehind (record { version = v; tables = tables_in cur.replay.world; lives = lives; answers = answers }) (members_in cur.replay.world) (past_of cur.replay) m))
    (IsStuck r n (past_of old.replay) all) f (λ g lacks. record {
      before = take i all;
      moment = m;
      later = drop (suc i) all;
      is = sym (take-append-drop i all) ∙ ap (λ xs. take i all ++ xs) (drop-cons all i m within ∙ ap (λ y. y ∷ drop (suc i) all) (sym is));
      events = led.0;
      past = past_of cur.replay;
      leads = led.1;
      none = subst (B (tables_in old.replay.world)) told.members (subst (λ ts. B ts (members_in cur.replay.world)) told.tables lacks.1);
      named = lacks.0;
    }) said

pub stuck_if : {T : Type 0} (v : Version) (lives : List (Vec Life Global)) (answers : List Recorded) (old cur : Telling) (all : List Moment) (i : ℕ) (m : Moment) (res : Result T AuditFault) →
    AreTold (record { version = v; tables = tables_in old.replay.world; lives = lives; answers = answers }) (members_in old.replay.world) old cur (take i all) → i < length all → m ≡ get_or all i m →
    IfErr res (IsNo (Lacks (IsFaultAt lives (past_of cur.replay) m) (IsBehind (record { version = v; tables = tables_in cur.replay.world; lives = lives; answers = answers }) (members_in cur.replay.world) (past_of cur.replay) m))) →
    IfErr res (IsNo (IsStuck (record { version = v; tables = tables_in old.replay.world; lives = lives; answers = answers }) (members_in old.replay.world) (past_of old.replay) all))
stuck_if {T} v lives answers old cur all i m (Ok x) told within is said = said
stuck_if {T} v lives answers old cur all i m (Err f) told within is said = stuck_at v lives answers old cur all i m f told within is said
