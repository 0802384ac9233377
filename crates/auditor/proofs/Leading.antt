-- Moments that happened, one more at a time.
use Rattle.std.proofs.Common.{◌≡◌, ◌∙◌, ℕ, List, [], ◌∷◌, ◌++◌, refl, sym, ap, subst, append-nil, append_assoc, ◌<◌, suc, length, take, drop, get_or, Result, Ok, Err}
use Rattle.std.specs.Prelude.{IfErr}
use Rattle.std.specs.declared.vec.Vec.{Vec}
use Rattle.std.specs.declared.alloc.Global.{Global}
use Rattle.model.specs.Worlds.{Event}
use Rattle.flight.specs.declared.flight.Version.{Version}
use Rattle.flight.specs.declared.life.Life.{Life}
use Rattle.sqlchecks.specs.Columns.{Tables}
use Rattle.sqlread.specs.Meaning.{language_of}
use Rattle.world.specs.Run.{tables_in, members_in, events_of}
use Rattle.moments.specs.declared.replay.Replay.{Replay}
use Rattle.moments.specs.declared.moment.Moment.{Moment}
use Rattle.moments.specs.declared.recorded.Recorded.{Recorded}
use Rattle.moments.specs.Past.{Past, after}
use Rattle.moments.specs.Behind.{Evidence, IsBehind}
use Rattle.auditor.specs.Audited.{Leads, IsStuck}
use Rattle.moments.specs.Faults.{IsFaultAt, IsNo, Lacks, NoneAre}
use Rattle.moments.specs.declared.recorded.AuditFault.{AuditFault}
use Rattle.auditor.proofs.Judging.{no_weaker}
use Rattle.std.proofs.Math.Seq.{drop-cons}
use Rattle.std.proofs.lemmas.List.{take-append-drop}
use Rattle.moments.specs.View.{past_of, Follows}
use Rattle.auditor.specs.View.{IsLed}

leads_more : (r : Evidence) (n : ℕ) (p q : Past) (ms : List Moment) (m : Moment) (es now : List Event) → Leads r n p ms es q → IsBehind r n q m now → Leads r n p (ms ++ m ∷ []) (es ++ now) (after (language_of r.tables) n q m.mark now)
leads_more r n p q [] m es now led behind =
    let B : Past → Type 0 = λ x. IsBehind r n x m now in
    (now, [], ap (λ xs. xs ++ now) led.0 ∙ sym (append-nil now), subst B led.1 behind, (refl, ap (λ (x : Past). after (language_of r.tables) n x m.mark now) led.1))
leads_more r n p q (k ∷ ms) m es now led behind =
    (led.0, led.1 ++ now, ap (λ xs. xs ++ now) led.2 ∙ append_assoc led.0 led.1 now, led.3, leads_more r n (after (language_of r.tables) n p k.mark led.0) q ms m led.1 now led.4 behind)

-- one more moment
pub led_more : (v : Version) (lives : List (Vec Life Global)) (answers : List Recorded) (old cur new : Replay) (ms : List Moment) (m : Moment) (es : List Event) →
    IsLed (record { version = v; tables = tables_in old.world; lives = lives; answers = answers }) (members_in old.world) old cur ms es →
    Follows (IsBehind (record { version = v; tables = tables_in cur.world; lives = lives; answers = answers }) (members_in cur.world) (past_of cur) m) cur new m.mark →
    (events : List Event) × IsLed (record { version = v; tables = tables_in old.world; lives = lives; answers = answers }) (members_in old.world) old new (ms ++ m ∷ []) events
led_more v lives answers old cur new ms m es led follows =
    let now = follows.0 in
    let here = follows.2 in
    let B : Tables → Type 0 = λ t. IsBehind (record { version = v; tables = t; lives = lives; answers = answers }) (members_in cur.world) (past_of cur) m now in
    let C : ℕ → Type 0 = λ n. IsBehind (record { version = v; tables = tables_in old.world; lives = lives; answers = answers }) n (past_of cur) m now in
    let behind = subst C led.members (subst B led.tables follows.1) in
    let past : past_of new ≡ after (language_of (tables_in old.world)) (members_in old.world) (past_of cur) m.mark now =
    here.past ∙ ap (λ (t : Tables). after (language_of t) (members_in cur.world) (past_of cur) m.mark now) led.tables ∙ ap (λ (n : ℕ). after (language_of (tables_in old.world)) n (past_of cur) m.mark now) led.members in
    let L : Past → Type 0 = λ q. Leads (record { version = v; tables = tables_in old.world; lives = lives; answers = answers }) (members_in old.world) (past_of old) (ms ++ m ∷ []) (es ++ now) q in (
      es ++ now,
      record {
        kept = here.kept ∙ ap (λ xs. xs ++ now) led.kept ∙ append_assoc (events_of old.world) es now;
        leads = subst L (sym past) (leads_more (record { version = v; tables = tables_in old.world; lives = lives; answers = answers }) (members_in old.world) (past_of old) (past_of cur) ms m es now led.leads behind);
        tables = here.tables ∙ led.tables;
        members = here.members ∙ led.members;
        live = here.live;
      },
    )

-- ---- a moment that has no events

-- the moments before it happened, and it has no events
pub stuck_at : (v : Version) (lives : List (Vec Life Global)) (answers : List Recorded) (old cur : Replay) (all : List Moment) (i : ℕ) (m : Moment) (es : List Event) (f : AuditFault) →
    IsLed (record { version = v; tables = tables_in old.world; lives = lives; answers = answers }) (members_in old.world) old cur (take i all) es → i < length all → m ≡ get_or all i m →
    IsNo (Lacks (IsFaultAt lives (past_of cur) m) (IsBehind (record { version = v; tables = tables_in cur.world; lives = lives; answers = answers }) (members_in cur.world) (past_of cur) m)) f →
    IsNo (IsStuck (record { version = v; tables = tables_in old.world; lives = lives; answers = answers }) (members_in old.world) (past_of old) all) f
stuck_at v lives answers old cur all i m es f led within is said =
    let B : Tables → Type 0 = λ t. NoneAre (IsBehind (record { version = v; tables = t; lives = lives; answers = answers }) (members_in cur.world) (past_of cur) m) in
    let C : ℕ → Type 0 = λ n. NoneAre (IsBehind (record { version = v; tables = tables_in old.world; lives = lives; answers = answers }) n (past_of cur) m) in
    no_weaker (Lacks (IsFaultAt lives (past_of cur) m) (IsBehind (record { version = v; tables = tables_in cur.world; lives = lives; answers = answers }) (members_in cur.world) (past_of cur) m))
    (IsStuck (record { version = v; tables = tables_in old.world; lives = lives; answers = answers }) (members_in old.world) (past_of old) all) f (λ g lacks. record {
      before = take i all;
      moment = m;
      later = drop (suc i) all;
      is = sym (take-append-drop i all) ∙ ap (λ xs. take i all ++ xs) (drop-cons all i m within ∙ ap (λ y. y ∷ drop (suc i) all) (sym is));
      events = es;
      past = past_of cur;
      leads = led.leads;
      none = subst C led.members (subst B led.tables lacks.1);
      named = lacks.0;
    }) said

pub stuck_if : {T : Type 0} (v : Version) (lives : List (Vec Life Global)) (answers : List Recorded) (old cur : Replay) (all : List Moment) (i : ℕ) (m : Moment) (es : List Event) (res : Result T AuditFault) →
    IsLed (record { version = v; tables = tables_in old.world; lives = lives; answers = answers }) (members_in old.world) old cur (take i all) es → i < length all → m ≡ get_or all i m →
    IfErr res (IsNo (Lacks (IsFaultAt lives (past_of cur) m) (IsBehind (record { version = v; tables = tables_in cur.world; lives = lives; answers = answers }) (members_in cur.world) (past_of cur) m))) →
    IfErr res (IsNo (IsStuck (record { version = v; tables = tables_in old.world; lives = lives; answers = answers }) (members_in old.world) (past_of old) all))
stuck_if {T} v lives answers old cur all i m es (Ok x) led within is said = said
stuck_if {T} v lives answers old cur all i m es (Err f) led within is said = stuck_at v lives answers old cur all i m es f led within is said
