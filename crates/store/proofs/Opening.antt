-- The members of a store that is opened.
use Rattle.std.proofs.Common.{◌≡◌, ◌∙◌, ℕ, zero, suc, ◌+◌, ◌≤◌, ◌⊎◌, inl, inr, Option, Some, None, Result, Ok, Err, OnOk, List, [], ◌∷◌, ◌++◌, MatchOption, drop, length, slice_get, slice_set, take, refl, sym, ap, subst, append-nil, append_assoc, add-one, arith, Bool, true, false, if◌then◌else◌}
use Rattle.std.specs.List.{All}
use Rattle.std.specs.Option.{ForSome}
use Rattle.std.specs.Prelude.{ℤ, is_none, max}
use Rattle.std.proofs.Math.Seq.{take-add}
use Rattle.std.proofs.lemmas.Grind.{flat_map-append}
use Rattle.std.proofs.lemmas.List.{length-append}
use Rattle.std.proofs.lemmas.List.Elements.{All-append, All-cons, All-head, All-nil, All-tail, All-weaker}
use Rattle.std.proofs.lemmas.Option.{same_Some, slice_get_within}
use Rattle.model.specs.Lists.{nth, with_nth}
use Rattle.model.specs.Members as model
use Rattle.model.specs.Transactions.{Language}
use Rattle.model.specs.Worlds.{World, Event, Output, Start, run, started, starts, with_node}
use Rattle.model.specs.declared.message.Message.{Message}
use Rattle.journal.specs.declared.line.Line.{Line}
use Rattle.journal.specs.declared.line.Line.TheVariants.{Life, Rests}
use Rattle.journal.specs.declared.stored.Summary.{Summary}
use Rattle.keep.specs.Durable.{Durable}
use Rattle.journal.specs.Digests.{summary_of}
use Rattle.node.specs.Member.{member_of}
use Rattle.node.specs.View.{durable_of}
use Rattle.safety.proofs.Lists.{get_with}
use Rattle.safety.proofs.Runs.{run_append}
use Rattle.sessions.specs.Kills.{durable, opened}
use Rattle.sessions.proofs.Lists.{further, get_short, get_there}
use Rattle.sqlchecks.specs.Columns.{Tables}
use Rattle.sqlread.specs.Meaning.{language_of}
use Rattle.runlaws.specs.Going.{AreSeated, Goes}
use Rattle.runlaws.proofs.Going.{further_events, goes_both, goes_further, goes_named, goes_nowhere, goes_to, nowhere_events, start_goes, starts_at, to_events}
use Rattle.runlaws.proofs.Seats.{nth_next, seated, set_next}
use Rattle.store.specs.declared.members.Members.{Members}
use Rattle.store.specs.declared.scribe.Scribe.{Scribe}
use Rattle.store.specs.declared.seat.Seat.{Seat}
use Rattle.store.specs.declared.steps.Letter.{Letter}
use Rattle.store.specs.declared.store.Store.{Store}
use Rattle.store.specs.Became.{Became, EachBecame}
use Rattle.store.specs.Continuing.{IsContinued, IsKeptOn, reading_in}
use Rattle.store.specs.Going.{AreClean, AreToldIn, GoesOn, IsIn, IsRunOf, ToldIn}
use Rattle.node.specs.declared.node.Node.{Node}
use Rattle.store.specs.Journals.{IsSpent}
use Rattle.store.specs.Lines.{and_then, lines_in, waiting}
use Rattle.store.specs.Nodes.{IsNodeOf, Rests as AreRests}
use Rattle.store.specs.Recording.{AreRecorded, HasInShort, IsStartOrStop, IsTrue, NobodySays, RecordAll, Records, last_reading}
use Rattle.store.specs.Seats.{HasMember, IsClean}
use Rattle.store.specs.Noting.{AreWritten}
use Rattle.store.specs.Opening.{AreFound, AreLaid, AreMembers, AreOpened, Begins, Files, HasAsHere, Starts, longest_of, risen, starts_of}
use Rattle.store.specs.Tales.{Told, tale_of}
use Rattle.store.proofs.Continuing.{continued_both, continued_reading}
use Rattle.store.proofs.Lines.{lines_then}
use Rattle.store.proofs.Noting.{idle_written, written_both}
use Rattle.store.proofs.Recording.{all_left, all_more, all_right, nobody_less, record_both, recorded_both, recorded_idle, silent_records, silent_true}
use Rattle.store.proofs.Going.{lines_after, told_both}
use Rattle.store.proofs.Stepping.{at_some, member_up, up_there}
use Rattle.store.proofs.Storing.{idle_run, short_same}

-- what stands in a list with one more at its end
pub pushed : {A : Type 0} (xs : List A) (y z : A) (i : ℕ) → slice_get (xs ++ y ∷ []) i ≡ Some z → (slice_get xs i ≡ Some z) ⊎ ((i ≡ length xs) × (z ≡ y))
pushed [] y z zero e = inr (refl, sym (same_Some y z e))
pushed [] y z (suc i) e = absurd (cc e)
pushed (x ∷ xs) y z zero e = inl e
pushed (x ∷ xs) y z (suc i) e = elim (pushed xs y z i e) [
  | inl h ↦ inl h
  | inr h ↦ inr (ap suc h.0, h.1)
]

-- the element behind a front, and another one for it
nth_behind : {A : Type 0} (front xs : List A) (x : A) → nth (front ++ x ∷ xs) (length front + 1) ≡ Some x
nth_behind front xs x = nth_next (front ++ x ∷ xs) (length front + 1) (length front) refl ∙ ap (slice_get (front ++ x ∷ xs)) (let e : length front ≡ length front + 0 = omega arith in e) ∙ further front (x ∷ xs) 0

set_behind : {A : Type 0} (front xs : List A) (x y : A) → with_nth (front ++ x ∷ xs) (length front + 1) y ≡ front ++ y ∷ xs
set_behind {A = A} front xs x y = sym (set_next (front ++ x ∷ xs) (length front + 1) (length front) y refl) ∙ go front
  where
    go : (zs : List A) → slice_set (zs ++ x ∷ xs) (length zs) y ≡ zs ++ y ∷ xs
    go [] = refl
    go (z ∷ zs) = ap (λ (l : List A). z ∷ l) (go zs)

-- what holds of all holds of the one that stands there
all_of : {A : Type 0} (P : A → Type 0) (xs : List A) (i : ℕ) (x : A) → slice_get xs i ≡ Some x → All P xs → P x
all_of P [] i x e all = absurd (cc e)
all_of P (y ∷ ys) zero x e all = subst P (same_Some y x e) (All-head P y ys all)
all_of P (y ∷ ys) (suc i) x e all = all_of P ys i x e (All-tail P y ys all)

-- what holds of each that stands there holds of all
all_by : {A : Type 0} (P : A → Type 0) (xs : List A) → ((i : ℕ) (x : A) → slice_get xs i ≡ Some x → P x) → All P xs
all_by P [] each = All-nil P
all_by P (x ∷ xs) each = All-cons P x xs (each 0 x refl) (all_by P xs (λ i y there. each (suc i) y there))

-- where one of a list became another one
pub on_became : {A B E : Type 0} (r : Result B E) (turn : A → A → Type 0) (old : List A) (at : ℕ) (before after : A) → slice_get old at ≡ Some before → OnOk r (turn before after) → OnOk r (Became turn at old (slice_set old at after))
on_became (Ok x) turn old at before after there turned = record { before = before; after = after; there = there; now = refl; turned = turned }
on_became (Err e) turn old at before after there turned = tt

-- ---- a member that was started is up

-- if there is such a member, it is up
abbrev IsUpAt : World → ℕ → Type 0
IsUpAt w m = (x : model.Node) → nth w.nodes m ≡ Some x → x.up ≡ true

start_keeps : (w : World) (k m : ℕ) → IsUpAt w m → IsUpAt (starts w k (nth w.nodes k)) m
start_keeps w k m up = go (nth w.nodes k)
  where
    at : (z : model.Node) (b : Bool) → IsUpAt (if b then w else with_node w k (started z) []) m
    at z true = up
    at z false = λ x there. get_with (λ (j : ℕ) (y : model.Node). j ≡ m → y.up ≡ true) w.nodes k (started z) (λ e. refl) (λ j y apart p e. up y (ap (nth w.nodes) (sym e) ∙ p)) m x there refl

    go : (o : Option model.Node) → IsUpAt (starts w k o) m
    go None = up
    go (Some z) = at z z.up

start_makes : (w : World) (m : ℕ) → IsUpAt (starts w m (nth w.nodes m)) m
start_makes w m = go (nth w.nodes m) refl
  where
    at : (z : model.Node) (b : Bool) → nth w.nodes m ≡ Some z → z.up ≡ b → IsUpAt (if b then w else with_node w m (started z) []) m
    at z true there up = λ x p. let same : x ≡ z = cc (there, p) in ap (λ (y : model.Node). y.up) same ∙ up
    at z false there up = λ x p. get_with (λ (j : ℕ) (y : model.Node). j ≡ m → y.up ≡ true) w.nodes m (started z) (λ e. refl) (λ j y apart q e. absurd (apart e)) m x p refl

    go : (o : Option model.Node) → nth w.nodes m ≡ o → IsUpAt (starts w m o) m
    go None none = λ x p. absurd (cc (none, p))
    go (Some z) there = at z z.up there refl

-- ---- lines that record events, one after another

module _ {K J I : Type 0} {an : _} {g : _} {s : _} {d : _} where
  -- the start of the member of this seat, if it is up
  abbrev start_of : Seat K J I an g s d → List Event
  start_of seat = if is_none seat.node then [] else (Start seat.member ∷ [])

  -- starts start members
  pub starts_idle : (seats : List (Seat K J I an g s d)) → All IsStartOrStop (starts_of seats)
  starts_idle [] = All-nil IsStartOrStop
  starts_idle (seat ∷ seats) = go (is_none seat.node) (starts_idle seats)
    where
      go : (none : Bool) → All IsStartOrStop (starts_of seats) → All IsStartOrStop ((if none then [] else (Start seat.member ∷ [])) ++ starts_of seats)
      go true rest = rest
      go false rest = All-cons IsStartOrStop (Start seat.member) (starts_of seats) (seat.member, inl refl) rest

  -- a member that has in one world stored what it has stored here has it in each with the same stored
  here_too : (honest : K → Type 0) (w v : World) → durable v ≡ durable w → (seat : Seat K J I an g s d) → HasAsHere honest w seat → HasAsHere honest v seat
  here_too honest w v same seat has = λ node is. let h = has node is in (h.0, h.1, short_same w v seat.member (summary_of (durable_of (member_of node))) same h.2)

module _ {K J I : Type 0} {an : _} {g : _} {s : _} {d : _} (contents : J → Option (List ℕ)) (honest : K → Type 0) where
  pub files_silent : (t u : Option (Scribe J)) (seats : List (Seat K J I an g s d)) → seats ≡ [] → IsKeptOn contents t u → Files contents honest t u seats
  files_silent t u seats nobody (lines, silent, on) = (
    lines,
    on,
    λ language n w has. subst (λ (xs : List (Seat K J I an g s d)). RecordAll language n w (reading_in t) (lines_in lines) (starts_of xs)) (sym nobody) (silent_records language n w (reading_in t) (lines_in lines) silent),
    silent_true NobodySays (lines_in lines) silent,
  )

  pub files_both : (t u v : Option (Scribe J)) (a b : List (Seat K J I an g s d)) → Files contents honest t u a → Files contents honest u v b → Files contents honest t v (a ++ b)
  files_both t u v a b (one, first, x, none) (two, second, y, neither) = (
    and_then one two,
    continued_both contents t u v one two first second,
    λ language n w has.
        let before : All (HasAsHere honest w) a = all_left (HasAsHere honest w) a b has in
        let later : World = run language n w (starts_of a) in
        let behind : All (HasAsHere honest later) b = All-weaker (HasAsHere honest w) (HasAsHere honest later) (here_too honest w later (idle_run language n (starts_of a) (starts_idle a) w)) b (all_right (HasAsHere honest w) a b has) in
        let then_those : RecordAll language n later (last_reading (reading_in t) (lines_in one)) (lines_in two) (starts_of b) =
        subst (λ (r : Option ℤ). RecordAll language n later r (lines_in two) (starts_of b)) (continued_reading contents t u one first) (y language n later behind) in
        let all : RecordAll language n w (reading_in t) (lines_in one ++ lines_in two) (starts_of a ++ starts_of b) =
        record_both language n w (reading_in t) (lines_in one) (lines_in two) (starts_of a) (starts_of b) (x language n w before) then_those in
        subst (λ (lines : List Line). RecordAll language n w (reading_in t) lines (starts_of (a ++ b))) (sym (lines_then one two))
        (subst (RecordAll language n w (reading_in t) (lines_in one ++ lines_in two)) (sym (flat_map-append start_of a b)) all),
    subst (All (IsTrue NobodySays)) (sym (lines_then one two)) (All-append (IsTrue NobodySays) (lines_in one) (lines_in two) none neither),
  )

  pub files_on : (t u v : Option (Scribe J)) (seats : List (Seat K J I an g s d)) → Files contents honest t u seats → IsKeptOn contents u v → Files contents honest t v seats
  files_on t u v seats one on = subst (Files contents honest t v) (append-nil seats) (files_both t u v seats [] one (files_silent u v [] refl on))

-- ---- worlds where these messages were sent

abbrev world_with : List Message → List model.Node → World
world_with sent nodes = record { nodes = nodes; sent = sent }

-- these events lead from these members to those
record By_these (language : Language) (n : ℕ) (sent : List Message) (events : List Event) (old new : List model.Node) : Type 0 where
  goes : Goes language n (world_with sent old) (world_with sent new)
  events_are : goes.events ≡ events

by_both : (language : Language) (n : ℕ) (sent : List Message) (e f : List Event) (a b c : List model.Node) → By_these language n sent e a b → By_these language n sent f b c → By_these language n sent (e ++ f) a c
by_both language n sent e f a b c one two = record {
  goes = goes_further language n (world_with sent a) (world_with sent b) (world_with sent c) one.goes two.goes;
  events_are =
      further_events language n (world_with sent a) (world_with sent b) (world_with sent c) one.goes two.goes
      ∙ ap (λ (es : List Event). es ++ two.goes.events) one.events_are
      ∙ ap (λ (es : List Event). e ++ es) two.events_are;
}

-- members that were found are down
are_down : {I : Type 0} (holds : I → Durable → Type 0) (images : List (Option I)) (found : List model.Node) → AreFound holds images found → (i : ℕ) (x : model.Node) → slice_get found i ≡ Some x → x.up ≡ false
are_down {I = I} holds images found F i x q =
    let short = get_short found i x q in
    let all = F.all in
    let image = get_there images i (omega (arith, short, all)) in
    go image.0 (F.each (suc i) image.0 x image.1 q)
  where
    go : (o : Option I) → MatchOption o (x.up ≡ false) (λ i. AreRests (holds i) x) → x.up ≡ false
    go None down = down
    go (Some image) rests = rests.0

module _ {K J I : Type 0} {an : _} {g : _} {s : _} {d : _} where
  pub laid_none : (told : Told) (seats : List (Seat K J I an g s d)) → seats ≡ [] → AreLaid {I = I} told [] seats
  laid_none told seats is = record { all = ap length is; each = λ i seat image p q. absurd (cc q) }

  -- one seat more
  pub laid_more : (told : Told) (images : List (Option I)) (seats : List (Seat K J I an g s d)) (image : Option I) (seat : Seat K J I an g s d) → AreLaid told images seats → seat.member ≡ length images + 1 → seat.node ≡ None → seat.image ≡ image → seat.tale ≡ tale_of told (length images) → AreLaid told (images ++ image ∷ []) (seats ++ seat ∷ [])
  laid_more told images seats image seat L me none is tale = record {
    all = length-append seats (seat ∷ []) ∙ ap (λ (n : ℕ). n + 1) L.all ∙ sym (length-append images (image ∷ []));
    each = λ i one found p q. elim (pushed seats seat one i p) [
      | inl a ↦ elim (pushed images image found i q) [
        | inl b ↦ L.each i one found a b
        | inr b ↦ let w = slice_get_within seats i one a in let all = L.all in let e = b.0 in absurd (omega (arith, w, all, e))
      ]
      | inr a ↦ elim (pushed images image found i q) [
        | inl b ↦ let w = slice_get_within images i found b in let all = L.all in let e = a.0 in absurd (omega (arith, w, all, e))
        | inr b ↦ (ap (λ (t : Seat K J I an g s d). t.member) a.1 ∙ me ∙ ap (λ (n : ℕ). n + 1) (sym b.0), ap (λ (t : Seat K J I an g s d). t.node) a.1 ∙ none, ap (λ (t : Seat K J I an g s d). t.image) a.1 ∙ is ∙ sym b.1, ap (λ (t : Seat K J I an g s d). t.tale) a.1 ∙ tale ∙ ap (tale_of told) (sym b.0))
      ]
    ];
  }

  -- ---- members that are started one after the other

  -- what becomes of the members of these seats
  abbrev all_risen : List (Seat K J I an g s d) → List model.Node → List model.Node
  all_risen [] xs = xs
  all_risen (seat ∷ seats) [] = []
  all_risen (seat ∷ seats) (x ∷ xs) = risen seat x ∷ all_risen seats xs

  risen_count : (seats : List (Seat K J I an g s d)) (xs : List model.Node) → length xs ≡ length seats → length (all_risen seats xs) ≡ length seats
  risen_count [] xs all = all
  risen_count (seat ∷ seats) [] all = all
  risen_count (seat ∷ seats) (x ∷ xs) all = ap suc (risen_count seats xs (omega (arith, all)))

  risen_at : (seats : List (Seat K J I an g s d)) (xs : List model.Node) (i : ℕ) (seat : Seat K J I an g s d) (y : model.Node) → slice_get seats i ≡ Some seat → slice_get (all_risen seats xs) i ≡ Some y → (x : model.Node) × (slice_get xs i ≡ Some x) × (y ≡ risen seat x)
  risen_at [] xs i seat y p q = absurd (cc p)
  risen_at (first ∷ seats) [] i seat y p q = absurd (cc q)
  risen_at (first ∷ seats) (x ∷ xs) zero seat y p q = (x, refl, sym (same_Some (risen first x) y q) ∙ ap (λ (t : Seat K J I an g s d). risen t x) (same_Some first seat p))
  risen_at (first ∷ seats) (x ∷ xs) (suc i) seat y p q = risen_at seats xs i seat y p q

  module _ (language : Language) (n : ℕ) (sent : List Message) where
    -- the one behind those of a front
    start_behind : (front : List model.Node) (seat : Seat K J I an g s d) (x : model.Node) (xs : List model.Node) → seat.member ≡ length front + 1 → x.up ≡ false → By_these language n sent (start_of seat) (front ++ x ∷ xs) (front ++ risen seat x ∷ xs)
    start_behind front seat x xs me down = go seat.node refl
      where
        go : (o : Option (Node K I g s)) → seat.node ≡ o → By_these language n sent (start_of seat) (front ++ x ∷ xs) (front ++ risen seat x ∷ xs)
        go None is =
            let old = world_with sent (front ++ x ∷ xs) in
            let new = world_with sent (front ++ risen seat x ∷ xs) in
            let same : old ≡ new = ap (λ (o : Option (Node K I g s)). world_with sent (front ++ (if is_none o then x else started x) ∷ xs)) (sym is) in
            record {
              goes = goes_to language n old old new same (goes_nowhere language n old);
              events_are = to_events language n old old new same (goes_nowhere language n old) ∙ nowhere_events language n old ∙ ap (λ (o : Option (Node K I g s)). if is_none o then [] else (Start seat.member ∷ [])) (sym is);
            }
        go (Some node) is =
            let old = world_with sent (front ++ x ∷ xs) in
            let new = world_with sent (front ++ risen seat x ∷ xs) in
            let m = seat.member in
            let at : nth old.nodes m ≡ Some x = ap (nth old.nodes) me ∙ nth_behind front xs x in
            let nodes : with_nth old.nodes m (started x) ≡ front ++ risen seat x ∷ xs = ap (λ (k : ℕ). with_nth old.nodes k (started x)) me ∙ set_behind front xs x (started x) ∙ ap (λ (o : Option (Node K I g s)). front ++ (if is_none o then x else started x) ∷ xs) (sym is) in
            let same : starts old m (nth old.nodes m) ≡ new = starts_at old m x at down ∙ ap (λ (sent' : List Message). let u : World = record { nodes = with_nth old.nodes m (started x); sent = sent' } in u) (append-nil sent) ∙ ap (world_with sent) nodes in
            let by = start_goes language n old m in
            record {
              goes = goes_to language n old (starts old m (nth old.nodes m)) new same by.goes;
              events_are = to_events language n old (starts old m (nth old.nodes m)) new same by.goes ∙ by.events_are ∙ ap (λ (o : Option (Node K I g s)). if is_none o then [] else (Start m ∷ [])) (sym is);
            }

    -- all of them
    start_all : (front : List model.Node) (seats : List (Seat K J I an g s d)) (xs : List model.Node) → length xs ≡ length seats → ((i : ℕ) (seat : Seat K J I an g s d) → slice_get seats i ≡ Some seat → seat.member ≡ length front + i + 1) →
        ((i : ℕ) (x : model.Node) → slice_get xs i ≡ Some x → x.up ≡ false) → By_these language n sent (starts_of seats) (front ++ xs) (front ++ all_risen seats xs)
    start_all front [] xs all me down = record { goes = goes_nowhere language n (world_with sent (front ++ xs)); events_are = nowhere_events language n (world_with sent (front ++ xs)) }
    start_all front (seat ∷ seats) [] all me down = absurd (omega (arith, all))
    start_all front (seat ∷ seats) (x ∷ xs) all me down =
        let y = risen seat x in
        let here = me 0 seat refl in
        let one = start_behind front seat x xs (omega (arith, here)) (down 0 x refl) in
        let longer = length-append front (y ∷ []) in
        let rest = start_all (front ++ y ∷ []) seats xs (omega (arith, all)) (λ i t p. let next = me (suc i) t p in omega (arith, next, longer)) (λ i z p. down (suc i) z p) in
        let T : List model.Node → List model.Node → Type 0 = λ a b. By_these language n sent (starts_of seats) a b in
        let more : T (front ++ y ∷ xs) (front ++ y ∷ all_risen seats xs) = subst (λ (a : List model.Node). T a (front ++ y ∷ all_risen seats xs)) (append_assoc front (y ∷ []) xs) (subst (T ((front ++ y ∷ []) ++ xs)) (append_assoc front (y ∷ []) (all_risen seats xs)) rest) in
        by_both language n sent (start_of seat) (starts_of seats) (front ++ x ∷ xs) (front ++ y ∷ xs) (front ++ y ∷ all_risen seats xs) one more

  -- ---- lines that a journal begins with

  -- what a seat says of its member that is up
  abbrev Tells : (honest : K → Type 0) → Seat K J I an g s d → Line → Type 0
  Tells honest seat line = ForSome seat.node (λ node. node.is_up ≡ true → honest node.keeper → line ≡ Life seat.member (summary_of (durable_of (member_of node))))

  -- what a member begins it with records its start
  head_records : (honest : K → Type 0) (language : Language) (n : ℕ) (w : World) (seat : Seat K J I an g s d) (line : Line) (reading : Option ℤ) → (seat.node ≡ None → line ≡ Rests seat.member seat.tale.stored) → Tells honest seat line → HasAsHere honest w seat →
      RecordAll language n w reading (line ∷ []) (starts_of (seat ∷ []))
  head_records honest language n w seat line reading down up has = (start_of seat, [], go seat.node refl, refl, refl)
    where
      go : (o : Option (Node K I g s)) → seat.node ≡ o → Records w reading line (start_of seat)
      go None is = subst (λ (l : Line). Records w reading l (start_of seat)) (sym (down is)) (ap (λ (o : Option (Node K I g s)). if is_none o then [] else (Start seat.member ∷ [])) is)
      go (Some node) is =
          let h = has node is in
          subst (λ (l : Line). Records w reading l (start_of seat)) (sym (up node is h.0 h.1)) (ap (λ (o : Option (Node K I g s)). if is_none o then [] else (Start seat.member ∷ [])) is, h.2)

  -- and has no outcome
  head_true : (seat : Seat K J I an g s d) (line : Line) → (seat.node ≡ None → line ≡ Rests seat.member seat.tale.stored) → ForSome seat.node (λ node. (stored : Summary) × (line ≡ Life seat.member stored)) → IsTrue NobodySays line
  head_true seat line down life = go seat.node refl
    where
      go : (o : Option (Node K I g s)) → seat.node ≡ o → IsTrue NobodySays line
      go None is = subst (IsTrue NobodySays) (sym (down is)) tt
      go (Some node) is = let l = life node is in subst (IsTrue NobodySays) (sym l.1) tt

  -- the first of these seats, and the next one
  pub next_seats : (seats : List (Seat K J I an g s d)) (at : ℕ) → take (at + 1) seats ≡ take at seats ++ take 1 (drop at seats)
  next_seats seats at = take-add at 1 seats

  -- the longest log of some members, and then of more
  pub longest_both : (entries : ℕ) (a b : List (Seat K J I an g s d)) → longest_of entries (a ++ b) ≡ longest_of (longest_of entries a) b
  longest_both entries [] b = refl
  longest_both entries (seat ∷ a) b = longest_both (max entries (length seat.chain.links.items)) a b

  -- the seat that stands there
  pub one_there : (seats : List (Seat K J I an g s d)) (at : ℕ) (seat : Seat K J I an g s d) → slice_get seats at ≡ Some seat → take 1 (drop at seats) ≡ seat ∷ []
  one_there [] at seat p = absurd (cc p)
  one_there (first ∷ seats) zero seat p = ap (λ (t : Seat K J I an g s d). t ∷ []) (same_Some first seat p)
  one_there (first ∷ seats) (suc at) seat p = one_there seats at seat p

  -- none stands there
  pub none_there : (seats : List (Seat K J I an g s d)) (at : ℕ) → length seats ≤ at → take 1 (drop at seats) ≡ []
  none_there [] zero past = refl
  none_there [] (suc at) past = refl
  none_there (first ∷ seats) zero past = absurd (omega (arith, past))
  none_there (first ∷ seats) (suc at) past = none_there seats at (omega (arith, past))

  pub head_files : (contents : J → Option (List ℕ)) (honest : K → Type 0) (seats : List (Seat K J I an g s d)) (at : ℕ) (seat : Seat K J I an g s d) (old new : Option (Scribe J)) (line : Line) → slice_get seats at ≡ Some seat → (seat.node ≡ None → line ≡ Rests seat.member seat.tale.stored) →
      ForSome seat.node (λ node. (stored : Summary) × (line ≡ Life seat.member stored)) → Tells honest seat line → IsContinued contents old new (waiting (line ∷ [])) → Files contents honest old new (take 1 (drop at seats))
  head_files contents honest seats at seat old new line there down life up on = (
    waiting (line ∷ []),
    on,
    λ language n w has.
        let R : List (Seat K J I an g s d) → Type 0 = λ xs. All (HasAsHere honest w) xs → RecordAll language n w (reading_in old) (line ∷ []) (starts_of xs) in
        subst R (sym (one_there seats at seat there)) (λ h. head_records honest language n w seat line (reading_in old) down up (All-head (HasAsHere honest w) seat [] h)) has,
    All-cons (IsTrue NobodySays) line [] (head_true seat line down life) (All-nil (IsTrue NobodySays)),
  )

  -- ---- members that were started are up

  module _ (language : Language) (n : ℕ) where
    starts_keep : (seats : List (Seat K J I an g s d)) (w : World) (m : ℕ) → IsUpAt w m → IsUpAt (run language n w (starts_of seats)) m
    starts_keep [] w m up = up
    starts_keep (seat ∷ seats) w m up = go (is_none seat.node) (λ v there. starts_keep seats v m there)
      where
        go : (none : Bool) → ((v : World) → IsUpAt v m → IsUpAt (run language n v (starts_of seats)) m) → IsUpAt (run language n w ((if none then [] else (Start seat.member ∷ [])) ++ starts_of seats)) m
        go true later = later w up
        go false later = later (starts w seat.member (nth w.nodes seat.member)) (start_keeps w seat.member m up)

    starts_make : (seats : List (Seat K J I an g s d)) (w : World) (i : ℕ) (seat : Seat K J I an g s d) (node : Node K I g s) → slice_get seats i ≡ Some seat → seat.node ≡ Some node → IsUpAt (run language n w (starts_of seats)) seat.member
    starts_make [] w i seat node there is = absurd (cc there)
    starts_make (first ∷ seats) w zero seat node there is =
        let same : first ≡ seat = same_Some first seat there in
        let start : start_of first ≡ Start seat.member ∷ [] = ap start_of same ∙ ap (λ (o : Option (Node K I g s)). if is_none o then [] else (Start seat.member ∷ [])) is in
        subst (λ (es : List Event). IsUpAt (run language n w (es ++ starts_of seats)) seat.member) (sym start)
        (starts_keep seats (starts w seat.member (nth w.nodes seat.member)) seat.member (start_makes w seat.member))
    starts_make (first ∷ seats) w (suc i) seat node there is =
        subst (λ (v : World). IsUpAt v seat.member) (sym (run_append language n (start_of first) (starts_of seats) w)) (starts_make seats (run language n w (start_of first)) i seat node there is)

  -- ---- a store of which only the journal and what is noted become others

  pub only_first : (old t : Store K J I an g s d) (noted : ℕ) → t ≡ old → record t { noted = noted } ≡ record old { scribe = t.scribe; noted = noted }
  only_first old t noted same = ap (λ (x : Store K J I an g s d). record x { noted = noted }) same ∙ ap (λ (x : Option (Scribe J)). record old { scribe = x; noted = noted }) (sym (ap (λ (x : Store K J I an g s d). x.scribe) same))

  pub only_then : (old mid new : Store K J I an g s d) → mid ≡ record old { scribe = mid.scribe; noted = mid.noted } → new ≡ record mid { scribe = new.scribe } → new ≡ record old { scribe = new.scribe; noted = new.noted }
  only_then old mid new one two =
      two
      ∙ ap (λ (x : Store K J I an g s d). record x { scribe = new.scribe }) one
      ∙ ap (λ (n : ℕ). record old { scribe = new.scribe; noted = n }) (sym (ap (λ (x : Store K J I an g s d). x.noted) two))

  -- nothing more is noted where the journal alone becomes another
  pub noted_by : (old new : Store K J I an g s d) → new ≡ record old { scribe = new.scribe } → new.noted ≡ old.noted
  noted_by old new same = ap (λ (t : Store K J I an g s d). t.noted) same

  pub noted_again : (old mid new : Store K J I an g s d) (noted : ℕ) → mid ≡ record old { noted = mid.noted } → new ≡ record mid { noted = noted } → new ≡ record old { noted = new.noted }
  noted_again old mid new noted one two =
      two
      ∙ ap (λ (x : Store K J I an g s d). record x { noted = noted }) one
      ∙ ap (λ (n : ℕ). record old { noted = n }) (sym (ap (λ (x : Store K J I an g s d). x.noted) two))

  pub only_both : (old mid new : Store K J I an g s d) → mid ≡ record old { scribe = mid.scribe; noted = mid.noted } → new ≡ record mid { scribe = new.scribe; noted = new.noted } → new ≡ record old { scribe = new.scribe; noted = new.noted }
  only_both old mid new one two = two ∙ ap (λ (x : Store K J I an g s d). record x { scribe = new.scribe; noted = new.noted }) one

module _ {K J I : Type 0} {an : _} {g : _} {s : _} {d : _} (honest : K → Type 0) (held : K → Durable → Type 0) (holds : I → Durable → Type 0) where
  -- ---- seats whose members are not started yet

  at_rest : (tables : Tables) (n m : ℕ) (seat : Seat K J I an g s d) (image : Option I) (x : model.Node) → seat.member ≡ m → seat.node ≡ None → seat.image ≡ image → MatchOption image (x.up ≡ false) (λ i. AreRests (holds i) x) → HasMember held holds tables n m seat x
  at_rest tables n m seat image x me none is rests =
      let there : MatchOption seat.image (x.up ≡ false) (λ i. AreRests (holds i) x) = subst (λ (o : Option I). MatchOption o (x.up ≡ false) (λ i. AreRests (holds i) x)) (sym is) rests in
      (me, subst (λ (o : Option (Node K I g s)). MatchOption o (MatchOption seat.image (x.up ≡ false) (λ i. AreRests (holds i) x)) (λ node. IsNodeOf held tables n m node x)) (sym none) there)

  laid : (told : Told) (tables : Tables) (n : ℕ) (images : List (Option I)) (seats : List (Seat K J I an g s d)) (found : List model.Node) → AreLaid told images seats → AreFound holds images found → AreSeated (λ m seat x. HasMember held holds tables n m seat x) seats found
  laid told tables n images seats found L F = record { all = F.all ∙ sym L.all; each = go }
    where
      go : (m : ℕ) (seat : Seat K J I an g s d) (x : model.Node) → nth seats m ≡ Some seat → nth found m ≡ Some x → HasMember held holds tables n m seat x
      go zero seat x p q = absurd (cc p)
      go (suc i) seat x p q =
          let short = get_short seats i seat p in
          let all = L.all in
          let image = get_there images i (omega (arith, short, all)) in
          let l = L.each i seat image.0 p image.1 in
          let me : seat.member ≡ suc i = l.0 ∙ add-one i in
          at_rest tables n (suc i) seat image.0 x me l.1 l.2 (F.each (suc i) image.0 x image.1 q)

  -- ---- a seat whose member was started

  -- a member that stays at its seat without a node
  pub stays_missing : (tables : Tables) (n : ℕ) (seat : Seat K J I an g s d) → seat.node ≡ None → Starts honest held holds tables n seat seat
  stays_missing tables n seat none = λ neat down x has. subst (HasMember held holds tables n seat.member seat) (ap (λ (o : Option (Node K I g s)). if is_none o then x else started x) (sym none)) has

  -- the same, where tables and number are said in other words
  pub starts_named : {A E : Type 0} (r : Result A E) (tables named : Tables) (n k : ℕ) (before after : Seat K J I an g s d) → named ≡ tables → k ≡ n → OnOk r (Starts honest held holds named k before after) → OnOk r (Starts honest held holds tables n before after)
  starts_named r tables named n k before after p q starts =
      subst (λ (t : Tables). OnOk r (Starts honest held holds t n before after)) p (subst (λ (c : ℕ). OnOk r (Starts honest held holds named c before after)) q starts)

  -- ---- the members of a store that is opened

  -- events that start members from these databases
  abbrev HasStarted : Tables → ℕ → List model.Node → List (Seat K J I an g s d) → Type 0
  HasStarted tables n found seats = (v : World) × (goes : Goes (language_of tables) n (opened found) v) × (goes.events ≡ starts_of seats) × (v.sent ≡ []) × AreMembers held holds tables n seats v

  pub are_opened : (told : Told) (tables : Tables) (images : List (Option I)) (laid_down new : List (Seat K J I an g s d)) → AreLaid told images laid_down → EachBecame (Starts honest held holds tables (length laid_down)) laid_down new →
      (All (IsClean honest holds) new → (found : List model.Node) → AreFound holds images found → HasStarted tables (length images) found new)
  are_opened told tables images laid_down new L E k found F = subst (λ (c : ℕ). HasStarted tables c found new) L.all (world, there.goes, there.events_are, refl, sits)
    where
      has_after : (i : ℕ) (seat : Seat K J I an g s d) (x : model.Node) → slice_get new i ≡ Some seat → slice_get found i ≡ Some x → HasMember held holds tables (length laid_down) (suc i) seat (risen seat x)
      has_after i seat x p q =
          let short = get_short found i x q in
          let images_all = F.all in
          let laid_all = L.all in
          let before = get_there laid_down i (omega (arith, short, images_all, laid_all)) in
          let image = get_there images i (omega (arith, short, images_all)) in
          let old = (laid told tables (length laid_down) images laid_down found L F).each (suc i) before.0 x before.1 q in
          let none = (L.each i before.0 image.0 before.1 image.1).1 in
          let mine = subst (λ (m : ℕ). HasMember held holds tables (length laid_down) m before.0 x) (sym old.0) old in
          let now = E.each i before.0 seat before.1 p (all_of (IsClean honest holds) new i seat p k) none x mine in
          subst (λ (m : ℕ). HasMember held holds tables (length laid_down) m seat (risen seat x)) old.0 now

      all : length found ≡ length new
      all = F.all ∙ sym L.all ∙ sym E.count

      me : (i : ℕ) (seat : Seat K J I an g s d) → slice_get new i ≡ Some seat → seat.member ≡ 0 + i + 1
      me i seat p =
          let short = get_short new i seat p in
          let count = all in
          let x = get_there found i (omega (arith, short, count)) in
          let is = (has_after i seat x.0 p x.1).0 in
          omega (arith, is)

      there : By_these (language_of tables) (length laid_down) [] (starts_of new) found (all_risen new found)
      there = start_all (language_of tables) (length laid_down) [] [] new found all me (are_down holds images found F)

      world : World
      world = record { nodes = all_risen new found; sent = [] }

      sits : AreMembers held holds tables (length laid_down) new (record { nodes = all_risen new found; sent = [] })
      sits = record { all = risen_count new found all; each = go }
        where
          go : (m : ℕ) (seat : Seat K J I an g s d) (y : model.Node) → nth new m ≡ Some seat → nth (all_risen new found) m ≡ Some y → HasMember held holds tables (length laid_down) m seat y
          go zero seat y p q = absurd (cc p)
          go (suc i) seat y p q =
              let x = risen_at new found i seat y p q in
              subst (HasMember held holds tables (length laid_down) (suc i) seat) (sym x.2) (has_after i seat x.0 p x.1)

  -- ---- a store that begins

  -- the world that it begins in
  begins_in : (members : Members K J I an g s d) (head : Store K J I an g s d) → head.schema ≡ members.schema → head.seats.items ≡ members.seats.items → head.queue.items ≡ [] → head.sent ≡ 0 →
      (w : World) → w.sent ≡ [] → AreMembers held holds members.schema (length members.seats.items) members.seats.items w → IsIn held holds head w
  begins_in members head schema seats queue sent w none has = record {
    seated = subst (λ (t : Tables). AreSeated (λ m seat x. HasMember held holds t (length head.seats.items) m seat x) head.seats.items w.nodes) (sym schema)
        (subst (λ (xs : List (Seat K J I an g s d)). AreSeated (λ m seat x. HasMember held holds members.schema (length xs) m seat x) xs w.nodes) (sym seats) has);
    under_way = λ live. (sent ∙ sym (ap length none), subst (All (λ (l : Letter). nth w.sent l.number ≡ Some l.message)) (sym queue) (All-nil (λ (l : Letter). nth w.sent l.number ≡ Some l.message)));
  }

  -- what the members of these seats that are up have stored there, they had stored where their starts began
  all_here : (tables : Tables) (n : ℕ) (seats : List (Seat K J I an g s d)) (u w : World) → w ≡ run (language_of tables) n u (starts_of seats) → All (IsClean honest holds) seats → AreMembers held holds tables n seats w → All (HasAsHere honest u) seats
  all_here tables n seats u w leads clean A = all_by (HasAsHere honest u) seats each
    where
      language : Language
      language = language_of tables

      same : durable u ≡ durable w
      same = sym (ap durable leads ∙ idle_run (language_of tables) n (starts_of seats) (starts_idle seats) u)

      each : (i : ℕ) (seat : Seat K J I an g s d) → slice_get seats i ≡ Some seat → HasAsHere honest u seat
      each i seat there = λ node is.
          let Has : ℕ → Seat K J I an g s d → model.Node → Type 0 = λ m t x. HasMember held holds tables n m t x in
          let sits = seated Has seats w.nodes A (suc i) seat there in
          let x = sits.0 in
          let me : seat.member ≡ suc i = sits.2.0 in
          let at : nth w.nodes seat.member ≡ Some x = ap (nth w.nodes) me ∙ sits.1 in
          let up : x.up ≡ true = starts_make (language_of tables) n seats u i seat node there is x (subst (λ (v : World). nth v.nodes seat.member ≡ Some x) leads at) in
          let neat : honest node.keeper = at_some seat.node node _ (λ (z : Node K I g s). honest z.keeper) is (all_of (IsClean honest holds) seats i seat there clean) in
          let its : IsNodeOf held tables n (suc i) node x = at_some seat.node node _ (λ (z : Node K I g s). IsNodeOf held tables n (suc i) z x) is sits.2.1 in
          let running : node.is_up ≡ true = up_there (held node.keeper) node.is_up x (member_of node) its.is up in
          let short : HasInShort w seat.member (summary_of (durable_of (member_of node))) = (x, at, ap (λ (z : model.Node). summary_of (durable_of z)) (sym (member_up held node x running its.is))) in
          (running, neat, short_same w u seat.member (summary_of (durable_of (member_of node))) same short)

  -- its first lines were written, and then it went on
  pub begins : (contents : J → Option (List ℕ)) (members : Members K J I an g s d) (scribe : Scribe J) (head last : Store K J I an g s d) → head.schema ≡ members.schema → head.seats.items ≡ members.seats.items → head.queue.items ≡ [] → head.sent ≡ 0 → head.noted ≡ longest_of 0 members.seats.items →
      Files contents honest (Some scribe) head.scribe members.seats.items → GoesOn contents honest held holds head last → Begins contents honest held holds members scribe last
  begins contents members scribe head last schema seats queue sent noted (lines, on, recorded, untold) later = record {
    schema = later.schema ∙ schema;
    count = later.count ∙ ap length seats;
    lines = and_then lines later.lines;
    journal = continued_both contents (Some scribe) head.scribe last.scribe lines later.lines on later.journal;
    clean = λ k. subst (All (IsClean honest holds)) seats (later.clean k);
    went = λ k u w starts are none has.
        let language = language_of members.schema in
        let n = length members.seats.items in
        let went = later.went k w (begins_in members head schema seats queue sent w none has) in
        let named = goes_named language (language_of head.schema) n (length head.seats.items) w went.world (ap language_of schema) (ap length seats) went.goes in
        let here = all_here members.schema n members.seats.items u w (starts.leads ∙ ap (run language n u) are) (subst (All (IsClean honest holds)) seats (later.clean k)) has in
        let first : AreRecorded language n u scribe.reading lines starts.events ⊥ =
        recorded_idle language n u scribe.reading lines starts.events ⊥ (subst (RecordAll language n u scribe.reading (lines_in lines)) (sym are) (recorded language n u here)) (subst (All IsStartOrStop) (sym are) (starts_idle members.seats.items)) in
        let after : AreRecorded language n w (reading_in head.scribe) later.lines went.goes.events (IsSpent last.scribe) =
        subst (λ (k : ℕ). AreRecorded language k w (reading_in head.scribe) later.lines went.goes.events (IsSpent last.scribe)) (ap length seats)
        (subst (λ (t : Tables). AreRecorded (language_of t) (length head.seats.items) w (reading_in head.scribe) later.lines went.goes.events (IsSpent last.scribe)) schema went.events_are) in
        let all = recorded_both language n u w scribe.reading (reading_in head.scribe) lines later.lines starts.events went.goes.events ⊥ (IsSpent last.scribe) starts.leads (continued_reading contents (Some scribe) head.scribe lines on) (λ never. absurd never) (λ never. absurd never) first after in
        let told : AreToldIn went.goes.gave (lines_in (and_then lines later.lines)) = told_both [] went.goes.gave lines later.lines (all_more NobodySays (ToldIn []) (nobody_less (ToldIn [])) (lines_in lines) untold) went.outcomes_are in
        let most = longest_of 0 members.seats.items in
        let begun : AreWritten most starts.gave (lines_in lines) most =
        idle_written language n (lines_in lines) u scribe.reading most starts.events starts.gave (subst (RecordAll language n u scribe.reading (lines_in lines)) (sym are) (recorded language n u here)) untold (subst (All IsStartOrStop) (sym are) (starts_idle members.seats.items)) starts.gives in
        let written : (IsSpent last.scribe → ⊥) → AreWritten most (starts.gave ++ went.goes.gave) (lines_in (and_then lines later.lines)) last.noted =
        λ live. subst (λ (all : List Line). AreWritten most (starts.gave ++ went.goes.gave) all last.noted) (sym (lines_then lines later.lines))
        (written_both most most last.noted starts.gave went.goes.gave (lines_in lines) (lines_in later.lines) begun (subst (λ (n : ℕ). AreWritten n went.goes.gave (lines_in later.lines) last.noted) noted (went.written live))) in (
          went.world,
          named.goes,
          went.is_in,
          subst (λ (es : List Event). AreRecorded language n u scribe.reading (and_then lines later.lines) (starts.events ++ es) (IsSpent last.scribe)) (sym named.events_are) all.0,
          subst (λ (outs : List (List Output)). AreToldIn outs (lines_in (and_then lines later.lines))) (sym named.gave_is) told,
          λ live. subst (λ (outs : List (List Output)). AreWritten most (starts.gave ++ outs) (lines_in (and_then lines later.lines)) last.noted) (sym named.gave_is) (written live),
        );
  }

  -- A store that was begun with members that were opened is a run from what the databases held, and the lines that came to its journal
  -- record that run.
  pub runs_recorded : (contents : J → Option (List ℕ)) (told : Told) (images : List (Option I)) (members : Members K J I an g s d) (scribe : Scribe J) (store : Store K J I an g s d) → AreOpened honest held holds told images members → (B : Begins contents honest held holds members scribe store) → AreClean honest holds store →
      (found : List model.Node) → AreFound holds images found → (w : World) × (goes : Goes (language_of store.schema) (length store.seats.items) (opened found) w) × IsIn held holds store w × AreRecorded (language_of store.schema) (length store.seats.items) (opened found) scribe.reading B.lines goes.events (IsSpent store.scribe) × AreToldIn goes.gave (lines_in B.lines) ×
      ((IsSpent store.scribe → ⊥) → AreWritten (longest_of 0 members.seats.items) goes.gave (lines_in B.lines) store.noted)
  runs_recorded contents told images members scribe store O B k found F =
      let o : HasStarted members.schema (length members.seats.items) found members.seats.items = subst (λ (n : ℕ). HasStarted members.schema n found members.seats.items) (sym O.count) (O.went (B.clean k) found F) in
      let b = B.went k (opened found) o.0 o.1 o.2 o.3 o.4 in
      let language = language_of members.schema in
      let n = length members.seats.items in
      let all = goes_both language language n n (opened found) o.0 b.0 refl refl o.1 b.1 in
      let named = goes_named (language_of store.schema) language (length store.seats.items) n (opened found) b.0 (ap language_of (sym B.schema)) (sym B.count) all.goes in
      let events : named.goes.events ≡ o.1.events ++ b.1.events = named.events_are ∙ all.events_are in
      let gave : named.goes.gave ≡ o.1.gave ++ b.1.gave = named.gave_is ∙ all.gave_is in
      let filed : AreRecorded (language_of store.schema) (length store.seats.items) (opened found) scribe.reading B.lines (o.1.events ++ b.1.events) (IsSpent store.scribe) =
      subst (λ (k : ℕ). AreRecorded (language_of store.schema) k (opened found) scribe.reading B.lines (o.1.events ++ b.1.events) (IsSpent store.scribe)) (sym B.count)
      (subst (λ (t : Tables). AreRecorded (language_of t) n (opened found) scribe.reading B.lines (o.1.events ++ b.1.events) (IsSpent store.scribe)) (sym B.schema) b.3) in (
        b.0,
        named.goes,
        b.2,
        subst (λ (es : List Event). AreRecorded (language_of store.schema) (length store.seats.items) (opened found) scribe.reading B.lines es (IsSpent store.scribe)) (sym events) filed,
        subst (λ (outs : List (List Output)). AreToldIn outs (lines_in B.lines)) (sym gave) (lines_after o.1.gave b.1.gave (lines_in B.lines) b.4),
        λ live. subst (λ (outs : List (List Output)). AreWritten (longest_of 0 members.seats.items) outs (lines_in B.lines) store.noted) (sym gave) (b.5 live),
      )

  pub runs : (contents : J → Option (List ℕ)) (told : Told) (images : List (Option I)) (members : Members K J I an g s d) (scribe : Scribe J) (store : Store K J I an g s d) → AreOpened honest held holds told images members → Begins contents honest held holds members scribe store → AreClean honest holds store →
      (found : List model.Node) → AreFound holds images found → (events : List Event) × IsRunOf held holds found events store
  runs contents told images members scribe store O B k found F =
      let r = runs_recorded contents told images members scribe store O B k found F in
      (r.1.events, subst (λ (u : World). IsIn held holds store u) r.1.leads r.2)
