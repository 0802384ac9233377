-- Answers stay.
use Rattle.std.proofs.Common.{◌≡◌, ◌∙◌, ℕ, zero, suc, ◌<◌, ◌≤◌, nat_le, Bool, true, false, if◌then◌else◌, Option, Some, None, unwrap_or, List, [], ◌∷◌, ◌++◌, length, Ok, refl, sym, ap, subst, arith, append-nil, append_assoc}
use Rattle.std.specs.Prelude.{◌↔◌}
use Rattle.std.proofs.lemmas.Bool.Decides.{nat_tests}
use Rattle.std.proofs.lemmas.List.Elements.{filter_map-append}
use Rattle.model.specs.Lists.{nth}
use Rattle.model.specs.declared.entry.Entry.{Entry}
use Rattle.model.specs.Stamps.{above}
use Rattle.model.specs.Transactions.{Language}
use Rattle.model.specs.Answers.{Query, Select, SystemTime, IsAnswer, as_of, closed_query, read_at}
use Rattle.model.specs.Answers as model
use Rattle.safety.specs.Answers.{HoweverSealed, OneAnswer}
use Rattle.sqlread.specs.Meaning.{select_of}
use Rattle.sqlread.specs.Shapes.{QueryShape}
use Rattle.answer.specs.declared.Answer.{Answer}
use Rattle.answer.specs.Answers.{answer_of}
use Rattle.apply.specs.View.{IsAskedOf}
use Rattle.history.specs.declared.item.Item.{Item}
use Rattle.history.specs.Items.{entry_of, entries_in, closed_in, Rises}
use Rattle.history.proofs.Rising.{later_above, closed_rises}
use Rattle.view.specs.Staying.{IsBegun, AnswersStay, ClosedStays, StaysClosed, LivesAgree, BegunEarlier}

-- ---- what comes later in a list

-- what stands past the first part stands in the second
past : (xs ys : List Entry) (i : ℕ) (e : Entry) → length xs < i → nth (xs ++ ys) i ≡ Some e → (k : ℕ) × (nth ys k ≡ Some e)
past [] ys i e h at = (i, at)
past (x ∷ xs) ys zero e h at = absurd (omega (arith, h))
past (x ∷ xs) ys (suc zero) e h at = absurd (omega (arith, h))
past (x ∷ xs) ys (suc (suc i)) e h at = past xs ys (suc i) e (omega (arith, h)) at

nothing_there : (k : ℕ) (e : Entry) → nth [] k ≡ Some e → ⊥
nothing_there zero e at = cc at
nothing_there (suc k) e at = cc at

over : (time : Option ℕ) (t n : ℕ) → time ≡ Some t → above time ≤ n → t < n
over None t n is h = absurd (cc is)
over (Some u) t n is h = let same : u ≡ t = cc is in omega (arith, same, h)

-- ---- beginnings

entries_join : (xs ys : List Item) → entries_in (xs ++ ys) ≡ entries_in xs ++ entries_in ys
entries_join xs ys = filter_map-append entry_of xs ys

-- of one life
first_begun : (xs ys : List Item) → Rises (xs ++ ys) → IsBegun xs (entries_in (xs ++ ys))
first_begun xs ys h =
    record {
      begins = (entries_in ys, sym (entries_join xs ys));
      later = λ i t e is far at.
          let found = past (entries_in xs) (entries_in ys) i e far (subst (λ (es : List Entry). nth es i ≡ Some e) (entries_join xs ys) at) in
          over (closed_in xs) t e.stamp is (later_above xs ys h found.0 e found.1);
    }

whole_begun : (xs : List Item) → IsBegun xs (entries_in xs)
whole_begun xs =
    record {
      begins = ([], append-nil (entries_in xs));
      later = λ i t e is far at.
          let found = past (entries_in xs) [] i e far (subst (λ (es : List Entry). nth es i ≡ Some e) (sym (append-nil (entries_in xs))) at) in
          absurd (nothing_there found.0 e found.1);
    }

-- what stands within the first part
there : (xs ys : List Entry) (i : ℕ) (e : Entry) → i ≤ length xs → nth (xs ++ ys) i ≡ Some e → nth xs i ≡ Some e
there xs ys zero e h at = absurd (cc at)
there [] ys (suc i) e h at = absurd (omega (arith, h))
there (x ∷ xs) ys (suc zero) e h at = at
there (x ∷ xs) ys (suc (suc i)) e h at = there xs ys (suc i) e (omega (arith, h)) at

-- what was seen earlier
within : (xs ys : List Item) (rest : List Entry) (all : List Entry) → Rises (xs ++ ys) → entries_in (xs ++ ys) ++ rest ≡ all
    → ((i t : ℕ) (e : Entry) → closed_in (xs ++ ys) ≡ Some t → length (entries_in (xs ++ ys)) < i → nth all i ≡ Some e → t < e.stamp)
    → (i t : ℕ) (e : Entry) → closed_in xs ≡ Some t → length (entries_in xs) < i → nth all i ≡ Some e → t < e.stamp
within xs ys rest all h is later i t e closed far at = either_side (nat_le i (length (entries_in (xs ++ ys)))) refl
  where
    in_all : nth (entries_in (xs ++ ys) ++ rest) i ≡ Some e
    in_all = subst (λ (es : List Entry). nth es i ≡ Some e) (sym is) at

    either_side : (b : Bool) → nat_le i (length (entries_in (xs ++ ys))) ≡ b → t < e.stamp
    either_side true low =
        let near : i ≤ length (entries_in (xs ++ ys)) = grind (arith, nat_tests) in
        (first_begun xs ys h).later i t e closed far (there (entries_in (xs ++ ys)) rest i e near in_all)
    either_side false high =
        let beyond : length (entries_in (xs ++ ys)) < i = grind (arith, nat_tests) in
        let more = closed_rises xs ys t h closed in
        let over_more : more.0 < e.stamp = later i more.0 e more.1 beyond at in
        omega (arith, over_more, more.2)

earlier_begun : (xs ys : List Item) (all : List Entry) → Rises (xs ++ ys) → IsBegun (xs ++ ys) all → IsBegun xs all
earlier_begun xs ys all h b =
    record {
      begins = (entries_in ys ++ b.begins.0, sym (append_assoc (entries_in xs) (entries_in ys) b.begins.0) ∙ ap (λ (es : List Entry). es ++ b.begins.0) (sym (entries_join xs ys)) ∙ b.begins.1);
      later = within xs ys b.begins.0 all h b.begins.1 b.later;
    }

pub begun_earlier : BegunEarlier
begun_earlier early late all rises first b =
    earlier_begun early first.0 all (subst Rises (sym first.1) rises) (subst (λ (xs : List Item). IsBegun xs all) (sym first.1) b)

-- ---- answers in the whole list

stays : HoweverSealed → (language : Language) (q : Query) (t : ℕ) (items : List Item) (all : List Entry) (a : model.Answer) → IsBegun items all → closed_in items ≡ Some t → q.time.last ≤ t
    → IsAnswer language q (entries_in items) a ↔ IsAnswer language q all a
stays sealed language q t items all a b is low =
    let rest = b.begins.0 in
    subst (λ (es : List Entry). IsAnswer language q (entries_in items) a ↔ IsAnswer language q es a) b.begins.1
    (sealed language q t (entries_in items) rest a (λ i e far at. b.later i t e is far (subst (λ (es : List Entry). nth es i ≡ Some e) b.begins.1 at)) low)

pub closed_stays : HoweverSealed → ClosedStays
closed_stays sealed language q t early late a rises first is low =
    let ys = first.0 in
    let b : IsBegun early (entries_in late) = subst (λ (xs : List Item). IsBegun early (entries_in xs)) first.1 (first_begun early ys (subst Rises (sym first.1) rises)) in
    stays sealed language q t early (entries_in late) a b is low

-- the question that was asked is the one that its answer names
abbrev asked_at : Select → ℕ → Option SystemTime → Query
asked_at q t time = record { table = q.table; time = unwrap_or time (as_of t); passes = q.passes }

named_at : (q : Select) (time : Option SystemTime) (t last : ℕ) → last ≡ (unwrap_or time (as_of t)).last → asked_at q last time ≡ asked_at q t time
named_at q None t last h = ap (λ (n : ℕ). asked_at q n None) h
named_at q (Some time) t last h = refl

named : (q : Select) (t last : ℕ) → last ≡ (read_at t q).time.last → read_at last q ≡ read_at t q
named q t last h = named_at q q.time t last h

low_if : (q : Select) (t : ℕ) (b : Bool) (r : Query) → nat_le (read_at t q).time.last t ≡ b → (if b then Some (read_at t q) else None) ≡ Some r → (read_at t q).time.last ≤ t
low_if q t true r low h = grind (arith, nat_tests)
low_if q t false r low h = absurd (cc h)

is_low : (q : Select) (time : Option ℕ) (t : ℕ) (r : Query) → time ≡ Some t → closed_query q time ≡ Some r → (read_at t q).time.last ≤ t
is_low q time t r is h = low_if q t (nat_le (read_at t q).time.last t) r refl (subst (λ (u : Option ℕ). closed_query q u ≡ Some r) is h)

-- what was asked in some items, and its answer in the whole list
asked : HoweverSealed → (language : Language) (q : QueryShape) (items : List Item) (all : List Entry) (a : Answer) → IsBegun items all → IsAskedOf language q (entries_in items) (closed_in items) (Ok a)
    → IsAnswer language (read_at (answer_of a).last (select_of q)) all (answer_of a)
asked sealed language q items all a b h =
    let t = h.0 in
    let low : (read_at t (select_of q)).time.last ≤ t = is_low (select_of q) (closed_in items) t (read_at t (select_of q)) h.1 h.2 in
    let same : read_at (answer_of a).last (select_of q) ≡ read_at t (select_of q) = named (select_of q) t (answer_of a).last h.3.last in
    subst (λ (r : Query). IsAnswer language r all (answer_of a)) (sym same) ((stays sealed language (read_at t (select_of q)) t items all (answer_of a) b h.1 low).0 h.3)

pub lives_same : HoweverSealed → OneAnswer → LivesAgree
lives_same sealed one language xs ys all b c q r a d h k same =
    one language (read_at (answer_of d).last (select_of r)) all (answer_of a) (answer_of d)
    (subst (λ (s : Query). IsAnswer language s all (answer_of a)) same (asked sealed language q xs all a b h))
    (asked sealed language r ys all d c k)

pub answers_same : HoweverSealed → OneAnswer → AnswersStay
answers_same sealed one language early late rises first =
    let b : IsBegun early (entries_in late) = subst (λ (xs : List Item). IsBegun early (entries_in xs)) first.1 (first_begun early first.0 (subst Rises (sym first.1) rises)) in
    lives_same sealed one language early late (entries_in late) b (whole_begun late)

-- ---- what is closed stays closed

closed_at : (q : Select) (t : ℕ) (b : Bool) → nat_le (read_at t q).time.last t ≡ b → (read_at t q).time.last ≤ t → (if b then Some (read_at t q) else None) ≡ Some (read_at t q)
closed_at q t true is low = refl
closed_at q t false is low = absurd (grind (arith, nat_tests))

closed_later : (q : Select) (time : SystemTime) (t u : ℕ) (r : Query) → q.time ≡ Some time → t ≤ u → closed_query q (Some t) ≡ Some r → closed_query q (Some u) ≡ Some r
closed_later q time t u r timed up h =
    let low : (read_at t q).time.last ≤ t = is_low q (Some t) t r refl h in
    let same : read_at u q ≡ read_at t q = ap (λ (s : Option SystemTime). record { table = q.table; time = unwrap_or s (as_of u); passes = q.passes }) timed ∙ sym (ap (λ (s : Option SystemTime). record { table = q.table; time = unwrap_or s (as_of t); passes = q.passes }) timed) in
    let last : (read_at u q).time.last ≡ (read_at t q).time.last = ap (λ (s : Query). s.time.last) same in
    closed_at q u (nat_le (read_at u q).time.last u) refl (omega (arith, low, last, up)) ∙ ap Some same ∙ sym (closed_at q t (nat_le (read_at t q).time.last t) refl low) ∙ h

none_closed : (q : Select) (time : Option ℕ) (r : Query) → closed_query q time ≡ Some r → (t : ℕ) × (time ≡ Some t)
none_closed q None r h = absurd (cc h)
none_closed q (Some t) r h = (t, refl)

pub stays_closed : StaysClosed
stays_closed q time r early late rises first timed h =
    let at = none_closed (select_of q) (closed_in early) r h in
    let more = closed_rises early first.0 at.0 (subst Rises (sym first.1) rises) at.1 in
    let up : closed_in late ≡ Some more.0 = ap (λ (xs : List Item). closed_in xs) (sym first.1) ∙ more.1 in
    let closed_there : closed_query (select_of q) (Some more.0) ≡ Some r = closed_later (select_of q) time at.0 more.0 r timed more.2 (subst (λ (u : Option ℕ). closed_query (select_of q) u ≡ Some r) at.1 h) in
    subst (λ (u : Option ℕ). closed_query (select_of q) u ≡ Some r) (sym up) closed_there
