-- Lemmas on rounds, and on lines that follow each other.
use Rattle.std.proofs.Common.{◌≡◌, ◌∙◌, ℕ, zero, suc, ◌+◌, ◌<◌, ◌≤◌, Bool, true, false, List, [], ◌∷◌, ◌++◌, map, take, drop, length, Option, Some, Result, Ok, Err, refl, sym, ap, subst, add-one, arith}
use Rattle.std.specs.Prelude.{slice_get, slice_set, slice_index_or, if◌then◌else◌}
use Rattle.std.proofs.Math.ListN.{drop_of_length-le}
use Rattle.std.proofs.Math.Seq.{drop-cons}
use Rattle.std.proofs.lemmas.List.{length-append, length-set}
use Rattle.model.specs.Lists.{nth}
use Rattle.model.specs.Worlds as model
use Rattle.model.specs.Worlds.{happens}
use Rattle.answertext.specs.Appending.{append-none}
use Rattle.lines.specs.declared.line.Line.{Line}
use Rattle.sqlchecks.specs.Columns.{Tables}
use Rattle.sqlread.specs.Meaning.{language_of}
use Rattle.world.specs.declared.history.World.{World as Whole}
use Rattle.world.specs.Run.{tables_in, members_in}
use Rattle.script.specs.declared.sent.Sent.{Sent}
use Rattle.script.specs.declared.play.Play.{Play}
use Rattle.script.specs.declared.run_fault.RunFault.{RunFault}
use Rattle.script.specs.Mail.{newly_sent, as_delivered, changed_to, is_left, left_from, NoneLeft}
use Rattle.script.specs.Stage.{Stage, Played, nothing, followed, reading_of, is_up, delivered, delivery, delivery_in_round, deliveries, round, rounds, played, played_all}
use Rattle.script.specs.Plays.{stage_of, tables_of, members_of, Plays}
use Rattle.script.proofs.Mailing.{some_same, some_is_not_none, none_append, none_set, none_more}
use Rattle.script.proofs.Playing.{SoFar, so_far_nothing, so_far_more, so_far_fails, so_far_ends, plays_from}

-- ---- lists

take_all : (xs : List Sent) → take (length xs) xs ≡ xs
take_all [] = refl
take_all (x ∷ xs) = ap (λ ys. x ∷ ys) (take_all xs)

take_first : (count : ℕ) (xs ys : List Sent) → count ≤ length xs → take count (xs ++ ys) ≡ take count xs
take_first zero xs ys le = refl
take_first (suc count) [] ys le = absurd (omega (arith, le))
take_first (suc count) (x ∷ xs) ys le = ap (λ zs. x ∷ zs) (take_first count xs ys (omega (arith, le)))

here : (count place : ℕ) (xs : List Sent) (m : Sent) → place < count → slice_get xs place ≡ Some m → drop place (take count xs) ≡ m ∷ drop (suc place) (take count xs)
here count place [] m lt is = absurd (some_is_not_none is)
here zero place (x ∷ xs) m lt is = absurd (omega (arith, lt))
here (suc count) zero (x ∷ xs) m lt is = ap (λ y. y ∷ take count xs) (some_same is)
here (suc count) (suc place) (x ∷ xs) m lt is = here count place xs m (omega (arith, lt)) is

set_there : (xs ys : List Sent) (p : ℕ) (m y : Sent) → slice_get xs p ≡ Some m → slice_get (slice_set xs p y ++ ys) p ≡ Some y
set_there [] ys p m y is = absurd (some_is_not_none is)
set_there (x ∷ xs) ys zero m y is = refl
set_there (x ∷ xs) ys (suc p) m y is = set_there xs ys p m y is

-- what comes later is as it was
later_same : (count p : ℕ) (xs ys : List Sent) (y : Sent) → count ≤ length xs → drop (suc p) (take count (slice_set xs p y ++ ys)) ≡ drop (suc p) (take count xs)
later_same zero p xs ys y le = refl
later_same (suc count) p [] ys y le = absurd (omega (arith, le))
later_same (suc count) zero (x ∷ xs) ys y le = take_first count xs ys (omega (arith, le))
later_same (suc count) (suc p) (x ∷ xs) ys y le = later_same count p xs ys y (omega (arith, le))

-- ---- what is left

left_skips : (k j place : ℕ) (xs : List Sent) → j ≡ k + place → NoneLeft place xs → left_from k xs ≡ left_from j (drop place xs)
left_skips k j zero xs is none = ap (λ i. left_from i xs) (omega (arith, is))
left_skips k j (suc place) [] is none = absurd none
left_skips k j (suc place) (x ∷ xs) is (gone, none) =
    ap (λ b. if b then k ∷ left_from (suc k) xs else left_from (suc k) xs) gone ∙ left_skips (suc k) j place xs (omega (arith, is)) none

none_left : (k : ℕ) (xs : List Sent) → NoneLeft (length xs) xs → left_from k xs ≡ []
none_left k [] none = refl
none_left k (x ∷ xs) (gone, none) = ap (λ b. if b then k ∷ left_from (suc k) xs else left_from (suc k) xs) gone ∙ none_left (suc k) xs none

left_here : (count place : ℕ) (xs : List Sent) (m : Sent) (b : Bool) → place < count → slice_get xs place ≡ Some m → is_left m ≡ b →
    left_from (suc place) (drop place (take count xs)) ≡ (if b then suc place ∷ left_from (suc (suc place)) (drop (suc place) (take count xs)) else left_from (suc (suc place)) (drop (suc place) (take count xs)))
left_here count place xs m b lt at left =
    ap (left_from (suc place)) (here count place xs m lt at)
    ∙ ap (λ c. if c then suc place ∷ left_from (suc (suc place)) (drop (suc place) (take count xs)) else left_from (suc (suc place)) (drop (suc place) (take count xs))) left

-- ---- a delivery in a round

module _ (t : Tables) (n : ℕ) (s : Stage) (i : ℕ) (m : Sent) where
  turn_if : (up : Bool) → slice_get s.sent i ≡ Some m →
      (more : List Sent) × ((if up then delivery t n s (suc i) (Some m) else nothing (delivered s (suc i))).stage.sent ≡ slice_set s.sent i (as_delivered m) ++ more)
  turn_if true at =
      let more = map newly_sent (drop (length s.world.sent) (happens (language_of t) n s.world (model.Deliver (suc i) (reading_of s m.addressee))).sent) in
      (more, ap (λ o. changed_to as_delivered s.sent (suc i) o ++ more) at)
  turn_if false at = ([], ap (changed_to as_delivered s.sent (suc i)) at ∙ sym (append-none (slice_set s.sent i (as_delivered m))))

  -- it counts as delivered, and more may have been sent
  turn_sent : slice_get s.sent i ≡ Some m →
      (more : List Sent) × ((delivery_in_round t n s (suc i) (nth s.sent (suc i))).stage.sent ≡ slice_set s.sent i (as_delivered m) ++ more)
  turn_sent at =
      let P : Option Sent → Type 0 = λ o. (more : List Sent) × ((delivery_in_round t n s (suc i) o).stage.sent ≡ slice_set s.sent i (as_delivered m) ++ more) in
      subst P (sym at) (turn_if (is_up s.world m.addressee) at)

-- ---- rounds

-- so far a round over the first so many messages came to this place
pub record InRound (old : Whole) (now : Play) (p : Played) (count place : ℕ) (before after : Option (List ℕ)) : Type 0 where
  pub so_far : SoFar old now p (deliveries (tables_in old) (members_in old) (left_from (suc place) (drop place (take count now.mail))) (stage_of now)) before after
  pub none : NoneLeft place now.mail
  pub within : count ≤ length now.mail

pub round_begins : (now : Play) (count place : ℕ) (c : Option (List ℕ)) → now.world.is_spent ≡ false → count ≡ length now.mail → NoneLeft place now.mail →
    InRound now.world now (round (tables_of now) (members_of now) (stage_of now)) count place c c
round_begins now count place c live all none =
    let t = tables_of now in
    let n = members_of now in
    let p = round t n (stage_of now) in
    let P : List ℕ → Type 0 = λ ks. SoFar now.world now p (deliveries t n ks (stage_of now)) c c in
    record {
      so_far = subst P (left_skips 1 (suc place) place now.mail (omega arith) none ∙ ap (λ xs. left_from (suc place) (drop place xs)) (sym (ap (λ k. take k now.mail) all ∙ take_all now.mail))) (so_far_nothing now p c live);
      none = none;
      within = omega (arith, all);
    }

module _ (old : Whole) (now : Play) (p : Played) (count place : ℕ) (m : Sent) (c d : Option (List ℕ)) (h : InRound old now p count place c d) (lt : place < count) (at : slice_get now.mail place ≡ Some m) where
  -- a message that is not left is passed by
  pub round_skips : is_left m ≡ false → InRound old now p count (place + 1) c d
  round_skips left =
      let P : List ℕ → Type 0 = λ ks. SoFar old now p (deliveries (tables_in old) (members_in old) ks (stage_of now)) c d in
      record {
        so_far = subst P (left_here count place now.mail m false lt at left ∙ (λ i. left_from (suc (sym (add-one place) i)) (drop (sym (add-one place) i) (take count now.mail)))) h.so_far;
        none = subst (λ k. NoneLeft k now.mail) (sym (add-one place)) (none_more place now.mail m h.none at left);
        within = h.within;
      }

  module _ (left : is_left m ≡ true) where
    abbrev this : Played
    this = delivery_in_round (tables_in old) (members_in old) (stage_of now) (suc place) (nth now.mail (suc place))

    abbrev later : Stage → Played
    later = deliveries (tables_in old) (members_in old) (left_from (suc (suc place)) (drop (suc place) (take count now.mail)))

    -- it is delivered, and then those after it
    then_later : SoFar old now p (followed this later) c d
    then_later =
        let P : List ℕ → Type 0 = λ ks. SoFar old now p (deliveries (tables_in old) (members_in old) ks (stage_of now)) c d in
        subst P (left_here count place now.mail m true lt at left) h.so_far

    module _ (r : Result (Unit {0}) RunFault) (new : Play) (e : Option (List ℕ)) where
      -- said of the group as it was
      said_of_old : Plays now.world r new (delivery_in_round (tables_of now) (members_of now) (stage_of now) (suc place) (nth now.mail (suc place))) d e →
          Plays now.world r new this d e
      said_of_old =
          plays_from now.world now.world r new _ _ d e refl
          (λ i. delivery_in_round (h.so_far.moves.tables i) (h.so_far.moves.members i) (stage_of now) (suc place) (nth now.mail (suc place)))

    pub round_delivers : (new : Play) (e : Option (List ℕ)) → Plays now.world (Ok tt) new (delivery_in_round (tables_of now) (members_of now) (stage_of now) (suc place) (nth now.mail (suc place))) d e →
        InRound old new p count (place + 1) c e
    round_delivers new e plays =
        let t = tables_in old in
        let n = members_in old in
        let done = said_of_old (Ok tt) new e plays in
        let turn = turn_sent t n (stage_of now) place m at in
        let changed = slice_set now.mail place (as_delivered m) in
        let sent : new.mail ≡ changed ++ turn.0 = ap (λ s. s.sent) done.0.stage ∙ turn.1 in
        let same : drop (suc place) (take count new.mail) ≡ drop (suc place) (take count now.mail) =
        ap (λ xs. drop (suc place) (take count xs)) sent ∙ later_same count place now.mail turn.0 (as_delivered m) h.within in
        let P : List ℕ → Type 0 = λ ks. SoFar old new p (deliveries t n ks (stage_of new)) c e in
        record {
          so_far = subst P (ap (left_from (suc (suc place))) (sym same) ∙ (λ i. left_from (suc (sym (add-one place) i)) (drop (sym (add-one place) i) (take count new.mail))))
              (so_far_more old now new p this later c d e then_later done);
          none = subst (λ k. NoneLeft k new.mail) (sym (add-one place)) (subst (NoneLeft (suc place)) (sym sent)
              (none_more place (changed ++ turn.0) (as_delivered m) (none_append place changed turn.0 (none_set place place now.mail (as_delivered m) refl h.none))
              (set_there now.mail turn.0 place m (as_delivered m) at) refl));
          within = omega (arith, h.within, ap length sent ∙ length-append changed turn.0, length-set now.mail place (as_delivered m));
        }

    pub round_fails : (fault : RunFault) (new after : Play) (e : Option (List ℕ)) → Plays now.world (Err fault) new (delivery_in_round (tables_of now) (members_of now) (stage_of now) (suc place) (nth now.mail (suc place))) d e →
        Plays old (Err fault) after p c e
    round_fails fault new after e plays = so_far_fails old now new p this later c d e then_later fault after (said_of_old (Err fault) new e plays)

-- ---- rounds, and lines, one after the other

module _ (t : Tables) (n : ℕ) where
  -- where none is left, rounds bring nothing
  pub rounds_of_none : (r : ℕ) (s : Stage) → left_from 1 s.sent ≡ [] → rounds t n r s ≡ nothing s
  rounds_of_none zero s none = refl
  rounds_of_none (suc r) s none = ap (λ ks. followed (deliveries t n ks s) (rounds t n r)) none ∙ rounds_of_none r s none

module _ (old : Whole) (now : Play) (p : Played) (c d : Option (List ℕ)) where
  pub rounds_settle : (r place : ℕ) → SoFar old now p (rounds (tables_in old) (members_in old) r (stage_of now)) c d → NoneLeft place now.mail → place ≡ length now.mail → Plays old (Ok tt) now p c d
  rounds_settle r place h none all =
      let P : Played → Type 0 = λ q. SoFar old now p q c d in
      so_far_ends old now p c d (subst P (rounds_of_none (tables_in old) (members_in old) r (stage_of now) (none_left 1 now.mail (subst (λ k. NoneLeft k now.mail) all none))) h)

  module _ (r less : ℕ) (one : r ≡ suc less) (h : SoFar old now p (rounds (tables_in old) (members_in old) r (stage_of now)) c d) where
    round_first : SoFar old now p (followed (round (tables_in old) (members_in old) (stage_of now)) (rounds (tables_in old) (members_in old) less)) c d
    round_first =
        let P : ℕ → Type 0 = λ k. SoFar old now p (rounds (tables_in old) (members_in old) k (stage_of now)) c d in
        subst P one h

    round_of_old : (q : Result (Unit {0}) RunFault) (new : Play) (e : Option (List ℕ)) → Plays now.world q new (round (tables_of now) (members_of now) (stage_of now)) d e →
        Plays now.world q new (round (tables_in old) (members_in old) (stage_of now)) d e
    round_of_old q new e = plays_from now.world now.world q new _ _ d e refl (λ i. round (h.moves.tables i) (h.moves.members i) (stage_of now))

    pub rounds_more : (new : Play) (e : Option (List ℕ)) → Plays now.world (Ok tt) new (round (tables_of now) (members_of now) (stage_of now)) d e →
        SoFar old new p (rounds (tables_in old) (members_in old) less (stage_of new)) c e
    rounds_more new e plays = so_far_more old now new p (round (tables_in old) (members_in old) (stage_of now)) (rounds (tables_in old) (members_in old) less) c d e round_first (round_of_old (Ok tt) new e plays)

    pub rounds_fail : (fault : RunFault) (new after : Play) (e : Option (List ℕ)) → Plays now.world (Err fault) new (round (tables_of now) (members_of now) (stage_of now)) d e → Plays old (Err fault) after p c e
    rounds_fail fault new after e plays = so_far_fails old now new p (round (tables_in old) (members_in old) (stage_of now)) (rounds (tables_in old) (members_in old) less) c d e round_first fault after (round_of_old (Err fault) new e plays)

  module _ (lines : List Line) (i : ℕ) (h : SoFar old now p (played_all (tables_in old) (members_in old) (drop i lines) (stage_of now)) c d) where
    pub lines_end : length lines ≤ i → Plays old (Ok tt) now p c d
    lines_end over =
        let P : List Line → Type 0 = λ list. SoFar old now p (played_all (tables_in old) (members_in old) list (stage_of now)) c d in
        so_far_ends old now p c d (subst P (drop_of_length-le lines over) h)

    module _ (line : Line) (lt : i < length lines) (is : line ≡ slice_index_or lines i line) where
      line_first : SoFar old now p (followed (played (tables_in old) (members_in old) (stage_of now) line) (played_all (tables_in old) (members_in old) (drop (i + 1) lines))) c d
      line_first =
          let P : List Line → Type 0 = λ list. SoFar old now p (played_all (tables_in old) (members_in old) list (stage_of now)) c d in
          subst P (drop-cons lines i line lt ∙ (λ j. sym is j ∷ drop (sym (add-one i) j) lines)) h

      line_of_old : (q : Result (Unit {0}) RunFault) (new : Play) (e : Option (List ℕ)) → Plays now.world q new (played (tables_of now) (members_of now) (stage_of now) line) d e →
          Plays now.world q new (played (tables_in old) (members_in old) (stage_of now) line) d e
      line_of_old q new e = plays_from now.world now.world q new _ _ d e refl (λ j. played (h.moves.tables j) (h.moves.members j) (stage_of now) line)

      pub lines_more : (new : Play) (e : Option (List ℕ)) → Plays now.world (Ok tt) new (played (tables_of now) (members_of now) (stage_of now) line) d e →
          SoFar old new p (played_all (tables_in old) (members_in old) (drop (i + 1) lines) (stage_of new)) c e
      lines_more new e plays = so_far_more old now new p (played (tables_in old) (members_in old) (stage_of now) line) (played_all (tables_in old) (members_in old) (drop (i + 1) lines)) c d e line_first (line_of_old (Ok tt) new e plays)

      pub lines_fail : (fault : RunFault) (new after : Play) (e : Option (List ℕ)) → Plays now.world (Err fault) new (played (tables_of now) (members_of now) (stage_of now) line) d e → Plays old (Err fault) after p c e
      lines_fail fault new after e plays = so_far_fails old now new p (played (tables_in old) (members_in old) (stage_of now) line) (played_all (tables_in old) (members_in old) (drop (i + 1) lines)) c d e line_first fault after (line_of_old (Err fault) new e plays)
