-- Lemmas on parts of a line that follow each other, on what is only looked at, and on how a group recovers.
use Rattle.std.proofs.Common.{◌≡◌, ◌∙◌, ℕ, zero, suc, ◌+◌, ◌-◌, ◌*◌, ◌<◌, ◌≤◌, Bool, true, false, List, length, Option, Some, None, Result, Ok, Err, refl, sym, ap, subst, add-one, arith}
use Rattle.std.specs.Prelude.{ℤ, if◌then◌else◌, ◌&&◌, option_map, option_and_then}
use Rattle.std.specs.Ordering.{ord_max, nat_cmp}
use Rattle.model.specs.Lists.{nth}
use Rattle.model.specs.Members.{Node, term_of}
use Rattle.model.specs.Worlds as model
use Rattle.model.specs.Worlds.{World}
use Rattle.model.specs.declared.message.Input.TheVariants as input
use Rattle.answertext.specs.Appending.{append-none}
use Rattle.sqlchecks.specs.Columns.{Tables}
use Rattle.world.specs.declared.history.World.{World as Whole}
use Rattle.world.specs.Run.{tables_in, members_in}
use Rattle.world.specs.View.{durable_of, stored_of, StoredState}
use Rattle.script.specs.declared.play.Play.{Play}
use Rattle.script.specs.declared.run_fault.RunFault.{RunFault}
use Rattle.script.specs.declared.standing.Standing.{Standing}
use Rattle.script.specs.Faults.{IsPlayFault}
use Rattle.script.specs.Stage.{Stage, Played, nothing, followed, event_at, delivery, deliveries_from, reading_of, all_lost, starts, stirred, turn, turns, spread_or_said, led_on, led_by, all_led_on}
use Rattle.script.specs.Standing.{standing_of, standing_at, ends_own, is_up_to_date, is_in_step, foremost, longest, are_in_step, is_well}
use Rattle.script.specs.Plays.{stage_of, tables_of, members_of, IsStill, Plays}
use Rattle.script.proofs.Mailing.{past, some_same, some_is_not_none}
use Rattle.script.proofs.Playing.{SoFar, so_far_nothing, so_far_more, so_far_fails, so_far_ends, plays_from, quiet, nothing_yet}

followed_nothing : (p : Played) → followed p nothing ≡ p
followed_nothing p = λ i. record { acts = append-none p.acts i; stage = p.stage }

-- ---- one part after another

module _ (old : Whole) (now : Play) (whole : Played) (F : Tables → ℕ → Stage → Played) (next : Stage → Played) (c d : Option (List ℕ)) (h : SoFar old now whole (followed (F (tables_in old) (members_in old) (stage_of now)) next) c d) where
  of_old : (r : Result (Unit {0}) RunFault) (new : Play) (e : Option (List ℕ)) → Plays now.world r new (F (tables_of now) (members_of now) (stage_of now)) d e → Plays now.world r new (F (tables_in old) (members_in old) (stage_of now)) d e
  of_old r new e = plays_from now.world now.world r new _ _ d e refl (λ i. F (h.moves.tables i) (h.moves.members i) (stage_of now))

  pub part_more : (new : Play) (e : Option (List ℕ)) → Plays now.world (Ok tt) new (F (tables_of now) (members_of now) (stage_of now)) d e → SoFar old new whole (next (stage_of new)) c e
  part_more new e plays = so_far_more old now new whole (F (tables_in old) (members_in old) (stage_of now)) next c d e h (of_old (Ok tt) new e plays)

  pub part_fails : (fault : RunFault) (new after : Play) (e : Option (List ℕ)) → Plays now.world (Err fault) new (F (tables_of now) (members_of now) (stage_of now)) d e → Plays old (Err fault) after whole c e
  part_fails fault new after e plays = so_far_fails old now new whole (F (tables_in old) (members_in old) (stage_of now)) next c d e h fault after (of_old (Err fault) new e plays)

-- the last part
module _ (old : Whole) (now : Play) (whole : Played) (F : Tables → ℕ → Stage → Played) (c d : Option (List ℕ)) (h : SoFar old now whole (F (tables_in old) (members_in old) (stage_of now)) c d) where
  before_nothing : SoFar old now whole (followed (F (tables_in old) (members_in old) (stage_of now)) nothing) c d
  before_nothing =
      let P : Played → Type 0 = λ p. SoFar old now whole p c d in
      subst P (sym (followed_nothing (F (tables_in old) (members_in old) (stage_of now)))) h

  pub part_last : (r : Result (Unit {0}) RunFault) (new : Play) (e : Option (List ℕ)) → Plays now.world r new (F (tables_of now) (members_of now) (stage_of now)) d e → Plays old r new whole c e
  part_last (Ok done) new e plays = so_far_ends old new whole c e (part_more old now whole F nothing c d before_nothing new e plays)
  part_last (Err fault) new e plays = part_fails old now whole F nothing c d before_nothing fault new new e plays

-- two parts
module _ (old mid : Play) (live : old.world.is_spent ≡ false) (p : Played) (c d : Option (List ℕ)) where
  pub both : (F : Tables → ℕ → Stage → Played) (r : Result (Unit {0}) RunFault) (new : Play) (e : Option (List ℕ)) → Plays old.world (Ok tt) mid p c d →
      Plays mid.world r new (F (tables_of mid) (members_of mid) (stage_of mid)) d e → Plays old.world r new (followed p (F (tables_of old) (members_of old))) c e
  both F r new e first =
      let next = F (tables_of old) (members_of old) in
      part_last old.world mid (followed p next) F c d (so_far_more old.world old mid (followed p next) p next c c d (so_far_nothing old (followed p next) c live) first) r new e

  pub first_fails : (next : Stage → Played) (fault : RunFault) (after : Play) → Plays old.world (Err fault) mid p c d → Plays old.world (Err fault) after (followed p next) c d
  first_fails next fault after = so_far_fails old.world old mid (followed p next) p next c c d (so_far_nothing old (followed p next) c live) fault after

-- it gives up before the next part
pub so_far_gives_up : (old : Whole) (now after : Play) (whole rest : Played) (fault : RunFault) (c d : Option (List ℕ)) → SoFar old now whole rest c d → IsPlayFault fault → Plays old (Err fault) after whole c d
so_far_gives_up old now after whole rest fault c d h is =
    so_far_fails old now now whole (nothing (stage_of now)) (λ s. rest) c d d h fault after (nothing_yet now.world now fault (nothing (stage_of now)) d is)

-- ---- what is only looked at

pub still_here : (now : Play) → now.world.is_spent ≡ false → IsStill now now
still_here now live = record { stage = refl; events = refl; tables = refl; members = refl; live = live }

pub still_on : (old now new : Play) → IsStill old now → IsStill now new → IsStill old new
still_on old now new h k = record { stage = k.stage ∙ h.stage; events = k.events ∙ h.events; tables = k.tables ∙ h.tables; members = k.members ∙ h.members; live = k.live }

pub so_far_still : (old : Whole) (now new : Play) (p rest : Played) (c d : Option (List ℕ)) → SoFar old now p rest c d → IsStill now new → SoFar old new p rest c d
so_far_still old now new p rest c d h k = record {
  acts = h.acts;
  moves = record { stage = refl; events = k.events ∙ h.moves.events; tables = k.tables ∙ h.moves.tables; members = k.members ∙ h.moves.members; live = k.live };
  printed = h.printed;
  acts_are = h.acts_are;
  stage_is = h.stage_is;
}

-- what is played after a look
module _ (old mid : Play) (live : old.world.is_spent ≡ false) (still : IsStill old mid) (F : Tables → ℕ → Stage → Played) (c : Option (List ℕ)) where
  looked : SoFar old.world mid (F (tables_of old) (members_of old) (stage_of old)) (F (tables_of old) (members_of old) (stage_of mid)) c c
  looked =
      let whole = F (tables_of old) (members_of old) (stage_of old) in
      let P : Stage → Type 0 = λ s. SoFar old.world mid whole (F (tables_of old) (members_of old) s) c c in
      subst P (sym still.stage) (so_far_still old.world old mid whole whole c c (so_far_nothing old whole c live) still)

  pub after_look : (r : Result (Unit {0}) RunFault) (new : Play) (d : Option (List ℕ)) → Plays mid.world r new (F (tables_of mid) (members_of mid) (stage_of mid)) c d → Plays old.world r new (F (tables_of old) (members_of old) (stage_of old)) c d
  after_look = part_last old.world mid (F (tables_of old) (members_of old) (stage_of old)) F c c looked

-- ---- how a member stands

module _ (member : Option Node) (stored : StoredState) (is : Some stored ≡ option_map (λ x. stored_of (durable_of x)) member) where
  pub term_some : stored.hard.term ≡ (standing_of member).term
  term_some = some_term member is
    where
      some_term : (o : Option Node) → Some stored ≡ option_map (λ x. stored_of (durable_of x)) o → stored.hard.term ≡ (standing_of o).term
      some_term None e = absurd (some_is_not_none (sym e))
      some_term (Some x) e = ap (λ (s : StoredState). s.hard.term) (some_same e)

  pub length_some : stored.length ≡ (standing_of member).length
  length_some = some_length member is
    where
      some_length : (o : Option Node) → Some stored ≡ option_map (λ x. stored_of (durable_of x)) o → stored.length ≡ (standing_of o).length
      some_length None e = absurd (some_is_not_none (sym e))
      some_length (Some x) e = ap (λ (s : StoredState). s.length) (some_same e)

pub term_none : (member : Option Node) → None ≡ option_map (λ x. stored_of (durable_of x)) member → 0 ≡ (standing_of member).term
term_none None e = refl
term_none (Some x) e = absurd (some_is_not_none e)

pub length_none : (member : Option Node) → None ≡ option_map (λ x. stored_of (durable_of x)) member → 0 ≡ (standing_of member).length
length_none None e = refl
length_none (Some x) e = absurd (some_is_not_none e)

pub applied_some : (member : Option Node) (k : ℕ) → Some k ≡ option_map (λ x. x.commit) member → k ≡ (standing_of member).applied
applied_some None k e = absurd (some_is_not_none (sym e))
applied_some (Some x) k e = some_same e

pub applied_none : (member : Option Node) → None ≡ option_map (λ x. x.commit) member → 0 ≡ (standing_of member).applied
applied_none None e = refl
applied_none (Some x) e = absurd (some_is_not_none e)

ends : (member : Option Node) (len : ℕ) → len ≡ (standing_of member).length → term_of (option_and_then (λ x. nth x.log len) member) ≡ (standing_of member).last_term
ends None len e = refl
ends (Some x) len e = ap (λ k. term_of (nth x.log k)) e

pub stands : (member : Option Node) (term last len applied : ℕ) → term ≡ (standing_of member).term → len ≡ (standing_of member).length →
    last ≡ term_of (option_and_then (λ x. nth x.log len) member) → applied ≡ (standing_of member).applied →
    record { term = term; last_term = last; length = len; applied = applied } ≡ standing_of member
stands member term last len applied t l e a = λ i. record { term = t i; last_term = (e ∙ ends member len l) i; length = l i; applied = a i }

-- ---- all are started

pub starts_begin : (now : Play) (members : ℕ) (c : Option (List ℕ)) → now.world.is_spent ≡ false → members ≡ length now.clocks.items →
    SoFar now.world now (starts (tables_of now) (members_of now) (length now.clocks.items) 1 (stage_of now)) (starts (tables_of now) (members_of now) (members - 0) 1 (stage_of now)) c c
starts_begin now members c live is =
    let whole = starts (tables_of now) (members_of now) (length now.clocks.items) 1 (stage_of now) in
    let P : ℕ → Type 0 = λ k. SoFar now.world now whole (starts (tables_of now) (members_of now) k 1 (stage_of now)) c c in
    subst P (omega (arith, is)) (so_far_nothing now whole c live)

module _ (old : Whole) (now : Play) (whole : Played) (c d : Option (List ℕ)) where
  module _ (r less m : ℕ) (one : r ≡ suc less) (h : SoFar old now whole (starts (tables_in old) (members_in old) r m (stage_of now)) c d) where
    start_first : SoFar old now whole (followed (event_at (tables_in old) (members_in old) (stage_of now) (model.Start m)) (starts (tables_in old) (members_in old) less (suc m))) c d
    start_first =
        let P : ℕ → Type 0 = λ k. SoFar old now whole (starts (tables_in old) (members_in old) k m (stage_of now)) c d in
        subst P one h

    pub starts_more : (new : Play) (e : Option (List ℕ)) → Plays now.world (Ok tt) new (event_at (tables_of now) (members_of now) (stage_of now) (model.Start m)) d e →
        SoFar old new whole (starts (tables_in old) (members_in old) less (m + 1) (stage_of new)) c e
    starts_more new e plays =
        let P : ℕ → Type 0 = λ k. SoFar old new whole (starts (tables_in old) (members_in old) less k (stage_of new)) c e in
        subst P (sym (add-one m)) (part_more old now whole (λ t n s. event_at t n s (model.Start m)) (starts (tables_in old) (members_in old) less (suc m)) c d start_first new e plays)

    pub starts_fail : (fault : RunFault) (new after : Play) (e : Option (List ℕ)) → Plays now.world (Err fault) new (event_at (tables_of now) (members_of now) (stage_of now) (model.Start m)) d e → Plays old (Err fault) after whole c e
    starts_fail = part_fails old now whole (λ t n s. event_at t n s (model.Start m)) (starts (tables_in old) (members_in old) less (suc m)) c d start_first

-- ---- messages from one on

module _ (t : Tables) (n : ℕ) (s : Stage) where
  -- past the last one nothing is brought
  deliveries_past : (more k : ℕ) → length s.sent < k → deliveries_from t n more k s ≡ nothing s
  deliveries_past zero k lt = refl
  deliveries_past (suc more) k lt =
      ap (λ o. followed (delivery t n s k o) (deliveries_from t n more (suc k))) (past s.sent k lt)
      ∙ deliveries_past more (suc k) (omega (arith, lt))

module _ (old : Whole) (now : Play) (whole : Played) (c d : Option (List ℕ)) where
  pub deliveries_stop : (r place : ℕ) → SoFar old now whole (deliveries_from (tables_in old) (members_in old) r (suc place) (stage_of now)) c d → length now.mail ≤ place → Plays old (Ok tt) now whole c d
  deliveries_stop r place h over =
      let P : Played → Type 0 = λ q. SoFar old now whole q c d in
      so_far_ends old now whole c d (subst P (deliveries_past (tables_in old) (members_in old) (stage_of now) r (suc place) (omega (arith, over))) h)

  module _ (r less place : ℕ) (one : r ≡ suc less) (h : SoFar old now whole (deliveries_from (tables_in old) (members_in old) r (suc place) (stage_of now)) c d) where
    abbrev this : Tables → ℕ → Stage → Played
    this t n s = delivery t n s (suc place) (nth s.sent (suc place))

    delivery_first : SoFar old now whole (followed (this (tables_in old) (members_in old) (stage_of now)) (deliveries_from (tables_in old) (members_in old) less (suc (suc place)))) c d
    delivery_first =
        let P : ℕ → Type 0 = λ k. SoFar old now whole (deliveries_from (tables_in old) (members_in old) k (suc place) (stage_of now)) c d in
        subst P one h

    pub deliveries_more : (new : Play) (e : Option (List ℕ)) → Plays now.world (Ok tt) new (delivery (tables_of now) (members_of now) (stage_of now) (suc place) (nth now.mail (suc place))) d e →
        SoFar old new whole (deliveries_from (tables_in old) (members_in old) less (suc (place + 1)) (stage_of new)) c e
    deliveries_more new e plays =
        let P : ℕ → Type 0 = λ k. SoFar old new whole (deliveries_from (tables_in old) (members_in old) less (suc k) (stage_of new)) c e in
        subst P (sym (add-one place)) (part_more old now whole this (deliveries_from (tables_in old) (members_in old) less (suc (suc place))) c d delivery_first new e plays)

    pub deliveries_fail : (fault : RunFault) (new after : Play) (e : Option (List ℕ)) → Plays now.world (Err fault) new (delivery (tables_of now) (members_of now) (stage_of now) (suc place) (nth now.mail (suc place))) d e → Plays old (Err fault) after whole c e
    deliveries_fail = part_fails old now whole this (deliveries_from (tables_in old) (members_in old) less (suc (suc place))) c d delivery_first

-- ---- turns

module _ (old mid new : Play) (live : old.world.is_spent ≡ false) (m sent members : ℕ) (all : sent ≡ length old.mail) (count : members ≡ length old.clocks.items) (r : Result (Unit {0}) RunFault) (c d e : Option (List ℕ)) where
  pub turned : Plays old.world (Ok tt) mid (stirred (tables_of old) (members_of old) m (stage_of old)) c d →
      Plays mid.world r new (deliveries_from (tables_of mid) (members_of mid) (2 * members) (suc sent) (stage_of mid)) d e →
      Plays old.world r new (turn (tables_of old) (members_of old) m (stage_of old)) c e
  turned first second =
      let P : ℕ → Type 0 = λ k. Plays mid.world r new (deliveries_from (tables_of mid) (members_of mid) (2 * k) (suc sent) (stage_of mid)) d e in
      let Q : ℕ → Type 0 = λ k. Plays mid.world r new (deliveries_from (tables_of mid) (members_of mid) (2 * length old.clocks.items) (suc k) (stage_of mid)) d e in
      both old mid live (stirred (tables_of old) (members_of old) m (stage_of old)) c d (λ t n. deliveries_from t n (2 * length old.clocks.items) (suc (length old.mail))) r new e first (subst Q all (subst P count second))

turns_of_well : (t : Tables) (n r m : ℕ) (s : Stage) → is_well (length s.clocks) s.world m ≡ true → turns t n r m s ≡ nothing s
turns_of_well t n zero m s well = refl
turns_of_well t n (suc r) m s well = ap (λ b. if b then nothing s else followed (turn t n m s) (turns t n r m)) well

module _ (old : Whole) (now : Play) (whole : Played) (c d : Option (List ℕ)) where
  module _ (r m : ℕ) (mid : Play) (still : IsStill now mid) (h : SoFar old now whole (turns (tables_in old) (members_in old) r m (stage_of now)) c d) where
    turns_here : SoFar old mid whole (turns (tables_in old) (members_in old) r m (stage_of mid)) c d
    turns_here =
        let P : Stage → Type 0 = λ s. SoFar old mid whole (turns (tables_in old) (members_in old) r m s) c d in
        subst P (sym still.stage) (so_far_still old now mid whole (turns (tables_in old) (members_in old) r m (stage_of now)) c d h still)

    pub turns_well : is_well (length now.clocks.items) (stage_of now).world m ≡ true → Plays old (Ok tt) mid whole c d
    turns_well well =
        let there : is_well (length mid.clocks.items) (stage_of mid).world m ≡ true = ap (λ (s : Stage). is_well (length s.clocks) s.world m) still.stage ∙ well in
        let P : Played → Type 0 = λ p. SoFar old mid whole p c d in
        so_far_ends old mid whole c d (subst P (turns_of_well (tables_in old) (members_in old) r m (stage_of mid) there) turns_here)

    module _ (less : ℕ) (one : r ≡ suc less) (well : is_well (length now.clocks.items) (stage_of now).world m ≡ false) where
      turn_first : SoFar old mid whole (followed (turn (tables_in old) (members_in old) m (stage_of mid)) (turns (tables_in old) (members_in old) less m)) c d
      turn_first =
          let t = tables_in old in
          let n = members_in old in
          let there : is_well (length mid.clocks.items) (stage_of mid).world m ≡ false = ap (λ (s : Stage). is_well (length s.clocks) s.world m) still.stage ∙ well in
          let P : ℕ → Type 0 = λ k. SoFar old mid whole (turns t n k m (stage_of mid)) c d in
          let Q : Bool → Type 0 = λ b. SoFar old mid whole (if b then nothing (stage_of mid) else followed (turn t n m (stage_of mid)) (turns t n less m)) c d in
          subst Q there (subst P one turns_here)

      pub turns_more : (new : Play) (e : Option (List ℕ)) → Plays mid.world (Ok tt) new (turn (tables_of mid) (members_of mid) m (stage_of mid)) d e → SoFar old new whole (turns (tables_in old) (members_in old) less m (stage_of new)) c e
      turns_more = part_more old mid whole (λ t n s. turn t n m s) (turns (tables_in old) (members_in old) less m) c d turn_first

      pub turns_fail : (fault : RunFault) (new after : Play) (e : Option (List ℕ)) → Plays mid.world (Err fault) new (turn (tables_of mid) (members_of mid) m (stage_of mid)) d e → Plays old (Err fault) after whole c e
      turns_fail = part_fails old mid whole (λ t n s. turn t n m s) (turns (tables_in old) (members_in old) less m) c d turn_first

-- ---- a member leads on

module _ (old mid new : Play) (live : old.world.is_spent ≡ false) (still : IsStill old mid) (m most : ℕ) (standing : Standing) (is : standing ≡ standing_at (stage_of old).world m) (r : Result (Unit {0}) RunFault) (c d : Option (List ℕ)) where
  owns : (b : Bool) → ends_own standing ≡ b → ends_own (standing_at (stage_of mid).world m) ≡ b
  owns b own = ap (λ (s : Stage). ends_own (standing_at s.world m)) still.stage ∙ ap ends_own (sym is) ∙ own

  pub spreads : ends_own standing ≡ true → Plays mid.world r new (turns (tables_of mid) (members_of mid) (2 * most + 4) m (stage_of mid)) c d → Plays old.world r new (spread_or_said (tables_of old) (members_of old) m most (stage_of old)) c d
  spreads own plays =
      let s = stage_of mid in
      let t = tables_of mid in
      let n = members_of mid in
      after_look old mid live still (λ t n. spread_or_said t n m most) c r new d
      (plays_from mid.world mid.world r new _ _ c d refl (ap (λ b. if b then turns t n (2 * most + 4) m s else event_at t n s (model.Hand m (input.Close (reading_of s m)))) (sym (owns true own))) plays)

  pub says : (reading : ℤ) → reading ≡ reading_of (stage_of mid) m → ends_own standing ≡ false → Plays mid.world r new (event_at (tables_of mid) (members_of mid) (stage_of mid) (model.Hand m (input.Close reading))) c d →
      Plays old.world r new (spread_or_said (tables_of old) (members_of old) m most (stage_of old)) c d
  says reading shown own plays =
      let s = stage_of mid in
      let t = tables_of mid in
      let n = members_of mid in
      after_look old mid live still (λ t n. spread_or_said t n m most) c r new d
      (plays_from mid.world mid.world r new _ _ c d refl
      (ap (λ z. event_at t n s (model.Hand m (input.Close z))) shown ∙ ap (λ b. if b then turns t n (2 * most + 4) m s else event_at t n s (model.Hand m (input.Close (reading_of s m)))) (sym (owns false own))) plays)

pub all_led : (old mid new : Play) (m most : ℕ) (r : Result (Unit {0}) RunFault) (c d : Option (List ℕ)) → old.world.is_spent ≡ false → IsStill old mid →
    m ≡ foremost (length old.clocks.items) (stage_of old).world → most ≡ longest (length old.clocks.items) (stage_of old).world →
    Plays mid.world r new (led_by (tables_of mid) (members_of mid) m most (stage_of mid)) c d → Plays old.world r new (all_led_on (tables_of old) (members_of old) (stage_of old)) c d
all_led old mid new m most r c d live still first long plays =
    plays_from old.world old.world r new _ _ c d refl (λ i. led_by (tables_of old) (members_of old) (first i) (long i) (stage_of old))
    (after_look old mid live still (λ t n. led_by t n m most) c r new d plays)

pub led_then_lost : (old mid new : Play) (m most : ℕ) (c d : Option (List ℕ)) → old.world.is_spent ≡ false → Plays old.world (Ok tt) mid (led_on (tables_of old) (members_of old) m most (stage_of old)) c d →
    stage_of new ≡ all_lost (stage_of mid) → new.world ≡ mid.world → Plays old.world (Ok tt) new (led_by (tables_of old) (members_of old) m most (stage_of old)) c d
led_then_lost old mid new m most c d live done stage world =
    both old mid live (led_on (tables_of old) (members_of old) m most (stage_of old)) c d (λ t n s. nothing (all_lost s)) (Ok tt) new d done
    (quiet mid.world new (all_lost (stage_of mid)) d stage world done.0.live)

-- ---- what loops over the members look for

-- of the first so many members, as they stood at the start
pub record Surveyed (start now : Play) (place first most : ℕ) (best : Standing) : Type 0 where
  pub still : IsStill start now
  pub first_is : first ≡ foremost place (stage_of start).world
  pub best_is : best ≡ standing_at (stage_of start).world first
  pub most_is : most ≡ longest place (stage_of start).world

pub surveyed_none : (start : Play) → start.world.is_spent ≡ false → Surveyed start start 0 0 0 (record { term = 0; last_term = 0; length = 0; applied = 0 })
surveyed_none start live = record { still = still_here start live; first_is = refl; best_is = refl; most_is = refl }

module _ (start now new : Play) (place first most : ℕ) (best standing : Standing) (h : Surveyed start now place first most best) (is : standing ≡ standing_at (stage_of now).world (place + 1)) (still : IsStill now new) where
  abbrev w : World
  w = (stage_of start).world

  this_is : standing ≡ standing_at w (suc place)
  this_is = is ∙ (λ i. standing_at (h.still.stage i).world (add-one place i))

  best_of : best ≡ standing_at w (foremost place w)
  best_of = h.best_is ∙ ap (standing_at w) h.first_is

  longer : ord_max nat_cmp most standing.length ≡ longest (place + 1) w
  longer = (λ i. ord_max nat_cmp (h.most_is i) (this_is i).length) ∙ ap (λ k. longest k w) (sym (add-one place))

  foremost_is : (b : Bool) → is_up_to_date standing best ≡ b → foremost (place + 1) w ≡ (if b then suc place else foremost place w)
  foremost_is b won =
      ap (λ k. foremost k w) (add-one place)
      ∙ (λ i. if is_up_to_date (sym this_is i) (sym best_of i) then suc place else foremost place w)
      ∙ ap (λ x. if x then suc place else foremost place w) won

  pub surveyed_won : is_up_to_date standing best ≡ true → Surveyed start new (place + 1) (place + 1) (ord_max nat_cmp most standing.length) standing
  surveyed_won won = record {
    still = still_on start now new h.still still;
    first_is = add-one place ∙ sym (foremost_is true won);
    best_is = this_is ∙ ap (standing_at w) (sym (add-one place));
    most_is = longer;
  }

  pub surveyed_lost : is_up_to_date standing best ≡ false → Surveyed start new (place + 1) first (ord_max nat_cmp most standing.length) best
  surveyed_lost lost = record {
    still = still_on start now new h.still still;
    first_is = h.first_is ∙ sym (foremost_is false lost);
    best_is = h.best_is;
    most_is = longer;
  }

-- the first so many members are in step with one, as they stood at the start
pub record InStep (start now : Play) (leader : Standing) (place : ℕ) (b : Bool) : Type 0 where
  pub still : IsStill start now
  pub so_far : b ≡ are_in_step leader place (stage_of start).world

pub in_step_more : (start now new : Play) (leader standing : Standing) (place : ℕ) (b : Bool) → InStep start now leader place b → standing ≡ standing_at (stage_of now).world (place + 1) → IsStill now new →
    InStep start new leader (place + 1) (b && is_in_step standing leader)
in_step_more start now new leader standing place b h is still =
    let w = (stage_of start).world in
    let this : standing ≡ standing_at w (suc place) = is ∙ (λ i. standing_at (h.still.stage i).world (add-one place i)) in
    record {
      still = still_on start now new h.still still;
      so_far = (λ i. h.so_far i && is_in_step (this i) leader) ∙ ap (λ k. are_in_step leader k w) (sym (add-one place));
    }

pub in_step_none : (start now : Play) (leader : Standing) → IsStill start now → InStep start now leader 0 true
in_step_none start now leader still = record { still = still; so_far = refl }

pub in_step_all : (start now : Play) (m place members : ℕ) (leader : Standing) (b : Bool) → InStep start now leader place b → leader ≡ standing_at (stage_of start).world m → place ≡ members →
    (ends_own leader && b) ≡ is_well members (stage_of start).world m
in_step_all start now m place members leader b h is all =
    let w = (stage_of start).world in
    ap (λ x. ends_own leader && x) h.so_far ∙ (λ i. ends_own (is i) && are_in_step (is i) (all i) w)
