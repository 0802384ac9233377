-- How many events a recovery brings.
use Rattle.std.proofs.Common.{◌≡◌, ◌∙◌, ℕ, zero, suc, ◌+◌, ◌*◌, ◌≤◌, Bool, true, false, ◌++◌, length, Option, Some, None, refl, ap, subst, arith}
use Rattle.std.specs.Prelude.{if◌then◌else◌}
use Rattle.std.proofs.Math.Nat.{suc-mul, add-mul}
use Rattle.std.proofs.lemmas.List.{length-append}
use Rattle.model.specs.Lists.{nth}
use Rattle.model.specs.Worlds as model
use Rattle.model.specs.declared.message.Input.TheVariants as input
use Rattle.sqlchecks.specs.Columns.{Tables}
use Rattle.script.specs.declared.sent.Sent.{Sent}
use Rattle.script.specs.Stage.{Stage, Played, nothing, followed, event_at, delivery, deliveries_from, reading_of, all_lost, starts, stirred, turn, turns, spread_or_said, led_on, all_led_on, events_in}
use Rattle.script.specs.Standing.{standing_at, ends_own, foremost, longest, is_well}
use Rattle.script.specs.Laws.{RecoversSoon}
use Rattle.script.proofs.Playing.{events_append}

-- so many events at most, and the clocks stay
record Brings (s : Stage) (most : ℕ) (p : Played) : Type 0 where
  pub clocks : p.stage.clocks ≡ s.clocks
  pub few : length (events_in p.acts) ≤ most

brings_nothing : (s : Stage) → Brings s 0 (nothing s)
brings_nothing s = record { clocks = refl; few = omega arith }

more_allowed : (s : Stage) (a b : ℕ) (p : Played) → Brings s a p → a ≤ b → Brings s b p
more_allowed s a b p h le = record { clocks = h.clocks; few = (let f = h.few in omega arith) }

then_brings : (s : Stage) (a b : ℕ) (p : Played) (next : Stage → Played) → Brings s a p → Brings p.stage b (next p.stage) → Brings s (a + b) (followed p next)
then_brings s a b p next h k = record {
  clocks = k.clocks ∙ h.clocks;
  few = (let f = h.few in let g = k.few in let e : length (events_in (p.acts ++ (next p.stage).acts)) ≡ length (events_in p.acts) + length (events_in (next p.stage).acts) =
      ap length (events_append p.acts (next p.stage).acts) ∙ length-append (events_in p.acts) (events_in (next p.stage).acts) in omega arith);
}

module _ (t : Tables) (n : ℕ) where
  event_brings : (s : Stage) (e : model.Event) → Brings s 1 (event_at t n s e)
  event_brings s e = record { clocks = refl; few = omega arith }

  delivery_brings : (s : Stage) (k : ℕ) (o : Option Sent) → Brings s 1 (delivery t n s k o)
  delivery_brings s k None = record { clocks = refl; few = omega arith }
  delivery_brings s k (Some m) = record { clocks = refl; few = omega arith }

  starts_bring : (more m : ℕ) (s : Stage) → Brings s more (starts t n more m s)
  starts_bring zero m s = brings_nothing s
  starts_bring (suc more) m s =
      let e = event_at t n s (model.Start m) in
      more_allowed s (1 + more) (suc more) _ (then_brings s 1 more e (starts t n more (suc m)) (event_brings s (model.Start m)) (starts_bring more (suc m) e.stage)) (omega arith)

  deliveries_bring : (more k : ℕ) (s : Stage) → Brings s more (deliveries_from t n more k s)
  deliveries_bring zero k s = brings_nothing s
  deliveries_bring (suc more) k s =
      let d = delivery t n s k (nth s.sent k) in
      more_allowed s (1 + more) (suc more) _ (then_brings s 1 more d (deliveries_from t n more (suc k)) (delivery_brings s k (nth s.sent k)) (deliveries_bring more (suc k) d.stage)) (omega arith)

  stirred_brings : (m : ℕ) (s : Stage) → Brings s 2 (stirred t n m s)
  stirred_brings m s =
      let e = event_at t n s (model.Hand m input.Timeout) in
      then_brings s 1 1 e (λ u. event_at t n u (model.Hand m input.Beat)) (event_brings s (model.Hand m input.Timeout)) (event_brings e.stage (model.Hand m input.Beat))

  turn_brings : (m : ℕ) (s : Stage) → Brings s (2 * length s.clocks + 2) (turn t n m s)
  turn_brings m s =
      let e = stirred t n m s in
      more_allowed s (2 + 2 * length s.clocks) (2 * length s.clocks + 2) _
      (then_brings s 2 (2 * length s.clocks) e (deliveries_from t n (2 * length s.clocks) (suc (length s.sent))) (stirred_brings m s) (deliveries_bring (2 * length s.clocks) (suc (length s.sent)) e.stage)) (omega arith)

  turns_if : (each r m : ℕ) (s : Stage) (b : Bool) → Brings s (suc r * each) (followed (turn t n m s) (turns t n r m)) → Brings s (suc r * each) (if b then nothing s else followed (turn t n m s) (turns t n r m))
  turns_if each r m s true h = more_allowed s 0 (suc r * each) (nothing s) (brings_nothing s) (omega arith)
  turns_if each r m s false h = h

  -- so many turns, each of so many events
  turns_bring : (each r m : ℕ) (s : Stage) → 2 * length s.clocks + 2 ≡ each → Brings s (r * each) (turns t n r m s)
  turns_bring each zero m s is = more_allowed s 0 (0 * each) (nothing s) (brings_nothing s) (omega arith)
  turns_bring each (suc r) m s is =
      let one = turn_brings m s in
      let more = turns_bring each r m (turn t n m s).stage (ap (λ c. 2 * length c + 2) one.clocks ∙ is) in
      turns_if each r m s (is_well (length s.clocks) s.world m)
      (more_allowed s ((2 * length s.clocks + 2) + r * each) (suc r * each) (followed (turn t n m s) (turns t n r m)) (then_brings s (2 * length s.clocks + 2) (r * each) (turn t n m s) (turns t n r m) one more)
      (let e = suc-mul r each in omega arith))

  spread_if : (each m most : ℕ) (s : Stage) (b : Bool) → 2 * length s.clocks + 2 ≡ each → Brings s ((2 * most + 4) * each) (if b then turns t n (2 * most + 4) m s else event_at t n s (model.Hand m (input.Close (reading_of s m))))
  spread_if each m most s true is = turns_bring each (2 * most + 4) m s is
  spread_if each m most s false is =
      more_allowed s 1 ((2 * most + 4) * each) _ (event_brings s (model.Hand m (input.Close (reading_of s m)))) (let e = suc-mul (2 * most + 3) each in let f : (2 * most + 4) * each ≡ suc (2 * most + 3) * each = ap (λ k. k * each) (omega arith) in omega arith)

  led_brings : (each m most : ℕ) (s : Stage) → 2 * length s.clocks + 2 ≡ each → Brings s ((2 * most + 6) * each) (led_on t n m most s)
  led_brings each m most s is =
      let two = turns_bring each 2 m s is in
      let u = (turns t n 2 m s).stage in
      more_allowed s (2 * each + (2 * most + 4) * each) ((2 * most + 6) * each) _
      (then_brings s (2 * each) ((2 * most + 4) * each) (turns t n 2 m s) (spread_or_said t n m most) two (spread_if each m most u (ends_own (standing_at u.world m)) (ap (λ c. 2 * length c + 2) two.clocks ∙ is)))
      (let e = add-mul 2 (2 * most + 4) each in let f : (2 * most + 6) * each ≡ (2 + (2 * most + 4)) * each = ap (λ k. k * each) (omega arith) in omega arith)

  all_bring : (s : Stage) → Brings s ((2 * longest (length s.clocks) s.world + 6) * (2 * length s.clocks + 2)) (all_led_on t n s)
  all_bring s =
      let k = longest (length s.clocks) s.world in
      let each = 2 * length s.clocks + 2 in
      let led = led_brings each (foremost (length s.clocks) s.world) k s refl in
      let u = (led_on t n (foremost (length s.clocks) s.world) k s).stage in
      more_allowed s ((2 * k + 6) * each + 0) ((2 * k + 6) * each) _
      (then_brings s ((2 * k + 6) * each) 0 (led_on t n (foremost (length s.clocks) s.world) k s) (λ v. nothing (all_lost v)) led (record { clocks = refl; few = omega arith })) (omega arith)

pub recovers_soon : RecoversSoon
recovers_soon t n s =
    let started = starts_bring t n (length s.clocks) 1 s in
    let u = (starts t n (length s.clocks) 1 s).stage in
    let all = all_bring t n u in
    let P : ℕ → Type 0 = λ c. length (events_in (all_led_on t n u).acts) ≤ (2 * longest c u.world + 6) * (2 * c + 2) in
    let few = subst P (ap length started.clocks) all.few in
    (then_brings s (length s.clocks) ((2 * longest (length s.clocks) u.world + 6) * (2 * length s.clocks + 2)) (starts t n (length s.clocks) 1 s) (all_led_on t n) started (record { clocks = all.clocks; few = few })).few
