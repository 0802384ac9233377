-- Lines bring the same in both words.
use Rattle.std.proofs.Common.{refl, sym, ap, subst, ◌∙◌}
use Rattle.std.specs.Prelude.{◌≡◌, ℕ, zero, suc, ◌+◌, ◌*◌, ℤ, pos, Bool, ◌==◌, if◌then◌else◌, unwrap_or, Option, Some, None, Result, Ok, Err, List, [], ◌∷◌, ◌++◌, map, drop, length, replicate, codes, decimal}
use Rattle.std.specs.List.{All, flat_map}
use Rattle.std.specs.Option.{option_map_or}
use Rattle.fault.specs.declared.refusal.Refusal.{Refusal}
use Rattle.model.specs.Lists.{nth, with_nth}
use Rattle.model.specs.declared.message.Input.TheVariants as input
use Rattle.model.specs.Worlds.{World, Event}
use Rattle.believed.specs.Worlds as later
use Rattle.believed.proofs.WorldsSame.{happens_same}
use Rattle.believed.proofs.GivesSame.{gives_now}
use Rattle.model.specs.Worlds as model
use Rattle.sqlchecks.specs.Columns.{Tables}
use Rattle.sqlread.specs.Meaning.{language_of, select_of}
use Rattle.sqlread.specs.Texts.{query_in}
use Rattle.world.specs.View.{outputs_of}
use Rattle.world.specs.declared.output.Output.{Output}
use Rattle.world.specs.declared.output.Output.TheVariants as output
use Rattle.lines.specs.declared.line.TornJob.TheVariants as torn
use Rattle.lines.specs.declared.line.Line.{Line}
use Rattle.lines.specs.declared.line.Line.TheVariants.{Clock, ClockAll, Submit, Timeout, Beat, Close, Floor, Deliver, Lose, LoseAll, Settle, Recover, Stop, Start, Torn as TornLine, Ask}
use Rattle.script.specs.declared.sent.Sent.{Sent}
use Rattle.script.specs.Mail.{newly_sent, as_delivered, as_lost, changed, left_from}
use Rattle.script.specs.Printing as printing
use Rattle.believed.proofs.DaysSame.{instant_same}
use Rattle.believed.proofs.Printed.{shown_same}
use Rattle.answertext.proofs.LinesSame.{answer_same}
use Rattle.script.specs.Standing.{standing_at, ends_own, foremost, longest, is_well}
use Rattle.script.specs.Stage.{Act, Happens, Asks, Refuses, Stage, Played, reading_of, is_up, delivered, all_lost, nothing, followed, job_at, torn_stage, asked}
use Rattle.script.specs.Stage as before
use Rattle.script.specs.Brought as now

-- the same, by whatever comes of an event
module _ (happens : World → Event → World) (tables : Tables) (n : ℕ) where
  -- an event, after which the messages that it sent are neither delivered nor lost
  abbrev event_at : Stage → Event → Played
  event_at s e = record {
    acts = Happens e ∷ [];
    stage = record {
      clocks = s.clocks;
      world = happens s.world e;
      sent = s.sent ++ map newly_sent (drop (length s.world.sent) (happens s.world e).sent);
    };
  }

  -- a delivery of the k-th message, if it was sent
  abbrev delivery : Stage → ℕ → Option Sent → Played
  delivery s k None = nothing s
  delivery s k (Some message) = event_at (delivered s k) (model.Deliver k (reading_of s message.addressee))

  -- within a round, one to a member that is down counts as delivered, and nothing is brought to it
  abbrev delivery_in_round : Stage → ℕ → Option Sent → Played
  delivery_in_round s k None = nothing s
  delivery_in_round s k (Some message) = if is_up s.world message.addressee then delivery s k (Some message) else nothing (delivered s k)

  -- the messages of these numbers are delivered, each after the one before
  abbrev deliveries : List ℕ → Stage → Played
  deliveries [] s = nothing s
  deliveries (k ∷ ks) s = followed (delivery_in_round s k (nth s.sent k)) (deliveries ks)

  -- each message is delivered that was sent before the round, was never delivered and is not lost
  abbrev round : Stage → Played
  round s = deliveries (left_from 1 s.sent) s

  -- so many rounds; once none is left a round brings nothing
  abbrev rounds : ℕ → Stage → Played
  rounds zero s = nothing s
  rounds (suc r) s = followed (round s) (rounds r)

  -- so many members from member m on are started
  abbrev starts : ℕ → ℕ → Stage → Played
  starts zero m s = nothing s
  starts (suc more) m s = followed (event_at s (model.Start m)) (starts more (suc m))

  -- so many messages from the k-th on are delivered, each after the one before; those that this sends are among them
  abbrev deliveries_from : ℕ → ℕ → Stage → Played
  deliveries_from zero k s = nothing s
  deliveries_from (suc more) k s = followed (delivery s k (nth s.sent k)) (deliveries_from more (suc k))

  -- the timer of member m goes off, and it is told to send its heartbeats
  abbrev stirred : ℕ → Stage → Played
  stirred m s = followed (event_at s (model.Hand m input.Timeout)) (λ t. event_at t (model.Hand m input.Beat))

  -- of what is sent then two messages for each member, which has a clock, are delivered, as the first of them come: to each other one,
  -- and back
  abbrev turn : ℕ → Stage → Played
  turn m s = followed (stirred m s) (deliveries_from (2 * length s.clocks) (suc (length s.sent)))

  -- so many turns, until all is well
  abbrev turns : ℕ → ℕ → Stage → Played
  turns zero m s = nothing s
  turns (suc more) m s = if is_well (length s.clocks) s.world m then nothing s else followed (turn m s) (turns more m)

  -- As many turns as it takes to bring each member the log of m, where none is longer than so many entries. A leader that could append no
  -- entry of its term had no stamp or no room left: told to close, it says which.
  abbrev spread_or_said : ℕ → ℕ → Stage → Played
  spread_or_said m most s = if ends_own (standing_at s.world m) then turns (2 * most + 4) m s else event_at s (model.Hand m (input.Close (reading_of s m)))

  -- two turns first: in the first member m hears of the greatest term, in the second it is elected
  abbrev led_on : ℕ → ℕ → Stage → Played
  led_on m most s = followed (turns 2 m s) (spread_or_said m most)

  -- messages that are still on their way then are lost
  abbrev led_by : ℕ → ℕ → Stage → Played
  led_by m most s = followed (led_on m most s) (λ t. nothing (all_lost t))

  -- one whose log is most up to date leads all on
  abbrev all_led_on : Stage → Played
  all_led_on s = led_by (foremost (length s.clocks) s.world) (longest (length s.clocks) s.world) s

  -- all are started first
  abbrev recovery : Stage → Played
  recovery s = followed (starts (length s.clocks) 1 s) all_led_on

  -- what a line brings
  abbrev played : Stage → Line → Played
  played s (Clock m reading) = nothing (record { clocks = with_nth s.clocks m reading; world = s.world; sent = s.sent })
  played s (ClockAll reading) = nothing (record { clocks = replicate (length s.clocks) reading; world = s.world; sent = s.sent })
  played s (Submit m client number text) = event_at s (model.Hand m (input.Submit (reading_of s m) (record { client = client; number = number; text = text })))
  played s (Timeout m) = event_at s (model.Hand m input.Timeout)
  played s (Beat m) = event_at s (model.Hand m input.Beat)
  played s (Close m) = event_at s (model.Hand m (input.Close (reading_of s m)))
  played s (Floor m) = event_at s (model.Hand m (input.Floor (reading_of s m)))
  played s (Deliver k) = delivery s k (nth s.sent k)
  played s (Lose k) = nothing (record { clocks = s.clocks; world = s.world; sent = changed as_lost s.sent k })
  played s LoseAll = nothing (all_lost s)
  played s (Settle most) = rounds (unwrap_or most 100) s
  played s Recover = recovery s
  played s (Stop m) = event_at s (model.Stop m)
  played s (Start m) = event_at s (model.Start m)
  played s (TornLine m left job) = if is_up s.world m then option_map_or (λ about. event_at (torn_stage tables n s job) (model.Torn m about left)) (job_at tables n s m job) (nothing s) else nothing s
  played s (Ask m text) = asked tables n s m (query_in tables text)

  -- what lines bring, each after the one before
  abbrev played_all : List Line → Stage → Played
  played_all [] s = nothing s
  played_all (line ∷ lines) s = followed (played s line) (played_all lines)

happens_along : (tables : Tables) (n : ℕ) → ◌≡◌ {A = World → Event → World} (λ w e. later.happens (language_of tables) n w e) (λ w e. model.happens (language_of tables) n w e)
happens_along tables n = λ i. λ w e. happens_same (language_of tables) n w e i

pub played_same : (tables : Tables) (n : ℕ) (lines : List Line) (s : Stage) → now.played_all tables n lines s ≡ before.played_all tables n lines s
played_same tables n lines s = λ i. played_all (happens_along tables n i) tables n lines s

-- ---- what is printed

outcome_same : (outcome : Result ℕ Refusal) → now.outcome_text outcome ≡ printing.outcome_text outcome
outcome_same (Ok stamp) = ap (λ (xs : List ℕ). codes "accepted " ++ xs ++ 10 ∷ []) (instant_same stamp)
outcome_same (Err refusal) = ap (λ (xs : List ℕ). codes "refused " ++ xs ++ 10 ∷ []) (shown_same refusal)

output_same : (o : Output) → now.output_text o ≡ printing.output_text o
output_same (output.Sent number message) = refl
output_same (output.Applied node told) = ap (λ (xs : List ℕ). printing.node_text node ++ (codes "entry " ++ decimal told.index ++ codes " request " ++ decimal told.client ++ codes " " ++ decimal told.number ++ codes " " ++ xs)) (outcome_same told.outcome)
output_same (output.Refused node refusal) = ap (λ (xs : List ℕ). printing.node_text node ++ (codes "refused " ++ xs ++ 10 ∷ [])) (shown_same refusal)
output_same (output.Answered node answer) = ap (λ (xs : List ℕ). codes "node " ++ (decimal node ++ (codes " answer" ++ 10 ∷ [])) ++ xs) (answer_same answer)

texts_same : (outs : List Output) → flat_map now.output_text outs ≡ flat_map printing.output_text outs
texts_same outs = λ i. flat_map (λ o. output_same o i) outs

module _ (tables : Tables) (n : ℕ) where
  act_now : (w : World) (act : Act) (text : List ℕ) → before.PrintsAct tables n w act text → now.PrintsAct tables n w act text
  act_now w (Happens e) text (outs, gives, is) = (outs, gives_now (language_of tables) n w e (outputs_of outs) gives, is ∙ sym (texts_same outs))
  act_now w (Asks m query) text (outs, gives, columns, is) = (outs, gives_now (language_of tables) n w (model.Ask m (select_of query)) (outputs_of outs) gives, columns, is ∙ sym (texts_same outs))
  act_now w (Refuses m refusal) text is = is ∙ sym (output_same (output.Refused m refusal))

  after_same : (w : World) (act : Act) → now.after_act tables n w act ≡ before.after_act tables n w act
  after_same w (Happens e) = happens_same (language_of tables) n w e
  after_same w (Asks m query) = refl
  after_same w (Refuses m refusal) = refl

  prints_now : (w : World) (acts : List Act) (text : List ℕ) → before.Prints tables n w acts text → now.Prints tables n w acts text
  prints_now w [] text is = is
  prints_now w (act ∷ acts) text (first, rest, is, prints, more) =
      (first, rest, is, act_now w act first prints, subst (λ v. now.Prints tables n v acts rest) (sym (after_same w act)) (prints_now (before.after_act tables n w act) acts rest more))

  pub printed_now : (w : World) (acts : List Act) (old new : Option (List ℕ)) → before.IsPrinted tables n w acts old new → now.IsPrinted tables n w acts old new
  printed_now w acts old new (text, prints, grows) = (text, prints_now w acts text prints, grows)

  pub begun_now : (w : World) (acts : List Act) (old new : Option (List ℕ)) → before.IsBegun tables n w acts old new → now.IsBegun tables n w acts old new
  begun_now w acts old new (first, rest, are, text, prints, grows) = (first, rest, are, text, prints_now w first text prints, grows)

  pub lines_printed : (lines : List Line) (s : Stage) (w : World) (old new : Option (List ℕ)) →
      before.IsPrinted tables n w (before.played_all tables n lines s).acts old new → now.IsPrinted tables n w (now.played_all tables n lines s).acts old new
  lines_printed lines s w old new h = subst (λ (p : Played). now.IsPrinted tables n w p.acts old new) (sym (played_same tables n lines s)) (printed_now w (before.played_all tables n lines s).acts old new h)

  pub lines_begun : (lines : List Line) (s : Stage) (w : World) (old new : Option (List ℕ)) →
      before.IsBegun tables n w (before.played_all tables n lines s).acts old new → now.IsBegun tables n w (now.played_all tables n lines s).acts old new
  lines_begun lines s w old new h = subst (λ (p : Played). now.IsBegun tables n w p.acts old new) (sym (played_same tables n lines s)) (begun_now w (before.played_all tables n lines s).acts old new h)
