-- What the lines of a script bring to a group, and what is printed of it.
use Rattle.std.specs.Prelude.{◌≡◌, ℕ, zero, suc, ◌+◌, ◌*◌, ℤ, pos, Bool, ◌==◌, if◌then◌else◌, is_some, unwrap_or, Option, Some, None, Result, Ok, Err, List, [], ◌∷◌, ◌++◌, map, drop, length, replicate}
use Rattle.std.specs.List.{All, flat_map}
use Rattle.std.specs.Option.{option_map_or}
use Rattle.std.specs.Io.KnownBytes.{Appends}
use Rattle.fault.specs.declared.refusal.Refusal.{Refusal}
use Rattle.model.specs.Lists.{nth, nth_or, with_nth}
use Rattle.model.specs.declared.message.Input.TheVariants as input
use Rattle.model.specs.Worlds.{World, Event, happens, new_world, Gives}
use Rattle.model.specs.declared.event.Job.{Job}
use Rattle.model.specs.declared.event.Left.{Left}
use Rattle.model.specs.declared.event.Job.TheVariants.{Local, Delivery}
use Rattle.model.specs.declared.event.Left.TheVariants.{New, Old}
use Rattle.model.specs.Worlds as model
use Rattle.answertext.specs.Sinks.{AppendsBeginning}
use Rattle.sqlchecks.specs.Columns.{Tables}
use Rattle.sqlread.specs.Meaning.{language_of, select_of}
use Rattle.sqlread.specs.Shapes.{QueryShape}
use Rattle.sqlread.specs.Texts.{query_in}
use Rattle.world.specs.View.{if_up, outputs_of, HasColumns}
use Rattle.world.specs.declared.output.Output.{Output}
use Rattle.world.specs.declared.output.Output.TheVariants as output
use Rattle.lines.specs.declared.line.TornJob.{TornJob}
use Rattle.lines.specs.declared.line.TornJob.TheVariants as torn
use Rattle.lines.specs.declared.line.Line.{Line}
use Rattle.lines.specs.declared.line.Line.TheVariants.{Clock, ClockAll, Submit, Timeout, Beat, Close, Floor, Deliver, Lose, LoseAll, Settle, Recover, Stop, Start, Torn as TornLine, Ask}
use Rattle.script.specs.declared.sent.Sent.{Sent}
use Rattle.script.specs.Mail.{newly_sent, as_delivered, as_lost, changed, left_from}
use Rattle.script.specs.Printing.{output_text}
use Rattle.script.specs.Standing.{standing_at, ends_own, foremost, longest, is_well}

-- what a line brings: an event; a question that a member is asked, which is an event too; or the refusal of a text by a member
-- to which nothing is brought
pub data Act : Type 0 where
  Happens : Event → Act
  Asks : (m : ℕ) → QueryShape → Act
  Refuses : (m : ℕ) → Refusal → Act

-- where a script stands: what the clock of each member shows, the group, and for each message that was sent, in order, whether
-- it was delivered and whether it was lost
pub record Stage : Type 0 where
  pub clocks : List ℤ
  pub world : World
  pub sent : List Sent

-- what lines brought, and where the script stands after them
pub record Played : Type 0 where
  pub acts : List Act
  pub stage : Stage

-- all members are up and have seen nothing, all clocks show 0
abbrev pub opening_stage : ℕ → Stage
opening_stage n = record { clocks = replicate n (pos 0); world = new_world n; sent = [] }

-- ---- clocks and messages

-- what the clock of a member shows
abbrev pub reading_of : Stage → ℕ → ℤ
reading_of s m = nth_or s.clocks m (pos 0)

abbrev pub is_up : World → ℕ → Bool
is_up w m = is_some (if_up (nth w.nodes m))

-- the k-th message counts as delivered
abbrev pub delivered : Stage → ℕ → Stage
delivered s k = record { clocks = s.clocks; world = s.world; sent = changed as_delivered s.sent k }

-- all messages so far are lost
abbrev pub all_lost : Stage → Stage
all_lost s = record { clocks = s.clocks; world = s.world; sent = map as_lost s.sent }

-- ---- lines

abbrev pub nothing : Stage → Played
nothing s = record { acts = []; stage = s }

-- this, and then what comes after it
abbrev pub followed : Played → (Stage → Played) → Played
followed p next = record { acts = p.acts ++ (next p.stage).acts; stage = (next p.stage).stage }

-- the later stage, where something was found
abbrev pub stage_if : {A : Type 0} → Option A → Stage → Stage → Stage
stage_if None s later = s
stage_if (Some found) s later = later

-- in a group of n members with these tables
module _ (tables : Tables) (n : ℕ) where
  -- an event, after which the messages that it sent are neither delivered nor lost
  abbrev pub event_at : Stage → Event → Played
  event_at s e = record {
    acts = Happens e ∷ [];
    stage = record {
      clocks = s.clocks;
      world = happens (language_of tables) n s.world e;
      sent = s.sent ++ map newly_sent (drop (length s.world.sent) (happens (language_of tables) n s.world e).sent);
    };
  }

  -- a delivery of the k-th message, if it was sent
  abbrev pub delivery : Stage → ℕ → Option Sent → Played
  delivery s k None = nothing s
  delivery s k (Some message) = event_at (delivered s k) (model.Deliver k (reading_of s message.addressee))

  -- within a round, one to a member that is down counts as delivered, and nothing is brought to it
  abbrev pub delivery_in_round : Stage → ℕ → Option Sent → Played
  delivery_in_round s k None = nothing s
  delivery_in_round s k (Some message) = if is_up s.world message.addressee then delivery s k (Some message) else nothing (delivered s k)

  -- the messages of these numbers are delivered, each after the one before
  abbrev pub deliveries : List ℕ → Stage → Played
  deliveries [] s = nothing s
  deliveries (k ∷ ks) s = followed (delivery_in_round s k (nth s.sent k)) (deliveries ks)

  -- each message is delivered that was sent before the round, was never delivered and is not lost
  abbrev pub round : Stage → Played
  round s = deliveries (left_from 1 s.sent) s

  -- so many rounds; once none is left a round brings nothing
  abbrev pub rounds : ℕ → Stage → Played
  rounds zero s = nothing s
  rounds (suc r) s = followed (round s) (rounds r)

  -- so many members from member m on are started
  abbrev pub starts : ℕ → ℕ → Stage → Played
  starts zero m s = nothing s
  starts (suc more) m s = followed (event_at s (model.Start m)) (starts more (suc m))

  -- so many messages from the k-th on are delivered, each after the one before; those that this sends are among them
  abbrev pub deliveries_from : ℕ → ℕ → Stage → Played
  deliveries_from zero k s = nothing s
  deliveries_from (suc more) k s = followed (delivery s k (nth s.sent k)) (deliveries_from more (suc k))

  -- the timer of member m goes off, and it is told to send its heartbeats
  abbrev pub stirred : ℕ → Stage → Played
  stirred m s = followed (event_at s (model.Hand m input.Timeout)) (λ t. event_at t (model.Hand m input.Beat))

  -- of what is sent then two messages for each member, which has a clock, are delivered, as the first of them come: to each other one,
  -- and back
  abbrev pub turn : ℕ → Stage → Played
  turn m s = followed (stirred m s) (deliveries_from (2 * length s.clocks) (suc (length s.sent)))

  -- so many turns, until all is well
  abbrev pub turns : ℕ → ℕ → Stage → Played
  turns zero m s = nothing s
  turns (suc more) m s = if is_well (length s.clocks) s.world m then nothing s else followed (turn m s) (turns more m)

  -- As many turns as it takes to bring each member the log of m, where none is longer than so many entries. A leader that could append no
  -- entry of its term had no stamp or no room left: told to close, it says which.
  abbrev pub spread_or_said : ℕ → ℕ → Stage → Played
  spread_or_said m most s = if ends_own (standing_at s.world m) then turns (2 * most + 4) m s else event_at s (model.Hand m (input.Close (reading_of s m)))

  -- two turns first: in the first member m hears of the greatest term, in the second it is elected
  abbrev pub led_on : ℕ → ℕ → Stage → Played
  led_on m most s = followed (turns 2 m s) (spread_or_said m most)

  -- messages that are still on their way then are lost
  abbrev pub led_by : ℕ → ℕ → Stage → Played
  led_by m most s = followed (led_on m most s) (λ t. nothing (all_lost t))

  -- one whose log is most up to date leads all on
  abbrev pub all_led_on : Stage → Played
  all_led_on s = led_by (foremost (length s.clocks) s.world) (longest (length s.clocks) s.world) s

  -- all are started first
  abbrev pub recovery : Stage → Played
  recovery s = followed (starts (length s.clocks) 1 s) all_led_on

  abbrev pub torn_delivery : Stage → ℕ → ℕ → Option Sent → Option Job
  torn_delivery s m k None = None
  torn_delivery s m k (Some message) = if message.addressee == m then Some (Delivery k (reading_of s m)) else None

  -- what a step of a member that is cut short is about: no message that was not sent to it
  abbrev pub job_at : Stage → ℕ → TornJob → Option Job
  job_at s m torn.Timeout = Some (Local input.Timeout)
  job_at s m torn.Beat = Some (Local input.Beat)
  job_at s m torn.Close = Some (Local (input.Close (reading_of s m)))
  job_at s m torn.Floor = Some (Local (input.Floor (reading_of s m)))
  job_at s m (torn.Submit client number text) = Some (Local (input.Submit (reading_of s m) (record { client = client; number = number; text = text })))
  job_at s m (torn.Deliver k) = torn_delivery s m k (nth s.sent k)

  -- its message counts as delivered
  abbrev pub torn_stage : Stage → TornJob → Stage
  torn_stage s torn.Timeout = s
  torn_stage s torn.Beat = s
  torn_stage s torn.Close = s
  torn_stage s torn.Floor = s
  torn_stage s (torn.Submit client number text) = s
  torn_stage s (torn.Deliver k) = delivered s k

  abbrev pub tear_of : Stage → ℕ → Left → TornJob → Option Job → Played
  tear_of s m left job found = option_map_or (λ about. event_at (torn_stage s job) (model.Torn m about left)) found (nothing s)

  -- a text that is no question is refused before the group is asked
  abbrev pub asked : Stage → ℕ → Result QueryShape Refusal → Played
  asked s m (Ok query) = record { acts = Asks m query ∷ []; stage = s }
  asked s m (Err refusal) = record { acts = Refuses m refusal ∷ []; stage = s }

  -- what a line brings
  abbrev pub played : Stage → Line → Played
  played s (Clock m reading) = nothing (record { clocks = with_nth s.clocks m reading; world = s.world; sent = s.sent })
  played s (ClockAll reading) = nothing (record { clocks = replicate (length s.clocks) reading; world = s.world; sent = s.sent })
  played s (Submit m client number text) = event_at s (model.Hand m (input.Submit (reading_of s m) (record { client = client; number = number; text = text })))
  played s (Timeout m) = event_at s (model.Hand m input.Timeout)
  played s (Beat m) = event_at s (model.Hand m input.Beat)
  played s (Close m) = event_at s (model.Hand m (input.Close (reading_of s m)))
  played s (Floor m) = event_at s (model.Hand m (input.Floor (reading_of s m)))
  played s (Deliver k) = delivery s k (nth s.sent k)
  played s (Lose k) = nothing (record { clocks = s.clocks; world = s.world; sent = changed as_lost s.sent k })
  played s LoseAll = nothing (all_lost s)
  played s (Settle most) = rounds (unwrap_or most 100) s
  played s Recover = recovery s
  played s (Stop m) = event_at s (model.Stop m)
  played s (Start m) = event_at s (model.Start m)
  played s (TornLine m left job) = if is_up s.world m then tear_of s m left job (job_at s m job) else nothing s
  played s (Ask m text) = asked s m (query_in tables text)

  -- what lines bring, each after the one before
  abbrev pub played_all : List Line → Stage → Played
  played_all [] s = nothing s
  played_all (line ∷ lines) s = followed (played s line) (played_all lines)

  -- ---- what is printed

  abbrev pub after_act : World → Act → World
  after_act w (Happens e) = happens (language_of tables) n w e
  after_act w (Asks m query) = w
  after_act w (Refuses m refusal) = w

  -- of an event, the text of what it gives; an answer has the columns of the table that was asked
  abbrev pub PrintsAct : World → Act → List ℕ → Type 0
  PrintsAct w (Happens e) text = (outs : List Output) × Gives (language_of tables) n w e (outputs_of outs) × (text ≡ flat_map output_text outs)
  PrintsAct w (Asks m query) text = (outs : List Output) × Gives (language_of tables) n w (model.Ask m (select_of query)) (outputs_of outs) × All (HasColumns tables query.table) outs × (text ≡ flat_map output_text outs)
  PrintsAct w (Refuses m refusal) text = text ≡ output_text (output.Refused m refusal)

  -- of acts, the texts in their order
  abbrev pub Prints : World → List Act → List ℕ → Type 0
  Prints w [] text = text ≡ []
  Prints w (act ∷ acts) text = (first : List ℕ) × (rest : List ℕ) × (text ≡ first ++ rest) × PrintsAct w act first × Prints (after_act w act) acts rest

  -- known bytes grow by exactly what acts print
  abbrev pub IsPrinted : World → List Act → Option (List ℕ) → Option (List ℕ) → Type 0
  IsPrinted w acts old new = (text : List ℕ) × Prints w acts text × Appends old new text

  -- known bytes grow by a beginning of what the first of these acts print
  abbrev pub IsBegun : World → List Act → Option (List ℕ) → Option (List ℕ) → Type 0
  IsBegun w acts old new = (first : List Act) × (rest : List Act) × (first ++ rest ≡ acts) × (text : List ℕ) × Prints w first text × AppendsBeginning old new text

-- the events among acts
abbrev pub events_in : List Act → List Event
events_in [] = []
events_in (Happens e ∷ acts) = e ∷ events_in acts
events_in (Asks m query ∷ acts) = model.Ask m (select_of query) ∷ events_in acts
events_in (Refuses m refusal ∷ acts) = events_in acts
