-- Sessions: a group of members that is started, killed or closed, and started again from its databases, again and again. All
-- sessions together are one run. What the file of each session says happened goes into it, with a stop of all before each.
use Rattle.std.specs.Prelude.{◌≡◌, ℕ, zero, suc, ◌+◌, List, [], ◌∷◌, ◌++◌, map, length, replicate}
use Rattle.model.specs.Lists.{IsBeginning}
use Rattle.model.specs.Transactions.{Language}
use Rattle.model.specs.declared.message.Message.{Message}
use Rattle.model.specs.Members.{Node}
use Rattle.model.specs.Agreement.{Agree}
use Rattle.model.specs.declared.entry.Entry.{Entry}
use Rattle.model.specs.declared.event.Job.{Job}
use Rattle.model.specs.declared.event.Job.TheVariants.{Local, Delivery}
use Rattle.model.specs.Worlds.{World, Event, Hand, Deliver, Stop, Start, Torn, Ask, Output, new_world, run, GivesAll}
use Rattle.model.specs.Worlds.Output.{Sent}
use Rattle.onelist.specs.Explained.{Explains, IsInOrder}
use Rattle.sessions.specs.Kills.{durable, stop_all, Moment, Leaves, read_end, opened, Reaches}

-- ---- sessions

-- The events that are whole on its file; the moment of the kill that ended it (with nothing lost: a neat end); what the events
-- of the file gave; what the databases held after it.
pub record Session : Type 0 where
  pub filed : List Event
  pub moment : Moment
  pub gave : List (List Output)
  pub left : List Node

-- the events as the file tells of them
abbrev pub events_of : Session → List Event
events_of s = s.filed ++ read_end s.moment

-- It ran from these databases. Its messages are numbered from 1.
pub record IsSession (language : Language) (n : ℕ) (found : List Node) (s : Session) : Type 0 where
  pub leaves : Leaves language n (run language n (opened found) s.filed) s.moment s.left
  pub gives : GivesAll language n (opened found) (events_of s) s.gave

-- each session finds what the one before it left
abbrev pub AreSessions : Language → ℕ → List Node → List Session → Type 0
AreSessions language n found [] = Unit {0}
AreSessions language n found (s ∷ ss) = IsSession language n found s × AreSessions language n s.left ss

-- Likewise of a process that writes ahead: it came so far by `Reaches`, and then it was killed. What it printed came of the
-- first of its events.
pub record IsProcess (language : Language) (n : ℕ) (found : List Node) (s : Session) : Type 0 where
  pub printed : List Event
  pub reaches : Reaches language n found s.filed s.moment s.left printed
  pub gives : GivesAll language n (opened found) (events_of s) s.gave

abbrev pub AreProcesses : Language → ℕ → List Node → List Session → Type 0
AreProcesses language n found [] = Unit {0}
AreProcesses language n found (s ∷ ss) = IsProcess language n found s × AreProcesses language n s.left ss

-- what is found after these sessions
abbrev pub found_after : List Node → List Session → List Node
found_after found [] = found
found_after found (s ∷ ss) = found_after s.left ss

-- the databases of members that were never started
abbrev pub new_databases : ℕ → List Node
new_databases n = durable (new_world n)

-- ---- one run

-- the number of a session's message where so many were sent before the session; nothing has number 0
abbrev pub later_number : ℕ → ℕ → ℕ
later_number before zero = zero
later_number before (suc k) = suc (before + k)

abbrev pub later_job : ℕ → Job → Job
later_job before (Local input) = Local input
later_job before (Delivery k reading) = Delivery (later_number before k) reading

-- an event of a session, where so many messages were sent before the session
abbrev pub later : ℕ → Event → Event
later before (Hand m input) = Hand m input
later before (Deliver k reading) = Deliver (later_number before k) reading
later before (Stop m) = Stop m
later before (Start m) = Start m
later before (Torn m job left) = Torn m (later_job before job) left
later before (Ask m q) = Ask m q

-- and what it gives
abbrev pub later_output : ℕ → Output → Output
later_output before (Sent number message) = Sent (before + number) message
later_output before output = output

-- a session in a run: all are stopped, and then what its file says happens
abbrev pub in_run : ℕ → World → Session → List Event
in_run n w s = stop_all n ++ map (later (length w.sent)) (events_of s)

-- all sessions as one list of events, after the world w
abbrev pub joined : Language → ℕ → World → List Session → List Event
joined language n w [] = []
joined language n w (s ∷ ss) = in_run n w s ++ joined language n (run language n w (in_run n w s)) ss

-- what these events gave: a stop gives nothing
abbrev pub joined_gave : Language → ℕ → World → List Session → List (List Output)
joined_gave language n w [] = []
joined_gave language n w (s ∷ ss) = (replicate n [] ++ map (map (later_output (length w.sent))) s.gave) ++ joined_gave language n (run language n w (in_run n w s)) ss

-- the world in which the next session begins
abbrev pub so_far : Language → ℕ → List Session → World
so_far language n sessions = run language n (new_world n) (joined language n (new_world n) sessions)

-- All sessions are one run.
pub record AreOneRun (language : Language) (n : ℕ) (sessions : List Session) : Type 0 where
  -- 1. before each session, after a stop of all, every member is what the databases hold that the session found
  pub begins : (before after : List Session) → before ++ after ≡ sessions →
      (run language n (so_far language n before) (stop_all n)).nodes ≡ found_after (new_databases n) before
  -- 2. and at each moment of the session it is what it is in the session by itself
  pub goes : (before after : List Session) (s : Session) → before ++ s ∷ after ≡ sessions → (early late : List Event) → early ++ late ≡ events_of s →
      (run language n (so_far language n before) (stop_all n ++ map (later (length (so_far language n before).sent)) early)).nodes ≡ (run language n (opened (found_after (new_databases n) before)) early).nodes
  -- 3. the events of the run give what the sessions' events gave
  pub gives : GivesAll language n (new_world n) (joined language n (new_world n) sessions) (joined_gave language n (new_world n) sessions)
  -- 4. all members agree in it
  pub agree : Agree language n (new_world n) (joined language n (new_world n) sessions)

-- What was sent before a session is nothing to it: with its messages counted on, its members do the same, it gives what it gives
-- by itself, and nothing else.
pub record IsAlone (language : Language) (n : ℕ) (before : List Message) (found : List Node) (events : List Event) : Type 0 where
  pub same : (run language n (record { nodes = found; sent = before }) (map (later (length before)) events)).nodes ≡ (run language n (opened found) events).nodes
  pub gives : (outs : List (List Output)) → GivesAll language n (opened found) events outs →
      GivesAll language n (record { nodes = found; sent = before }) (map (later (length before)) events) (map (map (later_output (length before))) outs)
  pub no_more : (outs : List (List Output)) → GivesAll language n (record { nodes = found; sent = before }) (map (later (length before)) events) outs →
      (own : List (List Output)) × GivesAll language n (opened found) events own × (outs ≡ map (map (later_output (length before))) own)

-- One list explains all that was told and answered in all sessions; and with each session it goes on, and within one too: what
-- a session's file has so far may be seen as a session that is killed now.
pub record OneListExplainsAll (language : Language) (n : ℕ) : Type 0 where
  pub list : List Session → List Entry
  pub explains : (sessions : List Session) → AreSessions language n (new_databases n) sessions →
      Explains language (joined language n (new_world n) sessions) (joined_gave language n (new_world n) sessions) (list sessions)
  pub in_order : (sessions : List Session) → AreSessions language n (new_databases n) sessions →
      IsInOrder language (joined language n (new_world n) sessions) (joined_gave language n (new_world n) sessions) (list sessions)
  pub goes_on : (sessions more : List Session) → IsBeginning (list sessions) (list (sessions ++ more))
  pub goes_on_within : (sessions more : List Session) (s t : Session) → IsBeginning (events_of s) (events_of t) → IsBeginning (list (sessions ++ s ∷ [])) (list (sessions ++ t ∷ more))
