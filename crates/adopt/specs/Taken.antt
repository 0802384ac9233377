-- What members take in the events of a run, as a journal says it.
use Rattle.std.specs.Prelude.{Option, Some, None, List, slice_get, option_and_then}
use Rattle.model.specs.Worlds.{Event}
use Rattle.model.specs.Worlds.Event.{Hand, Deliver, Stop, Start, Torn, Ask}
use Rattle.model.specs.declared.event.Job.{Job}
use Rattle.model.specs.declared.event.Job.TheVariants.{Local, Delivery}
use Rattle.model.specs.declared.message.Input.{Input}
use Rattle.model.specs.declared.message.Input.TheVariants as input
use Rattle.journal.specs.declared.line.Taken.{Taken}
use Rattle.journal.specs.declared.line.Taken.TheVariants.{Timeout, Beat, Close, Floor, Submit, Message}

abbrev pub input_taken : Input → Taken
input_taken input.Timeout = Timeout
input_taken input.Beat = Beat
input_taken (input.Close reading) = Close
input_taken (input.Floor reading) = Floor
input_taken (input.Submit reading request) = Submit request

-- a message by its number, of all that were sent
abbrev pub job_taken : Job → Taken
job_taken (Local given) = input_taken given
job_taken (Delivery k reading) = Message k

-- none of an event by which nothing is taken
abbrev pub event_taken : Event → Option Taken
event_taken (Hand m given) = Some (input_taken given)
event_taken (Deliver k reading) = Some (Message k)
event_taken (Torn m job left) = Some (job_taken job)
event_taken (Stop m) = None
event_taken (Start m) = None
event_taken (Ask m query) = None

-- what is taken by the one event of a step
abbrev pub taken_in : List Event → Option Taken
taken_in events = option_and_then event_taken (slice_get events 0)
