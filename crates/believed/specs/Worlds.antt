-- All members and every message ever sent, through any list of events, and what the events give.
use Rattle.std.specs.Prelude.{◌≡◌, ℕ, ◌+◌, ◌-◌, Bool, true, false, ◌==◌, ◌&&◌, not, if◌then◌else◌, Option, Some, None, Ok, Err, MatchBool, MatchOption, List, [], ◌∷◌, ◌++◌, map, length, option_map, fold}
use Rattle.std.specs.List.{filter_map, range_with_len, enumerate_from}
use Rattle.std.specs.Option.{option_map_or}
use Rattle.model.specs.Lists.{nth, with_nth}
use Rattle.fault.specs.declared.refusal.Refusal.TheVariants.{NotClosed, NodeDown}
use Rattle.model.specs.Transactions.{Language}
use Rattle.model.specs.Answers.{Select, Answer}
use Rattle.model.specs.declared.message.Message.{Message}
use Rattle.model.specs.Members.{Node, applied}
use Rattle.model.specs.declared.message.Input.TheVariants.{Submit}
use Rattle.model.specs.declared.event.Job.{Job}
use Rattle.model.specs.declared.event.Job.TheVariants.{Local, Delivery}
use Rattle.model.specs.declared.event.Left.{Left}
use Rattle.model.specs.declared.event.Left.TheVariants.{New}
use Rattle.model.specs.Worlds.{World, Event, Hand, Deliver, Stop, Start, Torn, Ask, Output, Sent, Applied, Refused, Answered, stopped}
use Rattle.believed.specs.Days.{instant_text}
use Rattle.believed.specs.Members.{closed_time}
use Rattle.believed.specs.Logs.{told_at}
use Rattle.believed.specs.Answers.{IsAnswer, closed_for}
use Rattle.believed.specs.Steps.{Effect, Moves, Refuses, Nothing, on_input, on_message}

-- ---- steps of members

-- what the job comes to at member m; a text that spells nothing is refused before the step
abbrev pub effect : Language → ℕ → World → ℕ → Job → Node → Effect
effect language n w m (Local (Submit reading request)) x =
    elim (language.reads request.text) [ Ok statements ↦ on_input n m (Submit reading request) x | Err refusal ↦ Refuses refusal ]
effect language n w m (Local input) x = on_input n m input x
effect language n w m (Delivery k reading) x = option_map_or (λ message. on_message n m language reading message x) (nth w.sent k) Nothing

abbrev pub with_node : World → ℕ → Node → List Message → World
with_node w m x sent = record { nodes = with_nth w.nodes m x; sent = w.sent ++ sent }

-- the world after a step of member m, and what it gives: its messages with their numbers, then what it tells of the requests that became applied
abbrev pub stepped : Language → World → ℕ → Node → Effect → World × List Output
stepped language w m x (Moves y sent) =
    let tells = filter_map (told_at language y.log) (range_with_len (x.commit + 1) (y.commit - x.commit)) in
    (with_node w m y sent, map (λ s. Sent s.0 s.1) (enumerate_from (length w.sent + 1) sent) ++ map (Applied m) tells)
stepped language w m x (Refuses refusal) = (w, Refused m refusal ∷ [])
stepped language w m x Nothing = (w, [])

-- member m does a job; one that is down refuses all, and one that is not there does nothing
abbrev pub done : Language → ℕ → World → ℕ → Job → World × List Output
done language n w m job =
    option_map_or (λ x. if x.up then stepped language w m x (effect language n w m job x) else (w, Refused m NodeDown ∷ [])) (nth w.nodes m) (w, [])

-- member m becomes this, if it is there and passes
abbrev pub turned : World → ℕ → (Node → Bool) → (Node → Node) → World
turned w m passes f = option_map_or (λ x. if passes x then with_node w m (f x) [] else w) (nth w.nodes m) w

-- what a step that is cut short leaves; of a refusal, and of nothing, old and new are the same
abbrev pub left_of : Left → Node → Effect → Node
left_of New x (Moves y sent) = y
left_of left x other = x

-- a delivery is of a message that was sent, to the member that it is addressed to
abbrev pub is_for : World → ℕ → Job → Bool
is_for w m (Local input) = true
is_for w m (Delivery k reading) = option_map_or (λ message. message.addressee == m) (nth w.sent k) false

-- ---- events

-- the world after an event, and what it gives. One that cannot be changes nothing.
abbrev pub comes : Language → ℕ → World → Event → World × List Output
comes language n w (Hand m input) = done language n w m (Local input)
comes language n w (Deliver k reading) = option_map_or (λ p. done language n w p.addressee (Delivery k reading)) (nth w.sent k) (w, [])
comes language n w (Stop m) = (turned w m (λ x. x.up) stopped, [])
comes language n w (Start m) = (turned w m (λ x. not x.up) (λ x. record (stopped x) { up = true }), [])
comes language n w (Torn m job left) = (turned w m (λ x. x.up && is_for w m job) (λ x. stopped (left_of left x (effect language n w m job x))), [])
comes language n w (Ask m q) = (w, [])

abbrev pub happens : Language → ℕ → World → Event → World
happens language n w e = (comes language n w e).0

-- the world after these events
abbrev pub run : Language → ℕ → World → List Event → World
run language n w events = fold (happens language n) w events

-- the answer to a query that is closed, or 33
abbrev pub IsGivenIn : Language → ℕ → Select → Node → Option ℕ → List Output → Type 0
IsGivenIn language m q x None out = out ≡ Refused m (NotClosed (option_map instant_text (closed_time x))) ∷ []
IsGivenIn language m q x (Some t) out = (a : Answer) × IsAnswer language q t (applied x) a × (out ≡ Answered m a ∷ [])

-- what an event gives in a world
abbrev pub Gives : Language → ℕ → World → Event → List Output → Type 0
Gives language n w (Ask m q) out =
    MatchOption (nth w.nodes m) (out ≡ []) (λ x. MatchBool x.up (IsGivenIn language m q x (closed_for q (closed_time x)) out) (out ≡ Refused m NodeDown ∷ []))
Gives language n w event out = out ≡ (comes language n w event).1

-- what the events of a run give, each in its turn
abbrev pub GivesAll : Language → ℕ → World → List Event → List (List Output) → Type 0
GivesAll language n w [] outs = outs ≡ []
GivesAll language n w (e ∷ es) outs =
    (out : List Output) × (rest : List (List Output)) × (outs ≡ out ∷ rest) × Gives language n w e out × GivesAll language n (happens language n w e) es rest
