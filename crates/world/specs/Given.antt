-- What the events of a run gave. It is known by the events, so that a world can keep it.
use Rattle.std.specs.Prelude.{◌≡◌, ℕ, Bool, true, false, Option, Some, None, List, [], ◌∷◌, map}
use Rattle.std.proofs.Common.{ap, sym, ◌∙◌}
use Rattle.std.proofs.Math.Logic.{∥∥₁_elim}
use Rattle.std.proofs.Props.{props}
use mathlib.Core.HLevel.{Σ_prop_path}
use mathlib.Core.Logic.{∥∥₁_prop}
use Rattle.fault.specs.declared.refusal.Refusal.{Refusal}
use Rattle.model.specs.declared.entry.Request.{Request}
use Rattle.model.specs.declared.entry.Entry.{Entry}
use Rattle.model.specs.declared.entry.Told.{Told}
use Rattle.model.specs.declared.message.Body.{Body}
use Rattle.model.specs.declared.message.Message.{Message}
use Rattle.model.specs.declared.value.Value.{Value}
use Rattle.model.specs.Tables.{Row}
use Rattle.model.specs.Transactions.{Language}
use Rattle.model.specs.Lists.{nth}
use Rattle.model.specs.Logs.{state_at}
use Rattle.model.specs.Members.{Node, applied, closed_time}
use Rattle.model.specs.Answers.{Query, Select, Shown, Answer, closed_query}
use Rattle.model.specs.Worlds.{World, Event, Output, Hand, Deliver, Stop, Start, Torn, Ask, happens, new_world, Gives, GivesAll, IsGivenIn, IsGivenBy, IsGivenAt}
use Rattle.model.specs.Worlds.Output.{Answered}
use Rattle.safety.proofs.Unique.{one_answer}
use Rattle.sqlchecks.specs.Columns.{Tables}
use Rattle.sqlread.specs.Meaning.{language_of}
use Rattle.world.specs.declared.event.Event.{Event as Given}
use Rattle.world.specs.View.{event_of}

-- lists of outputs, one for each of these events, that they gave in a group of so many members, from when nothing had happened on
abbrev pub HasGiven : Tables → ℕ → List Given → Type 0
HasGiven schema members events = (given : List (List Output)) × ∥ GivesAll (language_of schema) members (new_world members) (map event_of events) given ∥₁

-- ---- outputs

refusal_set : IsSet Refusal
refusal_set = hlevel props

request_set : IsSet Request
request_set = hlevel props

entry_set : IsSet Entry
entry_set = hlevel (props, request_set)

told_set : IsSet Told
told_set = hlevel (props, refusal_set)

body_set : IsSet Body
body_set = hlevel (props, entry_set)

message_set : IsSet Message
message_set = hlevel (props, body_set)

value_set : IsSet Value
value_set = hlevel props

row_set : IsSet Row
row_set = hlevel (props, value_set)

shown_set : IsSet Shown
shown_set = hlevel (props, row_set)

answer_set : IsSet Answer
answer_set = hlevel (props, shown_set)

output_set : IsSet Output
output_set = hlevel (props, refusal_set, told_set, message_set, answer_set)

pub outputs_set : IsSet (List (List Output))
outputs_set = hlevel (props, output_set)

-- ---- what an event gives is one list

module _ (language : Language) (n : ℕ) where
  in_once : (m : ℕ) (x : Node) (o : Option Query) (a b : List Output) → IsGivenIn language m x o a → IsGivenIn language m x o b → a ≡ b
  in_once m x None a b p q = p ∙ sym q
  in_once m x (Some query) a b (s, i, p) (t, j, q) =
      p ∙ ap (λ z. Answered m z ∷ []) (one_answer (λ u. state_at language (applied x) u query.table) query s t i j) ∙ sym q

  by_once : (m : ℕ) (q : Select) (x : Node) (up : Bool) (a b : List Output) → IsGivenBy language m q x up a → IsGivenBy language m q x up b → a ≡ b
  by_once m q x true a b g h = in_once m x (closed_query q (closed_time x)) a b g h
  by_once m q x false a b g h = g ∙ sym h

  at_once : (m : ℕ) (q : Select) (o : Option Node) (a b : List Output) → IsGivenAt language m q o a → IsGivenAt language m q o b → a ≡ b
  at_once m q None a b g h = g ∙ sym h
  at_once m q (Some x) a b g h = by_once m q x x.up a b g h

  once : (w : World) (e : Event) (a b : List Output) → Gives language n w e a → Gives language n w e b → a ≡ b
  once w (Hand m input) a b g h = g ∙ sym h
  once w (Deliver k reading) a b g h = g ∙ sym h
  once w (Stop m) a b g h = g ∙ sym h
  once w (Start m) a b g h = g ∙ sym h
  once w (Torn m job left) a b g h = g ∙ sym h
  once w (Ask m q) a b g h = at_once m q (nth w.nodes m) a b g h

  pub all_once : (events : List Event) (w : World) (these those : List (List Output)) → GivesAll language n w events these → GivesAll language n w events those → these ≡ those
  all_once [] w these those g h = g ∙ sym h
  all_once (e ∷ es) w these those (a, more, p, g, gs) (b, others, q, h, hs) =
      p ∙ ap (λ z. z ∷ more) (once w e a b g h) ∙ ap (λ z. b ∷ z) (all_once es (happens language n w e) more others gs hs) ∙ sym q

pub given_prop : (schema : Tables) (members : ℕ) (events : List Given) → IsProp (HasGiven schema members events)
given_prop schema members events x y =
    let P : List (List Output) → Type 0 = λ given. GivesAll (language_of schema) members (new_world members) (map event_of events) given in
    Σ_prop_path {B = λ given. ∥ P given ∥₁} (λ given. ∥∥₁_prop) {u = x} {v = y}
    (∥∥₁_elim x.1 (outputs_set x.0 y.0) (λ (p : P x.0). ∥∥₁_elim y.1 (outputs_set x.0 y.0) (λ (q : P y.0).
    all_once (language_of schema) members (map event_of events) (new_world members) x.0 y.0 p q)))
