-- What is decided, and the agreement of all members about it.
use Rattle.std.specs.Prelude.{◌≡◌, ℕ, ◌<◌, nat_lt, if◌then◌else◌, Some, List, [], ◌∷◌, ◌++◌, length, map, Contains, fold, scan, flat_map}
use Rattle.model.specs.Lists.{nth, IsBeginning}
use Rattle.model.specs.Transactions.{Language}
use Rattle.model.specs.declared.entry.Entry.{Entry}
use Rattle.model.specs.declared.entry.Told.{Told}
use Rattle.model.specs.Answers.{Select, Answer}
use Rattle.model.specs.Members.{Node, applied}
use Rattle.model.specs.Worlds.{World, Event, Ask, Output, Applied, Answered}
use Rattle.believed.specs.Members.{closed_time}
use Rattle.believed.specs.Logs.{IsStamped, told_at}
use Rattle.believed.specs.Answers.{IsAnswer}
use Rattle.believed.specs.Worlds.{happens, run, Gives}

-- the longest applied list that any member had in the outset or after an event, the first such
abbrev pub decided : Language → ℕ → World → List Event → List Entry
decided language n outset events = fold (λ best list. if nat_lt (length best) (length list) then list else best) []
    (map (λ x. applied x) (flat_map (λ w. w.nodes) (outset ∷ scan (happens language n) (happens language n) outset events)))

-- All members agree, in a run from an outset.
pub record Agree (language : Language) (n : ℕ) (outset : World) (events : List Event) : Type 0 where
  -- 1. each applied list of each moment is a beginning of what is decided, and stamped
  pub applied_is_decided : (early late : List Event) (m : ℕ) (x : Node) → early ++ late ≡ events → nth (run language n outset early).nodes m ≡ Some x →
      IsBeginning (applied x) (decided language n outset events) × IsStamped (applied x)
  -- 2. what a shorter run decides is a beginning of what the longer one does
  pub decided_grows : (early late : List Event) → early ++ late ≡ events → IsBeginning (decided language n outset early) (decided language n outset events)
  -- 3. each answer so far is the one in what is decided; without system time, AS OF the last instant that it names
  pub answers_agree : (early late : List Event) (m : ℕ) (q : Select) (out : List Output) (a : Answer) → early ++ Ask m q ∷ late ≡ events →
      Gives language n (run language n outset early) (Ask m q) out → Contains out (Answered m a) →
      IsAnswer language q a.last (decided language n outset events) a
  -- 4. each decided entry past an applied list of any moment has a stamp above that member's closed time then
  pub nothing_later_is_closed : (early late : List Event) (m i t : ℕ) (x : Node) (e : Entry) → early ++ late ≡ events →
      nth (run language n outset early).nodes m ≡ Some x → closed_time x ≡ Some t →
      length (applied x) < i → nth (decided language n outset events) i ≡ Some e → t < e.stamp
  -- 5. what was told of each request so far is so in what is decided
  pub outcomes_agree : (early late : List Event) (e : Event) (out : List Output) (m : ℕ) (told : Told) → early ++ e ∷ late ≡ events →
      Gives language n (run language n outset early) e out → Contains out (Applied m told) →
      told_at language (decided language n outset events) told.index ≡ Some told
