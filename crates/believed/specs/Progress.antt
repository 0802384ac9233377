-- No majority of a group is ever stuck: from wherever a run has come, some of what its members do by themselves leads to a
-- leader among them and to one applied log, and a request that is handed in then is applied by all of them, whatever the other
-- members are. That messages are delivered in the end, and which, is nobody's promise: this says only that the way is open.
-- `live` is the majority, as a test on members.
use Rattle.std.specs.Prelude.{◌≡◌, ℕ, suc, ℤ, pos, ◌+◌, ◌*◌, ◌<◌, ◌≤◌, ◌↔◌, Bool, true, Some, Ok, List, [], ◌∷◌, ◌++◌, length}
use Rattle.model.specs.Lists.{nth}
use Rattle.model.specs.Transactions.{Language, Statement}
use Rattle.model.specs.Stamps.{TIME_LAST}
use Rattle.model.specs.declared.entry.Entry.{Entry}
use Rattle.model.specs.declared.entry.Told.{Told}
use Rattle.model.specs.declared.entry.Request.{Request}
use Rattle.model.specs.Members.{Node, applied}
use Rattle.model.specs.declared.message.TheConstants.{LAST_TERM, LOG_ROOM}
use Rattle.model.specs.declared.message.Input.TheVariants.{Timeout, Beat, Submit}
use Rattle.model.specs.declared.message.Message.{Message}
use Rattle.model.specs.declared.message.Role.TheVariants.{Leader}
use Rattle.model.specs.Worlds.{World, Event, Output, Hand, Deliver, Start}
use Rattle.model.specs.Worlds.Output.{Applied}
use Rattle.believed.specs.Members.{is_majority}
use Rattle.believed.specs.Steps.{least_stamp}
use Rattle.believed.specs.Logs.{told_at}
use Rattle.believed.specs.Worlds.{happens, run, GivesAll}
use Rattle.believed.specs.Explained.{Gave}

-- nothing goes wrong, and only the majority does anything, while clocks show the reading: one of them starts, a timer of one goes
-- off, or a message from one to another is delivered
pub data IsMild (live : ℕ → Bool) (reading : ℤ) (w : World) : Event → Type 0 where
  Starts : (m : ℕ) → live m ≡ true → IsMild live reading w (Start m)
  TimesOut : (m : ℕ) → live m ≡ true → IsMild live reading w (Hand m Timeout)
  Beats : (m : ℕ) → live m ≡ true → IsMild live reading w (Hand m Beat)
  Arrives : (k : ℕ) (p : Message) → nth w.sent k ≡ Some p → live p.sender ≡ true → live p.addressee ≡ true → IsMild live reading w (Deliver k reading)

-- the i-th event, counted from 0, finds the clocks at the i-th reading
abbrev pub AllMild : Language → ℕ → (ℕ → Bool) → (ℕ → ℤ) → World → List Event → Type 0
AllMild language n live clock w [] = Unit {0}
AllMild language n live clock w (e ∷ es) = IsMild live (clock 0) w e × AllMild language n live (λ i. clock (suc i)) (happens language n w e) es

-- so many mild events, at most, lead to P, while clocks show these readings
abbrev pub Leads : Language → ℕ → (ℕ → Bool) → (ℕ → ℤ) → ℕ → World → (World → Type 0) → Type 0
Leads language n live clock most w P = (events : List Event) × AllMild language n live clock w events × (length events ≤ most) × P (run language n w events)

-- to each of the majority two terms and two instants are left, and its log has at most k entries, two or more below the limit
abbrev pub Room : (ℕ → Bool) → ℕ → World → Type 0
Room live k w = (k + 2 ≤ LOG_ROOM) × ((m : ℕ) (x : Node) → live m ≡ true → nth w.nodes m ≡ Some x →
    (x.term + 2 ≤ LAST_TERM) × (least_stamp x + 1 ≤ TIME_LAST) × (length x.log ≤ k))

-- member m is up and in the term, it leads or follows, and its log is the list, which it has applied
abbrev pub IsInStep : ℕ → ℕ → List Entry → ℕ → Node → Type 0
IsInStep leader term list m x = (x.up ≡ true) × (x.term ≡ term) × ((x.role ≡ Leader) ↔ (m ≡ leader)) × (x.log ≡ list) × (applied x ≡ list)

-- all of the majority are up, one of them leads, and all have its log and have applied it
abbrev pub IsWell : ℕ → (ℕ → Bool) → ℕ → List Entry → World → Type 0
IsWell n live leader list w = (0 < leader) × (leader ≤ n) × (live leader ≡ true) ×
    ((term : ℕ) × ((m : ℕ) → 0 < m → m ≤ n → live m ≡ true → (x : Node) × (nth w.nodes m ≡ Some x) × IsInStep leader term list m x))

-- how many events lead a majority of n members, with at most k entries in a log, to where all is well
abbrev pub enough : ℕ → ℕ → ℕ
enough n k = n * (6 * k + 15) + 9

-- mild events lead to where all is well with the request for one entry more, and each has told of it, and all the same
pub record Served (language : Language) (n : ℕ) (live : ℕ → Bool) (clock : ℕ → ℤ) (most leader : ℕ) (list : List Entry) (r : Request) (w : World) : Type 0 where
  pub entry : Entry
  pub asks : entry.request ≡ Some r
  pub way : Leads language n live clock most w (IsWell n live leader (list ++ entry ∷ []))
  pub told : (m : ℕ) → 0 < m → m ≤ n → live m ≡ true → (told : Told) × (told_at language (list ++ entry ∷ []) (length list + 1) ≡ Some told) ×
      ((outs : List (List Output)) → GivesAll language n w way.0 outs → (k : ℕ) × Gave outs k (Applied m told))

-- all is well, and once the request is handed to the leader, it is served
abbrev pub Serves : Language → ℕ → (ℕ → Bool) → ℕ → ℤ → Request → World → Type 0
Serves language n live most reading r w = (leader : ℕ) × (list : List Entry) × IsWell n live leader list w
    × ((clock : ℕ → ℤ) → Served language n live clock most leader list r (happens language n w (Hand leader (Submit reading r))))

-- mild events lead from here, if a majority has room left, to where a request that can be read is served
abbrev pub CanServe : Language → ℕ → World → Type 0
CanServe language n w = (live : ℕ → Bool) (clock : ℕ → ℤ) (k : ℕ) (reading : ℤ) (r : Request) (statements : List Statement) →
    2 ≤ n → is_majority n live ≡ true → ((i : ℕ) → clock i ≡ pos TIME_LAST → ⊥) → Room live k w → language.reads r.text ≡ Ok statements →
    Leads language n live clock (enough n k) w (Serves language n live (enough n k + 3 * n) reading r)
