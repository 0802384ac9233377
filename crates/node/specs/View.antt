-- What a node stores, tells and answers, in the words of the definitions and of its keeper.
use Rattle.std.specs.Prelude.{◌≡◌, ℕ, ◌+◌, ◌-◌, ◌≤◌, Bool, false, nat_lt, if◌then◌else◌, Option, Some, None, Result, Ok, Err, List, [], length, ◌⊎◌}
use Rattle.std.specs.List.{filter_map, range_with_len}
use Rattle.model.specs.declared.entry.Entry.{Entry}
use Rattle.model.specs.declared.entry.Told.{Told}
use Rattle.model.specs.Transactions.{Language}
use Rattle.model.specs.Logs.{told_at}
use Rattle.model.specs.Members.{Node}
use Rattle.model.specs.Steps.{Effect, Moves, Refuses, Nothing}
use Rattle.model.specs.Worlds.{fresh, started}
use Rattle.keep.specs.Durable.{Durable, one_more, IsBeforeOrAfter}
use Rattle.keep.specs.declared.change.Change.{Change}
use Rattle.keep.specs.declared.error.StoreError.{StoreError}
use Rattle.keep.specs.declared.error.StoreError.TheVariants.{BadStore}
pub use Rattle.raft.specs.View.{after_change, hard_of, works, Grows}
pub use Rattle.raft.specs.Reading.{IsCause, IsCauseOr}
pub use Rattle.raft.specs.Memory.{spares_memory}
pub use Rattle.apply.specs.View.{IsAskedOf}
use Rattle.node.specs.declared.node.Out.{Out}
use Rattle.node.specs.declared.node.Fault.{Fault}
use Rattle.node.specs.declared.node.Fault.TheVariants.{Kept, Down}

-- what of a member is stored
abbrev pub durable_of : Node → Durable
durable_of x = record { hard = hard_of x; log = x.log }

-- how often a save was asked for once a change is stored, if there is one
abbrev pub saves_after : Option Change → ℕ → ℕ
saves_after None n = n
saves_after (Some c) n = one_more n

-- one save is asked for exactly where what is stored changes
abbrev pub IsSavedOnce : Durable → Durable → ℕ → ℕ → Type 0
IsSavedOnce before new saves saves' = ((new ≡ before) × (saves' ≡ saves)) ⊎ ((new ≡ before → ⊥) × (saves' ≡ one_more saves))

-- one at most
abbrev pub IsSavedAtMostOnce : ℕ → ℕ → Type 0
IsSavedAtMostOnce saves saves' = (saves' ≡ saves) ⊎ (saves' ≡ one_more saves)

-- it keeps no more than there is
abbrev pub Fits : Option Change → Durable → Type 0
Fits None d = Unit {0}
Fits (Some c) d = c.kept ≤ length d.log

-- what is told of the entries after one index, up to another
unfoldable pub told_between : Language → List Entry → ℕ → ℕ → List Told
told_between schema log before commit = filter_map (told_at schema log) (range_with_len (before + 1) (commit - before))

-- a member that is started with this stored
abbrev pub started_from : Durable → Node
started_from d = started (record (fresh d.hard.term d.hard.vote) { floor = d.hard.floor; log = d.log })

-- the instant now sealed where it is above what was sealed before, else none
abbrev pub risen : Option ℕ → Option ℕ → Option ℕ
risen None now = now
risen (Some before) None = None
risen (Some before) (Some now) = if nat_lt before now then Some now else None

abbrev pub IsEmpty : Out → Type 0
IsEmpty out = (out.messages.items ≡ []) × (out.applied.items ≡ []) × (out.told.items ≡ []) × (out.sealed ≡ None)

-- a step from one node to another gives what its definition says; where nothing comes of it nothing is given or changed
abbrev pub IsGiven : Node → Node → Effect → Out → Type 0
IsGiven old new effect out = (Moves (record { node = new; sent = out.messages.items }) ≡ effect) ⊎ ((Nothing ≡ effect) × (new ≡ old) × IsEmpty out)

-- so does one that may be refused; a node that goes down says nothing
abbrev pub Gave : Node → Node → Effect → Result Out Fault → Type 0
Gave old new effect (Ok out) = IsGiven old new effect out
Gave old new effect (Err (Kept refusal)) = Refuses refusal ≡ effect
Gave old new effect (Err (Down error)) = Unit {0}

-- nothing changed
abbrev pub IsKept : Fault → Type 0
IsKept (Kept refusal) = Unit {0}
IsKept (Down error) = ⊥

-- a fault that is kept leaves the node up or down as it was, any other takes it down
abbrev pub LeavesUp : Bool → Bool → Fault → Type 0
LeavesUp up up' (Kept refusal) = up' ≡ up
LeavesUp up up' (Down error) = up' ≡ false

-- each fault that takes the node down has such a cause
abbrev pub HasCause : ℕ → ℕ → Fault → Type 0
HasCause failed failed' (Kept refusal) = Unit {0}
HasCause failed failed' (Down error) = IsCause failed failed' error

-- each fault that takes the node down has such a cause
abbrev pub HasCauseOr : Type 0 → ℕ → ℕ → Fault → Type 0
HasCauseOr honest failed failed' (Kept refusal) = Unit {0}
HasCauseOr honest failed failed' (Down error) = IsCauseOr honest failed failed' error

-- the cause is one of these, or that the store was not honest, which is told as 44
abbrev pub IsCauseOrBad : Type 0 → ℕ → ℕ → StoreError → Type 0
IsCauseOrBad honest failed failed' error = IsCause failed failed' error ⊎ ((error ≡ BadStore) × (honest → ⊥))

-- a refusal changes nothing
abbrev pub IsSame : Node → Node → Fault → Type 0
IsSame old new (Kept refusal) = new ≡ old
IsSame old new (Down error) = Unit {0}

-- after a step that goes down, what the keeper holds is what was stored before it, or after it
abbrev pub IsTorn : Durable → Durable → (Durable → Type 0) → Result Out Fault → Type 0
IsTorn before new held (Ok out) = Unit {0}
IsTorn before new held (Err (Kept refusal)) = Unit {0}
IsTorn before new held (Err (Down error)) = (d : Durable) → held d → IsBeforeOrAfter before new d
