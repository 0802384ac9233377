-- Which call of a keeper in memory is to fail.
use Rattle.std.specs.Prelude.{◌≡◌, ◌↔◌, ℕ, ◌+◌, ◌-◌, true, Result, Err, OnOk}
use Rattle.keep.specs.Durable.{Durable, stored_in}
use Rattle.keep.specs.declared.error.StoreError.{StoreError}
use Rattle.keep.specs.declared.error.StoreError.TheVariants.{StoreFault}
use Rattle.keep.specs.declared.memory.MemKeeper.{MemKeeper}

-- what it stores
abbrev pub stored_by : MemKeeper → Durable
stored_by k = stored_in k.image

-- which of its calls from now on is to fail, the next being 1; 0 is none
abbrev pub failing_next : MemKeeper → ℕ
failing_next k = k.left

-- how often it has failed
abbrev pub failures_of : MemKeeper → ℕ
failures_of k = k.failures

-- how often an entry was asked of it
abbrev pub asks_of : MemKeeper → ℕ
asks_of k = k.asked

-- how often a save was asked of it
abbrev pub saves_of : MemKeeper → ℕ
saves_of k = k.saved

-- A call of it is counted.
pub record IsCounted {A : Type 0} (old new : MemKeeper) (result : Result A StoreError) : Type 0 where
  -- StoreFault exactly where this is the call that is to fail
  pub fault : (result ≡ Err StoreFault) ↔ ((old.is_up ≡ true) × (failing_next old ≡ 1))
  -- any other brings that one nearer
  pub nearer : OnOk result (failing_next new ≡ failing_next old - 1)
  -- only a StoreFault is a failure
  pub one : result ≡ Err StoreFault → failures_of new ≡ failures_of old + 1
  pub none : (result ≡ Err StoreFault → ⊥) → failures_of new ≡ failures_of old
