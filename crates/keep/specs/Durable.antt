-- What a keeper stores.
use Rattle.std.specs.Prelude.{◌≡◌, ◌⊎◌, ℕ, ◌+◌, ◌-◌, min, None, List, [], ◌++◌, length, take, drop}
use Rattle.model.specs.declared.entry.Entry.{Entry}
use Rattle.keep.specs.declared.change.Change.{Change}
use Rattle.keep.specs.declared.hard_state.HardState.{HardState}
use Rattle.keep.specs.declared.memory.MemImage.{MemImage}

pub record Durable : Type 0 where
  pub hard : HardState
  pub log : List Entry

-- this hard state, with an empty log
abbrev pub beginning : HardState → Durable
beginning hard = record { hard = hard; log = [] }

-- before anything was stored
abbrev pub blank : Durable
blank = beginning (record { term = 0; vote = None; floor = None })

-- what a change makes of what is stored
abbrev pub after : Change → Durable → Durable
after c d = record { hard = c.hard; log = take c.kept d.log ++ c.entries.items }

-- what was stored before, or what is new, and nothing else
abbrev pub IsBeforeOrAfter : Durable → Durable → Durable → Type 0
IsBeforeOrAfter before new d = (d ≡ before) ⊎ (d ≡ new)

-- what an image in memory holds
abbrev pub stored_in : MemImage → Durable
stored_in i = record { hard = i.hard; log = i.entries.items }

-- which call of its next keeper is to fail, its open being 1; 0 is none
abbrev pub failing_call : MemImage → ℕ
failing_call i = i.fail_at

-- the last entries of a log, 1,024 of them, or all where there are fewer
abbrev pub tail_of : List Entry → List Entry
tail_of log = drop (length log - 1024) log

-- one more; the greatest number of 64 bits stays
abbrev pub one_more : ℕ → ℕ
one_more n = min (n + 1) 18446744073709551615
