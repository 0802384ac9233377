use Rattle.std.proofs.Common.{◌≤◌, ◌-◌, vec_len, length}
use Rattle.std.specs.Str.{IsUtf8}
use Rattle.flight.specs.Spelling.{entry_text}
use Rattle.flight.specs.Ranges.{IsEntry}
use Rattle.flight.proofs.Lists.{TakenOf}
use Rattle.flight.proofs.entries.read_each_entry.Given as goal

abbrev pub invariant-loop-alloc : goal.invariant-loop-alloc
invariant-loop-alloc l = record { utf8 : IsUtf8 l.rest; few : length l.entries.items ≤ l.count; taken : TakenOf IsEntry entry_text l.count l.text l.entries.items l.rest }

abbrev pub decreases-loop-alloc : goal.decreases-loop-alloc
decreases-loop-alloc l = l.count - vec_len l.entries
