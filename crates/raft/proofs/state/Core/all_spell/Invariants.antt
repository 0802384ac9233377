use Rattle.std.proofs.Common.{◌≡◌, true, drop}
use Rattle.std.specs.List.{list_all}
use Rattle.sqlread.specs.Meaning.{language_of}
use Rattle.model.specs.Steps.{spells}
use Rattle.keep.specs.Log.{is_entry}
use Rattle.raft.proofs.state.Core.all_spell.Given as goal

abbrev pub invariant-loop-i : goal.invariant-loop-i
invariant-loop-i l = list_all (is_entry (language_of l.self.schema)) l.window ≡ true → list_all (λ e. spells (language_of l.self.schema) e.request) l.entries ≡ list_all (λ e. spells (language_of l.self.schema) e.request) (drop l.i l.entries)
