use Rattle.std.proofs.Common.{◌≡◌, nat_le, drop}
use Rattle.std.specs.List.{list_all}
use Rattle.model.specs.Steps.{TERM_LAST}
use Rattle.raft.proofs.forms.have_terms.Given as goal

abbrev pub invariant-loop-entry : goal.invariant-loop-entry
invariant-loop-entry l = list_all (λ e. nat_le e.term TERM_LAST) l.entries ≡ list_all (λ e. nat_le e.term TERM_LAST) (drop l.entry-index l.entries)
