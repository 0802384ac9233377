use Rattle.std.proofs.Common.{◌∙◌, None, sym}
use Rattle.raft.proofs.Lists.{go_on_is}
use Rattle.raft.proofs.LogFacts.{terms_fit}
use Rattle.raft.proofs.step.may_carry.Goals as goal

pub returns-then-entries-le-CARRIED_MOST-clause-terms : goal.returns-then-entries-le-CARRIED_MOST-clause-terms
returns-then-entries-le-CARRIED_MOST-clause-terms c = λ yes. terms_fit None c.args.term c.args.entries.now c.requires (go_on_is None c.args.term c.args.entries.now ∙ sym c.go_on.ensures ∙ yes)
