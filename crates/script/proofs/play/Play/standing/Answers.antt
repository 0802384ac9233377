use Rattle.std.proofs.Common.{◌∙◌}
use Rattle.model.specs.Lists.{nth}
use Rattle.model.specs.Members.{term_of}
use Rattle.world.specs.View.{entry_in, if_up}
use Rattle.script.specs.Plays.{stage_of}
use Rattle.script.proofs.Recovering.{stands, still_on}
use Rattle.script.proofs.play.Play.standing.Goals as goal

pub returns-clause-standing : goal.returns-clause-standing
returns-clause-standing c =
    stands (if_up (nth (stage_of c.args.self.now).world.nodes c.args.node)) c.in_ok-term.term c.in_ok-last_term.last_term c.in_ok-term.length c.applied-applied.result
    c.in_ok-term.ensures.term c.in_ok-term.ensures.length
    (c.in_ok-last_term.ensures.term ∙ (λ i. term_of (entry_in c.in_ok-term.length (nth (c.in_ok-term.ensures.still.stage i).world.nodes c.args.node)))) c.applied-applied.ensures

pub returns-clause-still : goal.returns-clause-still
returns-clause-still c = still_on c.args.self.now c.stored.new.self c.term_at.new.self c.in_ok-term.ensures.still c.in_ok-last_term.ensures.still
