use Rattle.std.proofs.Common.{rules, ◌≡◌, ◌∙◌, sym, to_z, of_z, w64}
use Rattle.script.proofs.Recovering.{spreads, says}
use Rattle.script.proofs.play.Play.spread_or_say.Goals as goal

pub returns-then-ends_own-clause-plays : goal.returns-then-ends_own-clause-plays
returns-then-ends_own-clause-plays g c =
    spreads c.args.self.now c.standing.new.self c.take_turns.new.self c.requires.live c.in_ok-standing.ensures.still c.args.node c.args.longest c.in_ok-standing.standing c.in_ok-standing.ensures.standing
    c.take_turns.result _ _ (sym c.ends_own.ensures ∙ c.if-ends_own.true) c.take_turns.ensures.plays

pub returns-clause-plays : goal.returns-clause-plays
returns-clause-plays g c =
    let same : to_z w64 (of_z w64 c.reading_of-reading.result) ≡ c.reading_of-reading.result = search rules in
    says c.args.self.now c.standing.new.self c.happen.new.self c.requires.live c.in_ok-standing.ensures.still c.args.node c.args.longest c.in_ok-standing.standing c.in_ok-standing.ensures.standing
    c.happen.result _ _ (to_z w64 (of_z w64 c.reading_of-reading.result)) (same ∙ c.reading_of-reading.ensures) (sym c.ends_own.ensures ∙ c.if-ends_own.false) c.happen.ensures.plays
