use Rattle.std.proofs.Common.{◌≡◌, arith, of_z, rules, to_z, w64}
use Rattle.flight.specs.Lives.{mark_for}
use Rattle.cells.proofs.Refusing.{recorded_ok}
use Rattle.cells.proofs.refused.locks_another_step.Goals as goal

pub returns-clause-recorded : goal.returns-clause-recorded
returns-clause-recorded g c =
    let old = c.args.locked.now.cell in
    let same : to_z w64 (of_z w64 c.args.reading) ≡ c.args.reading = search rules in
    recorded_ok old.node.is_up (mark_for old.life c.args.packet) old.life c.feed.new.self.cell.life (to_z w64 (of_z w64 c.args.reading)) c.args.reading c.args.packet c.feed.result same c.feed.ensures.fed

pub returns-clause-counted : goal.returns-clause-counted
returns-clause-counted g c = λ same. omega (arith, c.feed.ensures.counted, same)
