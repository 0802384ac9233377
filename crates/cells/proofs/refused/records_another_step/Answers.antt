use Rattle.std.proofs.Common.{◌≡◌, of_z, rules, to_z, w64}
use Rattle.flight.specs.Lives.{mark_for}
use Rattle.cells.proofs.Refusing.{full_recorded, recorded_ok}
use Rattle.cells.proofs.refused.records_another_step.Goals as goal

pub returns-clause-recorded : goal.returns-clause-recorded
returns-clause-recorded g c =
    let old = c.args.cell.now in
    let same : to_z w64 (of_z w64 c.args.reading) ≡ c.args.reading = search rules in
    recorded_ok old.node.is_up (mark_for old.life c.args.packet) old.life c.feed.new.self.life (to_z w64 (of_z w64 c.args.reading)) c.args.reading c.args.packet c.feed.result same c.feed.ensures.fed

pub returns-clause-full : goal.returns-clause-full
returns-clause-full g c = λ mark.
    let old = c.args.cell.now in
    let same : to_z w64 (of_z w64 c.args.reading) ≡ c.args.reading = search rules in
    full_recorded old.node.is_up (mark_for old.life c.args.packet) old.life c.feed.new.self.life (to_z w64 (of_z w64 c.args.reading)) c.args.reading c.args.packet c.feed.result mark c.requires.up same c.feed.ensures.fed
