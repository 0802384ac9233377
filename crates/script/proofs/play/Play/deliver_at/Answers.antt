use Rattle.std.proofs.Common.{rules, ◌≡◌, ◌∙◌, ap, to_z, of_z, w64}
use Rattle.script.specs.Stage.{reading_of}
use Rattle.script.specs.Plays.{stage_of}
use Rattle.script.proofs.Playing.{delivers_at}
use Rattle.script.proofs.play.Play.deliver_at.Goals as goal

pub returns-clause-plays : goal.returns-clause-plays
returns-clause-plays g c =
    let mid = c.mark_delivered-addressee.new.self in
    let found = c.mark_delivered-addressee.ensures.addressee in
    let same : to_z w64 (of_z w64 c.reading_of-reading.result) ≡ c.reading_of-reading.result = search rules in
    delivers_at c.args.self.now mid c.happen.new.self c.args.place (to_z w64 (of_z w64 c.reading_of-reading.result)) found.0 c.happen.result _ _
    c.mark_delivered-addressee.ensures.world c.mark_delivered-addressee.ensures.stage found.1
    (same ∙ c.reading_of-reading.ensures ∙ ap (reading_of (stage_of mid)) found.2) c.happen.ensures.plays
