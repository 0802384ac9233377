use Rattle.node.specs.Member.{me_of, member_of, members_of}
use Rattle.cells.proofs.Refusing.{idle_beat}
use Rattle.cells.proofs.refused.goes_down_of_a_beat.Goals as goal

pub returns : goal.returns
returns g c = λ honest.
    let old = c.args.cell.now.node in
    c.feed.ensures.spares honest (idle_beat (members_of old) (me_of old) (member_of old) c.requires.follows)
