use Rattle.std.proofs.Common.{◌∙◌, ◌*◌}
use Rattle.std.proofs.lemmas.Bool.{le-ltb}
use Rattle.model.specs.Members.{count_members, is_in}
use Rattle.raft.proofs.refused.half_elects.Goals as goal

pub returns : goal.returns
returns c =
    let now = c.args.core.now in
    c.is_elected.ensures ∙ le-ltb now.members (2 * count_members now.members (is_in now.votes.items)) c.requires
