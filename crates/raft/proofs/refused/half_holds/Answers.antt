use Rattle.std.proofs.Common.{◌∙◌, ◌*◌}
use Rattle.std.proofs.lemmas.Bool.{le-ltb}
use Rattle.model.specs.Members.{count_members}
use Rattle.model.specs.Steps.{holds_to}
use Rattle.raft.proofs.refused.half_holds.Goals as goal

pub returns : goal.returns
returns c =
    let now = c.args.core.now in
    c.is_held.ensures ∙ le-ltb now.members (2 * count_members now.members (holds_to now.me now.matched.items c.args.index)) c.requires
