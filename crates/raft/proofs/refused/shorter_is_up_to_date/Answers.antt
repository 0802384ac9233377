use Rattle.std.proofs.Common.{◌∙◌, length}
use Rattle.model.specs.Members.{last_term}
use Rattle.raft.specs.View.{log_of}
use Rattle.raft.proofs.Refusing.{shorter_not}
use Rattle.raft.proofs.refused.shorter_is_up_to_date.Goals as goal

pub returns : goal.returns
returns g c =
    let log = log_of c.args.core.now g.stored in
    c.is_up_to_date.ensures ∙ shorter_not (last_term log) c.args.ended (length log) c.args.last_index c.requires.1.0 c.requires.1.1
