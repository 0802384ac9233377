use Rattle.std.proofs.Common.{rules}
use Rattle.raft.proofs.state.Core.is_elected.Goals as goal

pub returns : goal.returns
returns c = search rules
