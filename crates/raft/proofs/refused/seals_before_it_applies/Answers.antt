use Rattle.std.proofs.Common.{◌∙◌}
use Rattle.raft.specs.View.{node_of}
use Rattle.raft.proofs.Refusing.{if_ok}
use Rattle.raft.proofs.Sealing.{applied_past}
use Rattle.raft.proofs.refused.seals_before_it_applies.Goals as goal

pub returns : goal.returns
returns g c = if_ok c.is_applied.result _ _ c.is_applied.ensures.ok (λ applied ok honest. ok honest ∙ applied_past (node_of c.args.core.now (g.S.LogReader.stored c.args.reader.now).log) c.args.seal c.requires.past)
