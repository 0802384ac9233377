use Rattle.raft.proofs.Filling.{filled}
use Rattle.raft.proofs.state.Core.step.Given as goal

abbrev pub ghost-take_work : goal.ghost-take_work
ghost-take_work g a = filled a.self.now.log.elsewhere (g.S.LogReader.stored a.reader.now).log
