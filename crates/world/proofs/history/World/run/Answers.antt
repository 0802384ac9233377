use Rattle.std.proofs.Common.{rules}
use Rattle.world.specs.Run.{events_of}
use Rattle.world.proofs.Giving.{world_explained}
use Rattle.world.proofs.history.World.run.Goals as goal

pub returns-in_err-check_live-clause-gives : goal.returns-in_err-check_live-clause-gives
returns-in_err-check_live-clause-gives c = search rules

pub returns-in_err-check_live-clause-columns : goal.returns-in_err-check_live-clause-columns
returns-in_err-check_live-clause-columns c = search rules

pub returns-in_err-check_live-clause-kept : goal.returns-in_err-check_live-clause-kept
returns-in_err-check_live-clause-kept c = search rules

pub returns-in_err-check_live-clause-begun : goal.returns-in_err-check_live-clause-begun
returns-in_err-check_live-clause-begun c = search rules

pub returns-in_err-check_live-clause-agree : goal.returns-in_err-check_live-clause-agree
returns-in_err-check_live-clause-agree c = search rules

pub returns-in_err-check_live-clause-given : goal.returns-in_err-check_live-clause-given
returns-in_err-check_live-clause-given c = search rules

pub returns-in_err-check_live-clause-explained : goal.returns-in_err-check_live-clause-explained
returns-in_err-check_live-clause-explained c = search rules

pub returns-in_err-check_live-clause-invented : goal.returns-in_err-check_live-clause-invented
returns-in_err-check_live-clause-invented c = search rules

pub returns-in_err-check_live-clause-ordered : goal.returns-in_err-check_live-clause-ordered
returns-in_err-check_live-clause-ordered c = search rules

pub returns-in_err-check_live-clause-serves : goal.returns-in_err-check_live-clause-serves
returns-in_err-check_live-clause-serves c = c.promises.ensures.serves _ _ (events_of c.args.self.now)

pub returns-in_err-check_live-clause-tables : goal.returns-in_err-check_live-clause-tables
returns-in_err-check_live-clause-tables c = search rules

pub returns-in_err-check_live-clause-same : goal.returns-in_err-check_live-clause-same
returns-in_err-check_live-clause-same c = search rules

pub returns-in_err-check_live-clause-ok : goal.returns-in_err-check_live-clause-ok
returns-in_err-check_live-clause-ok c = search rules

pub returns-in_err-check_live-clause-err : goal.returns-in_err-check_live-clause-err
returns-in_err-check_live-clause-err c = search rules

pub returns-in_err-check_live-clause-idle : goal.returns-in_err-check_live-clause-idle
returns-in_err-check_live-clause-idle c = search rules

pub returns-in_err-check_live-clause-spent : goal.returns-in_err-check_live-clause-spent
returns-in_err-check_live-clause-spent c = search rules

pub returns-in_err-check_live-clause-stays : goal.returns-in_err-check_live-clause-stays
returns-in_err-check_live-clause-stays c = search rules

pub returns-in-Ok-clause-gives : goal.returns-in-Ok-clause-gives
returns-in-Ok-clause-gives c = c.in-Ok.ensures.gives

pub returns-in-Ok-clause-columns : goal.returns-in-Ok-clause-columns
returns-in-Ok-clause-columns c = search rules

pub returns-in-Ok-clause-kept : goal.returns-in-Ok-clause-kept
returns-in-Ok-clause-kept c = search rules

pub returns-in-Ok-clause-begun : goal.returns-in-Ok-clause-begun
returns-in-Ok-clause-begun c = search rules

pub returns-in-Ok-clause-agree : goal.returns-in-Ok-clause-agree
returns-in-Ok-clause-agree c = search rules

pub returns-in-Ok-clause-given : goal.returns-in-Ok-clause-given
returns-in-Ok-clause-given c = search rules

pub returns-in-Ok-clause-explained : goal.returns-in-Ok-clause-explained
returns-in-Ok-clause-explained c = world_explained c.promises.ensures.given c.run_all.new.self _ c.in-Ok.ensures.given

pub returns-in-Ok-clause-invented : goal.returns-in-Ok-clause-invented
returns-in-Ok-clause-invented c = search rules

pub returns-in-Ok-clause-ordered : goal.returns-in-Ok-clause-ordered
returns-in-Ok-clause-ordered c = search rules

pub returns-in-Ok-clause-serves : goal.returns-in-Ok-clause-serves
returns-in-Ok-clause-serves c = c.promises.ensures.serves _ _ (events_of c.run_all.new.self)

pub returns-in-Ok-clause-tables : goal.returns-in-Ok-clause-tables
returns-in-Ok-clause-tables c = search rules

pub returns-in-Ok-clause-same : goal.returns-in-Ok-clause-same
returns-in-Ok-clause-same c = search rules

pub returns-in-Ok-clause-ok : goal.returns-in-Ok-clause-ok
returns-in-Ok-clause-ok c = search rules

pub returns-in-Ok-clause-err : goal.returns-in-Ok-clause-err
returns-in-Ok-clause-err c = search rules

pub returns-in-Ok-clause-idle : goal.returns-in-Ok-clause-idle
returns-in-Ok-clause-idle c = search rules

pub returns-in-Ok-clause-spent : goal.returns-in-Ok-clause-spent
returns-in-Ok-clause-spent c = search rules

pub returns-in-Ok-clause-stays : goal.returns-in-Ok-clause-stays
returns-in-Ok-clause-stays c = search rules

pub returns-in-Err-clause-gives : goal.returns-in-Err-clause-gives
returns-in-Err-clause-gives c = search rules

pub returns-in-Err-clause-columns : goal.returns-in-Err-clause-columns
returns-in-Err-clause-columns c = search rules

pub returns-in-Err-clause-kept : goal.returns-in-Err-clause-kept
returns-in-Err-clause-kept c = search rules

pub returns-in-Err-clause-begun : goal.returns-in-Err-clause-begun
returns-in-Err-clause-begun c = search rules

pub returns-in-Err-clause-agree : goal.returns-in-Err-clause-agree
returns-in-Err-clause-agree c = search rules

pub returns-in-Err-clause-given : goal.returns-in-Err-clause-given
returns-in-Err-clause-given c = search rules

pub returns-in-Err-clause-explained : goal.returns-in-Err-clause-explained
returns-in-Err-clause-explained c = search rules

pub returns-in-Err-clause-invented : goal.returns-in-Err-clause-invented
returns-in-Err-clause-invented c = search rules

pub returns-in-Err-clause-ordered : goal.returns-in-Err-clause-ordered
returns-in-Err-clause-ordered c = search rules

pub returns-in-Err-clause-serves : goal.returns-in-Err-clause-serves
returns-in-Err-clause-serves c = c.promises.ensures.serves _ _ (events_of c.run_all.new.self)

pub returns-in-Err-clause-tables : goal.returns-in-Err-clause-tables
returns-in-Err-clause-tables c = search rules

pub returns-in-Err-clause-same : goal.returns-in-Err-clause-same
returns-in-Err-clause-same c = search rules

pub returns-in-Err-clause-ok : goal.returns-in-Err-clause-ok
returns-in-Err-clause-ok c = search rules

pub returns-in-Err-clause-err : goal.returns-in-Err-clause-err
returns-in-Err-clause-err c = search rules

pub returns-in-Err-clause-idle : goal.returns-in-Err-clause-idle
returns-in-Err-clause-idle c = search rules

pub returns-in-Err-clause-spent : goal.returns-in-Err-clause-spent
returns-in-Err-clause-spent c = search rules

pub returns-in-Err-clause-stays : goal.returns-in-Err-clause-stays
returns-in-Err-clause-stays c = search rules
