use Rattle.sqlite.specs.Held.{state}
use Rattle.durable.proofs.Refusing.{if_err, meta_there}
use Rattle.durable.proofs.refused.ruins_what_it_gives_back.Goals as goal

pub returns : goal.returns
returns g c = if_err c.open.result _ _ c.open.ensures.kept (λ e kept sound. meta_there (state g.S.Store e.1).committed g.held (kept sound g.held c.requires.1.0).found c.requires.1.1)
