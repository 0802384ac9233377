use Rattle.store.proofs.Links.{summed}
use Rattle.store.proofs.chain.Chain.summary.Goals as goal

pub returns : goal.returns
returns c = λ d hards same. let whole = summed c.args.self.now.links.items c.args.hard d hards same in cc
