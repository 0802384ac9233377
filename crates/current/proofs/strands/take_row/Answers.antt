use Rattle.std.proofs.Common.{◌<◌, ◌^◌, subst}
use Rattle.current.proofs.Placed.{take_strands}
use Rattle.current.proofs.Reading.{items_long}
use Rattle.current.proofs.strands.take_row.Goals as goal

pub returns-clause-rest : goal.returns-clause-rest
returns-clause-rest c = take_strands c.args.index.now.strands c.remove.new.self.strands c.args.row.now c.requires.in_strand c.requires.there c.remove.ensures.rest

pub returns-clause-few : goal.returns-clause-few
returns-clause-few c digits short = c.remove.ensures.few digits (subst (λ n. n < 2 ^ digits) (items_long c.args.index.now.strands c.args.row.now.key) short)
