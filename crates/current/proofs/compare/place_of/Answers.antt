use Rattle.std.proofs.Common.{◌∙◌, ap}
use Rattle.std.specs.Option.{is_some}
use Rattle.current.proofs.Among.{search_finds}
use Rattle.current.proofs.compare.place_of.Goals as goal

pub returns-clause-there : goal.returns-clause-there
returns-clause-there c =
    ap is_some c.ok.ensures.value ∙ search_finds c.args.sorted.now c.requires c.args.row.now c.binary_search.result c.binary_search.ensures.bound c.binary_search.ensures.position
