use Rattle.std.proofs.Common.{ap}
use Rattle.sqlread.specs.Shapes.{query_of}
use Rattle.sqlread.proofs.Copies.{copies_mean}
use Rattle.sqlread.proofs.query.QueryClone.clone.Goals as goal

pub returns : goal.returns
returns c = record { cases = ap (λ terms. record (query_of c.args.self.now) { terms = terms }) (copies_mean _ _ c.in_ok-clone.ensures.cases.0) }
