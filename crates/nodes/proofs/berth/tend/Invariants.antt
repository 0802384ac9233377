use Rattle.sqlread.specs.Meaning.{language_of}
use Rattle.nodes.proofs.berth.tend.Given as goal

abbrev pub invariant-loop : goal.invariant-loop
invariant-loop g l = g.K.Keeper.suits l.image l.post.members (language_of l.post.schema)
