use Rattle.onelist.proofs.Explained.{gives_append}
use Rattle.onelist.proofs.run_in_pieces.Goals as goal

pub returns : goal.returns
returns c = λ language n w early late outs more. gives_append language n early late w outs more
