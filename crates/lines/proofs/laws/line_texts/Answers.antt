use Rattle.lines.proofs.Texts.{line_texts}
use Rattle.lines.proofs.laws.line_texts.Goals as goal

pub returns : goal.returns
returns c = line_texts
