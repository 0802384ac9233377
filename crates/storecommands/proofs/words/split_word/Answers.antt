use Rattle.std.proofs.Common.{rules, arith}
use Rattle.std.proofs.lemmas.Str.Pattern.{split_parts}
use Rattle.storecommands.proofs.words.split_word.Goals as goal

pub returns : goal.returns
returns c = let parts = split_parts 32 c.args.text.now c.split_once.result c.split_once.ensures.cases (omega arith) in search rules
