use Rattle.std.proofs.lemmas.Bool.{false≢true}
use Rattle.storefolder.proofs.CutShort.{number_utf8}
use Rattle.storefolder.proofs.torn.begins_number.Goals as goal

pub returns-in-Err : goal.returns-in-Err
returns-in-Err c = (λ no. absurd (false≢true no), λ begins. absurd (c.in-Err.ensures.cases.0 (number_utf8 c.args.bytes.now begins)))
