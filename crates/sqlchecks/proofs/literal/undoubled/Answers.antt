use Rattle.std.proofs.Common.{◌++◌, List, ℕ, sym, ap, ◌∙◌}
use Rattle.sqlchecks.proofs.Quotes.{left_over, undoubled_is}
use Rattle.sqlchecks.proofs.literal.undoubled.Goals as goal
use Rattle.std.proofs.Common.{false}

pub loop-b-init : goal.loop-b-init
loop-b-init c = undoubled_is c.args.text.source.now ∙ ap (λ (l : List ℕ). l ++ left_over false c.args.text.source.now) (sym c.new-plain.ensures.bytes)
