use Rattle.std.proofs.Common.{codes, arith}
use Rattle.std.specs.Str.Parse.{ParsesUnsigned, ExplainsUnsignedError, HasUnsignedDigitsIfOk}
use Rattle.clap.specs.Words.{found_of}
use Rattle.storecommands.proofs.CommandLines.{no_number, number_given, one_number}
use Rattle.storecommands.proofs.command_line.new_of.Goals as goal

pub returns-in_err-members-clause-none : goal.returns-in_err-members-clause-none
returns-in_err-members-clause-none c = rw c.from_residual.ensures (λ made asks.
    no_number _ (λ bs r. ParsesUnsigned 8 10 bs r × ExplainsUnsignedError 10 bs r × HasUnsignedDigitsIfOk bs r) 8 (λ t r g. g.0) (found_of c.args.matches.now) (codes "nodes") made.members
    c.in_err-members.ensures.value (omega (arith, made.most)) asks.nodes)

pub returns-then-members-lt3-clause-none : goal.returns-then-members-lt3-clause-none
returns-then-members-lt3-clause-none c made asks =
    let members = one_number _ _ _ _ (number_given _ (λ bs r. ParsesUnsigned 8 10 bs r × ExplainsUnsignedError 10 bs r × HasUnsignedDigitsIfOk bs r) 8 (λ t r g. g.0) (found_of c.args.matches.now) (codes "nodes") c.in_ok-members.members
    c.in_ok-members.ensures.none c.in_ok-members.ensures.value) asks.nodes in
    let fewest = made.fewest in
    let most = made.most in
    absurd (omega (arith, c.then-members-lt3.either))

pub returns-clause-some : goal.returns-clause-some
returns-clause-some c = record {
  nodes = number_given _ (λ bs r. ParsesUnsigned 8 10 bs r × ExplainsUnsignedError 10 bs r × HasUnsignedDigitsIfOk bs r) 8 (λ t r g. g.0) (found_of c.args.matches.now) (codes "nodes") c.in_ok-members.members
      c.in_ok-members.ensures.none c.in_ok-members.ensures.value;
  schema = c.in_ok-schema.ensures;
  dir = c.in_ok-dir.ensures;
}
