use Rattle.std.proofs.Common.{rules, codes, arith}
use Rattle.std.specs.Str.Parse.{ParsesUnsigned, ExplainsUnsignedError, HasUnsignedDigitsIfOk}
use Rattle.clap.specs.Words.{found_of}
use Rattle.storecommands.proofs.CommandLines.{no_number, number_given, one_number}
use Rattle.shell.proofs.command_line.live_of.Goals as goal

pub returns-in_err-nodes-clause-none : goal.returns-in_err-nodes-clause-none
returns-in_err-nodes-clause-none c = rw c.from_residual.ensures (λ live asks.
    no_number _ (λ bs r. ParsesUnsigned 8 10 bs r × ExplainsUnsignedError 10 bs r × HasUnsignedDigitsIfOk bs r) 8 (λ t r g. g.0) (found_of c.args.matches.now) (codes "nodes") live.nodes
    c.in_err-nodes.ensures.value (omega (arith, live.most)) asks.nodes)

pub returns-in_err-seed-clause-none : goal.returns-in_err-seed-clause-none
returns-in_err-seed-clause-none c = rw c.from_residual-in_err-seed.ensures (λ live asks.
    no_number _ (λ bs r. ParsesUnsigned 64 10 bs r × ExplainsUnsignedError 10 bs r × HasUnsignedDigitsIfOk bs r) 64 (λ t r g. g.0) (found_of c.args.matches.now) (codes "seed") live.seed
    c.in_err-seed.ensures.value asks.seed_fits asks.seed)

pub returns-in_err-loss-clause-none : goal.returns-in_err-loss-clause-none
returns-in_err-loss-clause-none c = rw c.from_residual-in_err-loss.ensures (λ live asks.
    no_number _ (λ bs r. ParsesUnsigned 8 10 bs r × ExplainsUnsignedError 10 bs r × HasUnsignedDigitsIfOk bs r) 8 (λ t r g. g.0) (found_of c.args.matches.now) (codes "loss") live.loss
    c.in_err-loss.ensures.value (omega (arith, live.lossy)) asks.loss)

pub returns-then-nodes-lt3-clause-none : goal.returns-then-nodes-lt3-clause-none
returns-then-nodes-lt3-clause-none c live asks =
    let nodes = one_number _ _ _ _ (number_given _ (λ bs r. ParsesUnsigned 8 10 bs r × ExplainsUnsignedError 10 bs r × HasUnsignedDigitsIfOk bs r) 8 (λ t r g. g.0) (found_of c.args.matches.now) (codes "nodes") c.in_ok-nodes.nodes
    c.in_ok-nodes.ensures.none c.in_ok-nodes.ensures.value) asks.nodes in
    let loss = one_number _ _ _ _ (number_given _ (λ bs r. ParsesUnsigned 8 10 bs r × ExplainsUnsignedError 10 bs r × HasUnsignedDigitsIfOk bs r) 8 (λ t r g. g.0) (found_of c.args.matches.now) (codes "loss") c.in_ok-loss.loss
    c.in_ok-loss.ensures.none c.in_ok-loss.ensures.value) asks.loss in
    let fewest = live.fewest in
    let most = live.most in
    let lossy = live.lossy in
    absurd (omega (arith, c.then-nodes-lt3.either))

pub returns-clause-some : goal.returns-clause-some
returns-clause-some c = record {
  nodes = number_given _ (λ bs r. ParsesUnsigned 8 10 bs r × ExplainsUnsignedError 10 bs r × HasUnsignedDigitsIfOk bs r) 8 (λ t r g. g.0) (found_of c.args.matches.now) (codes "nodes") c.in_ok-nodes.nodes
      c.in_ok-nodes.ensures.none c.in_ok-nodes.ensures.value;
  seed = number_given _ (λ bs r. ParsesUnsigned 64 10 bs r × ExplainsUnsignedError 10 bs r × HasUnsignedDigitsIfOk bs r) 64 (λ t r g. g.0) (found_of c.args.matches.now) (codes "seed") c.in_ok-seed.seed
      c.in_ok-seed.ensures.none c.in_ok-seed.ensures.value;
  seed_fits = search rules;
  loss = number_given _ (λ bs r. ParsesUnsigned 8 10 bs r × ExplainsUnsignedError 10 bs r × HasUnsignedDigitsIfOk bs r) 8 (λ t r g. g.0) (found_of c.args.matches.now) (codes "loss") c.in_ok-loss.loss
      c.in_ok-loss.ensures.none c.in_ok-loss.ensures.value;
  dir = c.text_of-dir.ensures;
  format = c.text_of-format.ensures;
  script = c.in_ok-script.ensures;
}
