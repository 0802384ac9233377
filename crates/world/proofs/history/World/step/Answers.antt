use Rattle.std.proofs.Common.{◌++◌, ◌∷◌, []}
use Rattle.believed.specs.Explained.{IsExplainedSo}
use Rattle.world.specs.Run.{language_in, members_in, outset_of, events_of, given_of}
use Rattle.world.specs.View.{event_of, outputs_of}
use Rattle.world.proofs.Giving.{given_after, world_explained}
use Rattle.world.proofs.Running.{gives_so}
use Rattle.world.proofs.history.World.step.Goals as goal

pub returns-in_err-check_live-clause-serves : goal.returns-in_err-check_live-clause-serves
returns-in_err-check_live-clause-serves c = c.promises.ensures.serves _ _ (events_of c.args.self.now)

pub returns-clause-gives : goal.returns-clause-gives
returns-clause-gives c =
    let w = c.args.self.now in
    gives_so (language_in w) (members_in w) (outset_of w) (events_of w) (event_of c.args.event.now) c.happen.result c.happen.ensures.gives

pub returns-clause-serves : goal.returns-clause-serves
returns-clause-serves c = c.promises.ensures.serves _ _ (events_of c.happen.new.self)

pub returns-clause-explained : goal.returns-clause-explained
returns-clause-explained c =
    let new = c.happen.new.self in
    given_after c.happen.result (λ outs. given_of c.args.self.now ++ outputs_of outs.items ∷ []) (given_of new) (λ all. IsExplainedSo (language_in new) (members_in new) (events_of new) all)
    (λ all is. world_explained c.promises.ensures.given new all is) c.happen.ensures.given
