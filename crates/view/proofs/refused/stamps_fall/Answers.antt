use Rattle.view.proofs.Refusing.{all_rises}
use Rattle.view.proofs.refused.stamps_fall.Goals as goal

pub returns : goal.returns
returns c = all_rises c.args.publisher.now.shown c.args.publisher.now.items.items c.args.publisher.now.rising
