use Rattle.view.specs.Publishing.{pending}
use Rattle.cells.proofs.Refusing.{each_noted, if_ok}
use Rattle.cells.proofs.refused.notes_fewer.Goals as goal

pub returns : goal.returns
returns c = if_ok c.note.result _ _ c.note.ensures.pending (λ o is. each_noted (pending c.args.publisher.now) (pending c.note.new.publisher) c.args.mark c.args.given.now.applied.items c.args.given.now.sealed is c.requires)
