use Rattle.store.specs.Applied.{found}
use Rattle.storeviews.proofs.Bringing.{brought_by}
use Rattle.storeviews.proofs.window.Window.bring.Goals as goal

pub returns-in-Ok-Some-clause-brought : goal.returns-in-Ok-Some-clause-brought
returns-in-Ok-Some-clause-brought g c =
    brought_by g.K.LogReader.is_honest (found c.since_at.new.store.seats.items c.args.at (λ seat. seat.node)) c.args.self c.in-Ok-Some.since c.args.mark c.go_on.result.0 c.go_on.result.1 (rw c.in-Ok-Some.field-0-is at c.in-Ok-Some.ensures.since) c.go_on.ensures.shows c.go_on.ensures.ended
