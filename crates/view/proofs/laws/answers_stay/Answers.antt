use Rattle.view.proofs.Staying.{answers_same, closed_stays, stays_closed}
use Rattle.view.proofs.laws.answers_stay.Goals as goal

pub returns : goal.returns
returns c = record {
  same = answers_same c.however_sealed.ensures c.one_answer.ensures;
  closed = closed_stays c.however_sealed.ensures;
  closing = stays_closed;
}
