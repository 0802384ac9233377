use Rattle.view.proofs.Staying.{lives_same, begun_earlier}
use Rattle.view.proofs.laws.lives_agree.Goals as goal

pub returns : goal.returns
returns c = record {
  same = lives_same c.however_sealed.ensures c.one_answer.ensures;
  earlier = begun_earlier;
}
