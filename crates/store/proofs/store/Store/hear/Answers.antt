use Rattle.std.proofs.Common.{refl, rules}
use Rattle.store.proofs.Continuing.{kept_same}
use Rattle.store.proofs.store.Store.hear.Goals as goal

pub returns-in-Some : goal.returns-in-Some
returns-in-Some g c = record {
  schema = refl;
  seats = refl;
  journal = kept_same g.K.Journal.Device.contents c.args.self.now.scribe;
  spent = λ k. k;
  letters = search rules;
  hears = search rules;
  noted = λ live none. refl;
}

pub returns-in_default : goal.returns-in_default
returns-in_default g c = record {
  schema = refl;
  seats = refl;
  journal = kept_same g.K.Journal.Device.contents c.args.self.now.scribe;
  spent = λ k. k;
  letters = search rules;
  hears = search rules;
  noted = λ live none. refl;
}
