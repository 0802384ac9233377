use Rattle.std.proofs.Common.{◌∙◌, [], sym}
use Rattle.std.proofs.lemmas.List.{append-nil}
use Rattle.storeviews.specs.Showing.{shown_of}
use Rattle.storeviews.proofs.window.Window.go_on.Goals as goal

pub returns-in-Err : goal.returns-in-Err
returns-in-Err g c = record {
  shows = tt;
  ended = tt;
  failed = λ _. c.in-Err.ensures.err;
  later = (c.show.ensures.same, ([], append-nil (shown_of c.args.self) ∙ sym c.in-Err.ensures.err));
  why = λ down. c.in-Err.ensures.why (cc down);
}
