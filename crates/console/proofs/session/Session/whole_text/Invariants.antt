use Rattle.std.proofs.Common.{IfSome, List, ℕ, string_bytes}
use Rattle.console.specs.Lines.{left_of, IsShortened}
use Rattle.console.proofs.Lines.{Gathers}
use Rattle.console.proofs.session.Session.whole_text.Given as goal

abbrev pub invariant-loop-more : goal.invariant-loop-more
invariant-loop-more g l = IfSome (left_of g.R.Read.remaining l.initial.input.reader) (λ xs. (whole : List ℕ) × Gathers l.first l._more whole (left_of g.R.Read.remaining l.input.reader) l.is_whole xs × IsShortened whole (string_bytes l.gathered.text))
