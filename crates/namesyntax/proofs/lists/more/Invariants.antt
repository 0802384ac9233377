use Rattle.std.proofs.Common.{length, map}
use Rattle.sqltokens.specs.What.{whats}
use Rattle.phrase.specs.Grammar.{read_many}
use Rattle.phrase.specs.Reading.{with_front}
use Rattle.phrase.proofs.Loops.{Goes}
use Rattle.namesyntax.proofs.lists.more.Given as goal

abbrev pub invariant-loop-alloc : goal.invariant-loop-alloc
invariant-loop-alloc g l = Goes g.R.Repeated.begins g.R.Repeated.reads (map g.R.Repeated.form l.all.items) (whats l.cursor.rest.now) (with_front (map g.R.Repeated.form l.initial.all.items) (read_many g.R.Repeated.begins g.R.Repeated.reads (length (whats l.initial.cursor.rest.now)) (whats l.initial.cursor.rest.now)))

abbrev pub decreases-loop-alloc : goal.decreases-loop-alloc
decreases-loop-alloc g l = length l.cursor.rest.now
