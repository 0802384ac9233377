use Rattle.std.proofs.Common.{◌≡◌, false}
use Rattle.apply.specs.View.{is_failed}
use Rattle.view.proofs.replay.Replay.take_in.Given as goal

abbrev pub invariant-loop : goal.invariant-loop
invariant-loop l = (l.self.schema ≡ l.initial.self.schema) × (l.self.front.seen.book ≡ l.initial.self.front.seen.book) × (is_failed l.self.tables ≡ false)
