use Rattle.std.proofs.Common.{◌≡◌, ◌∙◌, ◌⊎◌, ◌+◌, ℕ, List, length, inl, inr, ⊎_elim, sym, rules}
use Rattle.flight.specs.Lives.{all_steps, mark_for}
use Rattle.cells.proofs.Counted.{no_more, one_more, counted_more, counted_same}
use Rattle.cells.proofs.locked.LockedNode.feed.Goals as goal

pub invariant_of-self-then-before-recorded : goal.invariant_of-self-then-before-recorded
invariant_of-self-then-before-recorded g c =
    let old = c.args.self.now.cell.life in
    let new = c.feed-answer.new.self.life in
    let grown : (length (all_steps new) ≡ length (all_steps old)) ⊎ (length (all_steps new) ≡ length (all_steps old) + 1) =
    ⊎_elim (λ away. inl (no_more old new away.1)) (λ made. inr (one_more old new (mark_for old c.args.packet) _ c.feed-answer.result (c.args.self.now.cell.replayed made.0).1 made.1)) c.feed-answer.ensures.fed in
    record {
      counted = counted_more (length (all_steps old)) (length (all_steps new)) c.recorded-before.result c.recorded.result c.args.self.now.book.total grown c.args.self.now.counted c.recorded-before.ensures c.recorded.ensures (search rules) ∙ sym c.add.ensures.total;
      named = c.feed-answer.ensures.life.0.2 ∙ c.args.self.now.named;
    }

pub invariant_of-self-else-before-recorded : goal.invariant_of-self-else-before-recorded
invariant_of-self-else-before-recorded g c =
    let old = c.args.self.now.cell.life in
    let new = c.feed-answer.new.self.life in
    let grown : (length (all_steps new) ≡ length (all_steps old)) ⊎ (length (all_steps new) ≡ length (all_steps old) + 1) =
    ⊎_elim (λ away. inl (no_more old new away.1)) (λ made. inr (one_more old new (mark_for old c.args.packet) _ c.feed-answer.result (c.args.self.now.cell.replayed made.0).1 made.1)) c.feed-answer.ensures.fed in
    record {
      counted = counted_same (length (all_steps old)) (length (all_steps new)) c.recorded-before.result c.recorded.result c.args.self.now.book.total grown c.args.self.now.counted c.recorded-before.ensures c.recorded.ensures (search rules);
      named = c.feed-answer.ensures.life.0.2 ∙ c.args.self.now.named;
    }
