use Rattle.std.proofs.Common.{◌≡◌, ◌≤◌, arith, ℕ, List, subst, sym}
use Rattle.model.specs.Lists.{nth_or, with_nth}
use Rattle.raft.proofs.Lists.{noted_within}
use Rattle.raft.proofs.state.Core.note.Goals as goal

pub invariant_of-self-clause-matches_within : goal.invariant_of-self-clause-matches_within
invariant_of-self-clause-matches_within g c m =
    let was : nth_or c.deref.result.now c.args.sender 0 ≤ 100000 = rw c.deref.ensures.value (c.args.self.now.matches_within c.args.sender) in
    let most : c.max-most.result ≤ 100000 = omega (arith, c.max-most.ensures, c.number_at.ensures, was, c.requires, c.args.self.now.log.within) in
    let is : c.set_number.new.numbers.items ≡ with_nth c.args.self.now.matched.items c.args.sender c.max-most.result = c.set_number.ensures in
    let P : List ℕ → Type 0 = λ xs. nth_or xs m 0 ≤ 100000 in
    subst P (sym is) (noted_within c.args.self.now.matched.items c.args.sender c.max-most.result m (c.args.self.now.matches_within m) most)
