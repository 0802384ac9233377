use Rattle.std.proofs.Common.{◌≡◌, rules}
use Rattle.store.specs.Held.{IsBeginning}
use Rattle.store.proofs.Helds.{begins_otherwise, begins_so, some_so}
use Rattle.store.proofs.held.HeldLog.beginning.Goals as goal

pub returns-then-ne-clause-none : goal.returns-then-ne-clause-none
returns-then-ne-clause-none c = λ none first b.
    let other : c.digest_at.result ≡ c.args.stored.now.digest → ⊥ = search rules in
    begins_otherwise c.args.self.now.chain.links.items c.args.self.now.entries.items c.args.stored.now c.digest_at.result c.args.self.now.linked c.digest_at.ensures other first b

pub returns-clause-some : goal.returns-clause-some
returns-clause-some c =
    let same : c.digest_at.result ≡ c.args.stored.now.digest = search rules in
    let log = c.args.self.now.entries.items in
    let stored = c.args.stored.now in
    some_so _ _ (λ first. IsBeginning log stored first.now) c.get.result c.get.ensures.lookup.0
    (λ first p. begins_so c.args.self.now.chain.links.items log c.deref.result.now first.now stored c.digest_at.result c.args.self.now.linked c.deref.ensures.value c.digest_at.ensures same p.1 p.2)
