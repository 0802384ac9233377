use Rattle.std.proofs.Common.{rules, ◌≡◌, length}
use Rattle.current.specs.Named.{IsNamed}
use Rattle.current.proofs.NamedKey.{named_only}
use Rattle.current.proofs.named.named_key.Goals as goal

pub returns-clause-only : goal.returns-clause-only
returns-clause-only c = λ row passes short.
    let key = c.in_ok-new.field-0 in
    let named : (length key ≡ c.args.columns) × IsNamed c.args.conditions.now key = search rules in
    named_only c.args.conditions.now key c.args.columns named.0 named.1 row passes short
