use Rattle.std.proofs.Common.{map, sym, subst}
use Rattle.sysversion.specs.Lists.{version_of}
use Rattle.sysversion.specs.Days.{AreReached}
use Rattle.sysversion.proofs.Reaching.{reached_ended}
use Rattle.sysversion.proofs.key_versions.KeyVersions.end_from.Goals as goal

pub invariant_of-self : goal.invariant_of-self
invariant_of-self c =
    let places = c.self.inside.reached in
    subst (λ vs. AreReached places vs) (sym c.end_from.ensures.ended) (reached_ended places c.args.t c.args.start.number (map version_of c.self.inside.list) c.self.invariant)
