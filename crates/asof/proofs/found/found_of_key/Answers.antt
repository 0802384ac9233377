use Rattle.std.proofs.Common.{length, map, ap, arith}
use Rattle.sysversion.specs.Days.{nearly_has}
use Rattle.sysversion.specs.Lists.{version_of}
use Rattle.asof.proofs.Naming.{no_more}
use Rattle.asof.proofs.found.found_of_key.Goals as goal

pub returns-in-Some-named_day-clause-counted : goal.returns-in-Some-named_day-clause-counted
returns-in-Some-named_day-clause-counted c =
    let list = map version_of c.in-Some.list.now in
    let few = c.found_near.ensures.few in
    let all = no_more (nearly_has c.in-Some-named_day.day.number) list in
    let same = ap length c.in-Some.ensures in
    omega (arith, few, all, same)
