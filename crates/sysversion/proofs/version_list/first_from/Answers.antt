use Rattle.std.proofs.Common.{subst}
use Rattle.std.specs.BTreeSet.{IsKeyRangeOf}
use Rattle.std.specs.declared.ops.Bound.TheVariants.{Included, Unbounded}
use Rattle.sysversion.specs.Open.{place_cmp}
use Rattle.sysversion.proofs.Open.{none_from, none_at_all}
use Rattle.sysversion.proofs.version_list.first_from.Goals as goal

pub returns-in_default-clause-none : goal.returns-in_default-clause-none
returns-in_default-clause-none c =
    let range = c.range.ensures.in_range tt in
    let first = c.in-Some.field-0.now in
    none_from c.args.open_places.now c.args.start first.0 first.1 c.next.new.self (subst (IsKeyRangeOf place_cmp (Included (c.args.start, 0)) Unbounded c.args.open_places.now) c.in-Some.ensures.steps range) c.if-found-start.false

pub returns-in_default-2-clause-none : goal.returns-in_default-2-clause-none
returns-in_default-2-clause-none c =
    let range = c.range.ensures.in_range tt in
    let steps = rw c.in_default.is at c.next.ensures.steps in
    none_at_all c.args.open_places.now c.args.start (subst (IsKeyRangeOf place_cmp (Included (c.args.start, 0)) Unbounded c.args.open_places.now) steps.0 range)
