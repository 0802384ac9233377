use Rattle.std.proofs.Common.{◌∙◌, ◌++◌, filter, map, sym, ap}
use Rattle.std.proofs.lemmas.List.{append-nil, at_drop_all}
use Rattle.sqlread.specs.Shapes.{time_of}
use Rattle.sysversion.specs.Lists.{version_of}
use Rattle.asof.specs.Asking.{is_found_by}
use Rattle.asof.proofs.Naming.{same_found}
use Rattle.asof.proofs.found.found_near.Goals as goal

pub returns-clause-found : goal.returns-clause-found
returns-clause-found c =
    let time = time_of c.args.time.now in
    let terms = c.args.terms.now in
    let near = c.deref-version-items.result.now in
    let found = map (λ v. version_of v.now) c.loop-version.found.items in
    let none = at_drop_all (λ rest. found ++ filter (is_found_by time terms) (map (λ v. version_of v.now) rest)) near c.loop-version.version-index c.loop-version-test.false in
    sym (none ∙ append-nil found)
    ∙ c.loop-version.invariant.found
    ∙ ap (λ items. filter (is_found_by time terms) (map (λ v. version_of v.now) items)) c.deref-version-items.ensures.value
    ∙ same_found time terms c.args.day.number (map (λ v. version_of v.now) c.in_ok-near.near.items) (map version_of c.args.list.now) c.requires c.in_ok-near.ensures.each
