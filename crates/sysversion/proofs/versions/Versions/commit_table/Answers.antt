use Rattle.std.proofs.Common.{◌≡◌, ◌∙◌, [], Some, filter, refl, sym, ap, arith}
use Rattle.std.specs.Prelude.{slice_get}
use Rattle.std.specs.Option.{option_map_or}
use Rattle.current.specs.Touched.{removed_of, added_of}
use Rattle.versionlaws.specs.ByKey.{is_of}
use Rattle.versionlaws.specs.Committing.{committed}
use Rattle.sysversion.specs.Reads.{reads_to_end}
use Rattle.sysversion.specs.Versions.{versions_of_table}
use Rattle.sysversion.proofs.Changed.{on_ok}
use Rattle.sysversion.proofs.Tabled.{got, set_here, set_other}
use Rattle.sysversion.proofs.versions.Versions.commit_table.Goals as goal

pub returns-clause-here : goal.returns-clause-here
returns-clause-here c =
    let tables = c.args.self.now.tables.items in
    let found = c.in-Some.found.now in
    on_ok c.commit.result
    (λ done l key.
    let counted = c.args.self.now.counted in
    let value : slice_get tables c.args.table ≡ Some found = got tables c.args.table found (omega (arith, l, counted)) c.in-Some.ensures.value in
    ap (filter (is_of key)) (set_here versions_of_table tables c.args.table found c.commit.new.self value)
    ∙ done key
    ∙ ap (λ o. filter (is_of key) (committed c.args.t (removed_of c.args.changes) (added_of c.args.changes) (option_map_or versions_of_table o []))) (sym value))
    c.commit.ensures.committed

pub returns-clause-others : goal.returns-clause-others
returns-clause-others c =
    on_ok c.commit.result (λ done n other. set_other versions_of_table c.args.self.now.tables.items c.args.table n c.commit.new.self other) c.commit.ensures.committed

pub returns-clause-few : goal.returns-clause-few
returns-clause-few c =
    let tables = c.args.self.now.tables.items in
    let found = c.in-Some.found.now in
    let value : slice_get tables c.args.table ≡ Some found = got tables c.args.table found (let there = c.in-Some.ensures.variant.0 refl in omega (arith, there, c.args.self.now.tables.ok.0)) c.in-Some.ensures.value in
    let same = ap (λ o. reads_to_end (removed_of c.args.changes) (option_map_or versions_of_table o [])) value in
    let few = c.commit.ensures.few in
    omega (arith, same, few)
