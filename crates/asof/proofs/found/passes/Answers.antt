use Rattle.std.proofs.Common.{◌∙◌, map}
use Rattle.std.specs.List.{list_all}
use Rattle.sqlread.specs.Shapes.{term_of, row}
use Rattle.sqlread.specs.Meaning.{term_passes}
use Rattle.asof.proofs.found.passes.Goals as goal

pub returns : goal.returns
returns c =
    let v = c.args.version.now in
    c.pass_all_terms.ensures v.row.system_start
    ∙ (λ i. list_all (λ t. term_passes t (row (c.as_slice.ensures i) (c.as_slice-2.ensures.value i) v.row.period v.row.system_start)) (map term_of c.args.terms.now))
