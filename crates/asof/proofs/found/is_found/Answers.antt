use Rattle.std.proofs.Common.{◌∙◌, ◌&&◌, Bool, nat_le, map, sym, ap}
use Rattle.std.specs.List.{list_all}
use Rattle.sqlread.specs.Shapes.{term_of}
use Rattle.sqlread.specs.Meaning.{term_passes}
use Rattle.current.specs.Rows.{row_of}
use Rattle.versionlaws.specs.Answering.{is_before}
use Rattle.asof.proofs.Conditions.{test_last}
use Rattle.asof.proofs.found.is_found.Goals as goal

pub returns-then-is_alive : goal.returns-then-is_alive
returns-then-is_alive c =
    let v = c.args.version.now in
    let time = c.args.time.now in
    let pass : Bool = list_all (λ t. term_passes t (row_of v.row)) (map term_of c.args.terms.now) in
    c.passes.ensures ∙ ap (λ b. b && pass) (sym c.if-is_alive.true ∙ c.is_alive.ensures) ∙ test_last pass (nat_le v.row.system_start time.last) (is_before time.first v.end)

pub returns-else-is_alive : goal.returns-else-is_alive
returns-else-is_alive c =
    let v = c.args.version.now in
    let time = c.args.time.now in
    let pass : Bool = list_all (λ t. term_passes t (row_of v.row)) (map term_of c.args.terms.now) in
    c.if-is_alive.false ∙ ap (λ b. b && pass) (sym c.if-is_alive.false ∙ c.is_alive.ensures) ∙ test_last pass (nat_le v.row.system_start time.last) (is_before time.first v.end)
