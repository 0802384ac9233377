use Rattle.std.proofs.Common.{◌≡◌, ◌∙◌, ap, sym, Some, None, option_map}
use Rattle.period.specs.declared.day.Day.{Day}
use Rattle.rowlaws.specs.Covering.{missing, place_at}
use Rattle.rowlaws.specs.Suspects.{earlier}
use Rattle.current.specs.Rows.{row_of}
use Rattle.current.specs.Orphans.{place_of}
use Rattle.current.specs.Suspects.{rows_by, references_by}
use Rattle.current.proofs.Looking.{looks_at_row}
use Rattle.current.proofs.suspects.Search.row.Goals as goal

pub returns-in-Some-clause-looks : goal.returns-in-Some-clause-looks
returns-in-Some-clause-looks c =
    let s = c.args.self.now in
    let row = row_of c.args.row.now in
    let day : missing (references_by s) (rows_by s) s.place row ≡ Some c.in-Some.day.number = sym c.in_ok-day.ensures.day ∙ ap (option_map (λ (d : Day). d.number)) c.in-Some.is in
    looks_at_row s row _ _ c.requires (c.earlier.ensures ∙ ap (λ o. earlier (place_at s.place row o None) (option_map place_of c.args.before)) (sym day))

pub returns-in-None-clause-looks : goal.returns-in-None-clause-looks
returns-in-None-clause-looks c =
    let s = c.args.self.now in
    let row = row_of c.args.row.now in
    let day : missing (references_by s) (rows_by s) s.place row ≡ None = sym c.in_ok-day.ensures.day ∙ ap (option_map (λ (d : Day). d.number)) c.in-None.is in
    looks_at_row s row _ _ c.requires (ap (λ o. earlier (place_at s.place row o None) (option_map place_of c.args.before)) (sym day))
