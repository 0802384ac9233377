use Rattle.std.proofs.Common.{◌≡◌, pos, arith, refl, sym, w8, w16, to_z}
use Rattle.std.proofs.lemmas.Int.{to_z_pos}
use Rattle.std.proofs.lemmas.Option.{IfSome_then}
use Rattle.period.specs.declared.parts.DateParts.{DateParts}
use Rattle.period.specs.Places.{AreDateParts}
use Rattle.period.proofs.DayLemmas.{date_of_parts, date_of_text, IsDate-parts, IsYear_positive, IfNone_from}
use Rattle.period.proofs.day.day_of.Goals as goal

-- the casts keep the parts
casts : (p : DateParts) → AreDateParts p → (to_z w16 p.year ≡ pos p.year) × (to_z w8 p.month ≡ pos p.month) × (to_z w8 p.day ≡ pos p.day)
casts p fit = (to_z_pos w16 p.year (omega arith), to_z_pos w8 p.month (omega arith), to_z_pos w8 p.day (omega arith))

pub returns-in-Ok-clause-some : goal.returns-in-Ok-clause-some
returns-in-Ok-clause-some c =
    let (y, m, d) = casts c.args.parts c.requires in
    let ymd = rw (y, m, d) at c.in-Ok.ensures.value in
    IfSome_then c.day_of_date.result c.day_of_date.ensures.value (λ day is. (c.args.parts, (date_of_parts c.args.parts c.in-Ok.date day.number ymd is, refl)))

pub returns-in-Ok-clause-none : goal.returns-in-Ok-clause-none
returns-in-Ok-clause-none c =
    let (y, m, d) = casts c.args.parts c.requires in
    let ymd = rw (y, m, d) at c.in-Ok.ensures.value in
    IfNone_from c.day_of_date.result _ (λ none day (date, (is, text)).
    let own = date_of_text c.args.parts date day c.requires is text in
    let first = rw (sym ymd.0) at (IsYear_positive c.args.parts day own) in
    none (c.day_of_date.ensures.some.1 first))

pub returns-in-Err-clause-none : goal.returns-in-Err-clause-none
returns-in-Err-clause-none c = λ day (date, (is, text)).
    let (y, m, d) = casts c.args.parts c.requires in
    let own = date_of_text c.args.parts date day c.requires is text in
    let can = rw (y, m, d) at c.in-Err.ensures.succeeds in
    let yes = can.1 (IsDate-parts c.args.parts day own) in
    absurd (cc)
