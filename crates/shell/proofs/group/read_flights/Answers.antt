use Rattle.std.proofs.Common.{rules}
use Rattle.std.specs.Prelude.{IfErr, string_bytes}
use Rattle.flight.specs.Files.{IsNoFile}
use Rattle.shell.specs.Reading.{IsRead}
use Rattle.shell.proofs.Groups.{unread, zip_more}
use Rattle.shell.proofs.group.read_flights.Goals as goal

pub returns-in_err-read_flight-clause-err : goal.returns-in_err-read_flight-clause-err
returns-in_err-read_flight-clause-err c =
    let said : IfErr c.from_residual.result (IsNoFile (string_bytes c.text-item.result)) = search rules in
    unread c.from_residual.result c.args.texts.now c.loop-text.text-index c.text-item.result (search rules) c.text-item.is said

pub loop-text-preserved : goal.loop-text-preserved
loop-text-preserved c =
    let f = c.in_ok-read_flight.field-0 in
    let both : IsRead c.text-item.result f = (rw c.as_str.ensures.value at c.in_ok-read_flight.ensures.ok, rw c.as_str.ensures.value at c.in_ok-read_flight.ensures.only) in
    rw c.in_ok-push.ensures.items (zip_more IsRead c.args.texts.now c.loop-text.flights.items c.loop-text.text-index c.text-item.result f (search rules) c.text-item.is c.loop-text.invariant both)
