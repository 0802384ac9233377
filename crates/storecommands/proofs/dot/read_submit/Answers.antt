use Rattle.std.proofs.Common.{rules}
use Rattle.lines.proofs.Lines.{request_unspaced, request_short, request_client, request_number}
use Rattle.storecommands.proofs.dot.read_submit.Goals as goal

pub returns-in_err-client-clause-none : goal.returns-in_err-client-clause-none
returns-in_err-client-clause-none c =
    let bad = request_unspaced c.args.rest.now c.in_err-client.ensures.none in
    search (rules, bad)

pub returns-in_err-number-clause-none : goal.returns-in_err-number-clause-none
returns-in_err-number-clause-none c =
    let bad = request_short c.args.rest.now c.in_ok-client.client.now c.in_ok-client.rest.now c.in_ok-client.ensures.parts c.in_ok-client.ensures.first c.in_err-number.ensures.none in
    search (rules, bad)

pub returns-in_err-read_client-clause-none : goal.returns-in_err-read_client-clause-none
returns-in_err-read_client-clause-none c =
    let bad = request_client c.args.rest.now c.in_ok-client.client.now c.in_ok-client.rest.now c.in_ok-client.ensures.parts c.in_ok-client.ensures.first c.in_err-read_client.ensures.none in
    search (rules, bad)

pub returns-in_err-read_request_number-clause-none : goal.returns-in_err-read_request_number-clause-none
returns-in_err-read_request_number-clause-none c =
    let bad = request_number c.args.rest.now c.in_ok-client.client.now c.in_ok-client.rest.now c.in_ok-client.ensures.parts c.in_ok-client.ensures.first
    c.in_ok-number.number.now c.in_ok-number.text.now c.in_ok-number.ensures.parts c.in_ok-number.ensures.first c.in_err-read_request_number.ensures.none in
    search (rules, bad)
