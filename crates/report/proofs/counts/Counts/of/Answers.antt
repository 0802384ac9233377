use Rattle.std.proofs.Common.{◌≡◌, length, refl, rules}
use Rattle.report.proofs.Counting.{counted}
use Rattle.report.proofs.counts.Counts.of.Goals as goal

pub returns : goal.returns
returns c =
    let f = c.args.flight.now in
    let lives = c.as_slice-lives.result.now in
    let answers : c.len.result ≡ length f.answers.items = search rules in
    counted f lives (length lives) c.in_ok-steps_in.field-0 c.in_ok-torn_in.field-0 c.in_ok-taken_in.field-0 c.in_ok-outcomes_in.field-0 c.len.result
    c.as_slice-lives.ensures.value refl c.in_ok-steps_in.ensures c.in_ok-torn_in.ensures c.in_ok-taken_in.ensures c.in_ok-outcomes_in.ensures answers
