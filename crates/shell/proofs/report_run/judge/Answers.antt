use Rattle.std.proofs.Common.{◌≡◌, map, string_bytes}
use Rattle.beginnings.specs.Beginnings.{beginning_of}
use Rattle.flight.specs.Contents.{in_flight}
use Rattle.flight.specs.declared.flight.Flight.{Flight}
use Rattle.report.specs.Digests.{all_said}
use Rattle.report.specs.Whole.{held_of}
use Rattle.sha2.specs.Sha256.{sha256}
use Rattle.shell.specs.Group.{AreHeld}
use Rattle.shell.proofs.Groups.{held}
use Rattle.shell.proofs.Judging.{never_another_group}
use Rattle.shell.proofs.Reporting.{reported_on}
use Rattle.shell.proofs.report_run.judge.Goals as goal

pub returns-clause-ok : goal.returns-clause-ok
returns-clause-ok c =
    let fs = c.in_ok-version.flights.items in
    let records = c.in_ok-records.records in
    let are : AreHeld (map in_flight fs) records.lives.items records.answers.items = held fs records.lives.items records.answers.items c.in_ok-records.ensures.lives c.in_ok-records.ensures.answers in
    let nodes : c.in_ok-contents.contents.nodes.items ≡ map (λ (f : Flight). held_of (in_flight f)) fs = rw c.as_slice.ensures.value at c.in_ok-contents.ensures.nodes in
    let said : c.in_ok-contents.contents.answers ≡ sha256 (all_said (map in_flight fs)) = rw c.as_slice.ensures.value at c.in_ok-contents.ensures.answers in
    let kept : c.in_ok-contents.contents.beginnings.items ≡ map (λ (f : Flight). beginning_of (in_flight f)) fs = rw c.as_slice.ensures.value at c.in_ok-contents.ensures.beginnings in
    reported_on c.report_of.result (map string_bytes c.args.texts.now) c.in_ok-version.version c.in_ok-version.schema fs records.lives.items records.answers.items c.in_ok-contents.contents
    c.in_ok-version.ensures.ok are nodes said kept c.report_of.ensures.verdict c.report_of.ensures.contents c.report_of.ensures.seal

pub returns-clause-err : goal.returns-clause-err
returns-clause-err c =
    let fs = c.in_ok-version.flights.items in
    let records = c.in_ok-records.records in
    never_another_group c.report_of.result (map string_bytes c.args.texts.now) c.in_ok-version.version c.in_ok-version.schema records.lives.items records.answers.items
    (map in_flight fs, c.in_ok-version.ensures.ok, held fs records.lives.items records.answers.items c.in_ok-records.ensures.lives c.in_ok-records.ensures.answers) c.report_of.ensures.err
