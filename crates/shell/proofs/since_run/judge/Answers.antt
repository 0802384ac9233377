use Rattle.std.proofs.Common.{◌≡◌, ◌≤◌, ◌++◌, ◌∙◌, length, map, rules, string_bytes}
use Rattle.std.specs.Prelude.{◌⊎◌, IfErr}
use Rattle.beginnings.specs.Words.{IsTold}
use Rattle.fault.specs.declared.refusal.Refusal.TheVariants.{NoMemory, BadFlight}
use Rattle.flight.specs.Contents.{in_flight}
use Rattle.shell.specs.Group.{AreHeld}
use Rattle.shell.proofs.Comparing.{since_said}
use Rattle.shell.proofs.Groups.{held}
use Rattle.shell.proofs.Judging.{never_another_group}
use Rattle.shell.proofs.since_run.judge.Goals as goal

pub returns-in_err-verdict-clause-err : goal.returns-in_err-verdict-clause-err
returns-in_err-verdict-clause-err c =
    let fs = c.in_ok-version.flights.items in
    let records = c.in_ok-records.records in
    let said : IfErr c.from_residual-in_err-verdict.result (λ refusal. (refusal ≡ NoMemory) ⊎ ((refusal ≡ BadFlight) × (3 ≤ length records.lives.items → length records.lives.items ≤ 7 → ⊥))) = search rules in
    never_another_group c.from_residual-in_err-verdict.result (map string_bytes c.args.texts.now) c.in_ok-version.version c.in_ok-version.schema records.lives.items records.answers.items
    (map in_flight fs, c.in_ok-version.ensures.ok, held fs records.lives.items records.answers.items c.in_ok-records.ensures.lives c.in_ok-records.ensures.answers) said

pub returns-clause-ok : goal.returns-clause-ok
returns-clause-ok c =
    let fs = c.in_ok-version.flights.items in
    let records = c.in_ok-records.records in
    let told = c.in_ok-told.told in
    let line = string_bytes c.in_ok-verdict.line in
    let are : AreHeld (map in_flight fs) records.lives.items records.answers.items = held fs records.lives.items records.answers.items c.in_ok-records.ensures.lives c.in_ok-records.ensures.answers in
    let beside : IsTold (map in_flight fs) c.args.seen.now told.is_beginning (string_bytes told.words) = rw c.as_slice.ensures.value at c.in_ok-told.ensures in
    let printed : string_bytes c.in_ok-text.text ≡ line ++ string_bytes told.words = c.in_ok-text.ensures ∙ (λ i. c.as_str.ensures.value i ++ c.as_str-2.ensures.value i) in
    since_said (map string_bytes c.args.texts.now) c.args.seen.now c.in_ok-version.version c.in_ok-version.schema fs records.lives.items records.answers.items c.in_ok-verdict.verdict line told.is_beginning (string_bytes told.words)
    (string_bytes c.in_ok-text.text) c.status_with.result c.in_ok-version.ensures.ok are c.in_ok-verdict.ensures.said beside printed c.status_with.ensures
