use Rattle.std.proofs.Common.{map, string_bytes}
use Rattle.shell.proofs.Judging.{judged_said, never_another_group}
use Rattle.shell.proofs.audit.judge.Goals as goal

pub returns-clause-said : goal.returns-clause-said
returns-clause-said c =
    let records = c.in_ok-version.records in
    judged_said c.audit_line.result (map string_bytes c.args.texts.now) c.in_ok-version.version c.in_ok-version.schema records.lives.items records.answers.items c.in_ok-version.ensures.ok c.audit_line.ensures.said

pub returns-clause-err : goal.returns-clause-err
returns-clause-err c =
    let records = c.in_ok-version.records in
    never_another_group c.audit_line.result (map string_bytes c.args.texts.now) c.in_ok-version.version c.in_ok-version.schema records.lives.items records.answers.items c.in_ok-version.ensures.ok c.audit_line.ensures.err
