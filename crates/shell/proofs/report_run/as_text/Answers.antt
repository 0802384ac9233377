use Rattle.std.specs.Prelude.{string_bytes}
use Rattle.report.specs.Pages.{kept_lines}
use Rattle.shell.proofs.Reporting.{behind_line}
use Rattle.shell.proofs.report_run.as_text.Goals as goal

pub returns : goal.returns
returns c =
    behind_line c.format.result c.args.report.now.fault (string_bytes c.in_ok-verdict.verdict) c.in_ok-page.page.bytes.items c.in_ok-page.ensures.0 (kept_lines c.args.report.now) c.format.ensures.ok c.in_ok-verdict.ensures c.in_ok-page.ensures.1
