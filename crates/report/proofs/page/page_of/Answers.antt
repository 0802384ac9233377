use Rattle.std.proofs.Common.{string_bytes}
use Rattle.report.proofs.page.page_of.Goals as goal

pub returns : goal.returns
returns c = (string_bytes c.in_ok-text.text, c.in_ok-put_kept.ensures)
