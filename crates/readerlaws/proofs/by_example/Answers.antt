use Rattle.readerlaws.proofs.Example.{by_example}
use Rattle.readerlaws.proofs.by_example.Goals as goal

pub returns : goal.returns
returns c =
    by_example c.day_texts.ensures.printed c.day_texts.ensures.one c.lines_read_again.ensures.statements c.texts_fine.ensures c.fine_logs.ensures c.logs_on_rows.ensures c.outcomes_on_rows.ensures
    c.each_listed.ensures
