use Rattle.std.proofs.Common.{refl, rules}
use Rattle.apply.proofs.Entries.{of_no_entry}
use Rattle.apply.proofs.tables.Tables.new.Goals as goal

pub returns-clause-tables : goal.returns-clause-tables
returns-clause-tables c =
    of_no_entry c.log_laws.ensures.none c.log_laws.ensures.rows c.args.schema.now _
    c.in_ok-current.ensures.rows c.in_ok-versions.ensures.versions c.new-requests.ensures.numbers c.new-requests.ensures.outcomes refl
    c.in_ok-current.ensures.schema c.in_ok-versions.ensures.schema (search rules)
