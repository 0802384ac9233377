use Rattle.std.proofs.Common.{rules}
use Rattle.apply.proofs.tables.unless_new.Goals as goal

pub returns-in_err-copy_of-in-Kept : goal.returns-in_err-copy_of-in-Kept
returns-in_err-copy_of-in-Kept c = search rules

pub returns-in-New : goal.returns-in-New
returns-in-New c = search rules

pub returns-in_ok-copy_of-in-Kept : goal.returns-in_ok-copy_of-in-Kept
returns-in_ok-copy_of-in-Kept c = search rules

pub returns-in-Old : goal.returns-in-Old
returns-in-Old c = search rules

pub returns-in-Gap : goal.returns-in-Gap
returns-in-Gap c = search rules
