use Rattle.journal.proofs.Frames.{torn_is_none, ends_once}
use Rattle.journal.proofs.laws.torn_ends.Goals as goal

pub returns-clause-torn : goal.returns-clause-torn
returns-clause-torn c = torn_is_none

pub returns-clause-once : goal.returns-clause-once
returns-clause-once c = ends_once
