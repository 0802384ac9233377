use Rattle.rowlaws.proofs.Listed.{lists_inserted}
use Rattle.rowlaws.proofs.insert_on_rows.Goals as goal

pub returns : goal.returns
returns c = λ key values p t old rows fine clear l. lists_inserted key values p t rows old l fine.0 fine.1 clear
