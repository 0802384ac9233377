use Rattle.std.proofs.Common.{◌++◌, List, map, ap, rules}
use Rattle.model.specs.declared.value.Value.{Value}
use Rattle.rowlaws.specs.Parts.{row_of_part}
use Rattle.current.specs.Rows.{row_of}
use Rattle.current.proofs.Lists.{ok_list}
use Rattle.current.proofs.correction.push_old_part.Goals as goal

pub returns-in_ok-clone-in-Some : goal.returns-in_ok-clone-in-Some
returns-in_ok-clone-in-Some c = ok_list c.push_part.result _ _ _ c.push_part.ensures (ap (λ (vs : List Value). map row_of c.args.parts.now.items ++ row_of_part (row_of c.args.row.now) c.args.part vs c.args.system_start) c.in_ok-clone-in-Some.ensures.cases)

pub returns-in-None : goal.returns-in-None
returns-in-None c = search rules
