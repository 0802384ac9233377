use Rattle.std.proofs.Common.{rules, arith}
use Rattle.current.proofs.table.TableRows.insert.Goals as goal

pub returns-then-has_clash-clause-ok : goal.returns-then-has_clash-clause-ok
returns-then-has_clash-clause-ok c = search rules

pub returns-then-has_clash-clause-err : goal.returns-then-has_clash-clause-err
returns-then-has_clash-clause-err c = search rules

pub returns-then-self-ge-ROWS_MOST-clause-ok : goal.returns-then-self-ge-ROWS_MOST-clause-ok
returns-then-self-ge-ROWS_MOST-clause-ok c = search rules

pub returns-then-self-ge-ROWS_MOST-clause-err : goal.returns-then-self-ge-ROWS_MOST-clause-err
returns-then-self-ge-ROWS_MOST-clause-err c = search rules

pub returns-in_err-put-clause-ok : goal.returns-in_err-put-clause-ok
returns-in_err-put-clause-ok c = search rules

pub returns-in_err-put-clause-err : goal.returns-in_err-put-clause-err
returns-in_err-put-clause-err c = search rules

pub returns-clause-ok : goal.returns-clause-ok
returns-clause-ok c = search rules

pub returns-clause-err : goal.returns-clause-err
returns-clause-err c = search rules

pub returns-in_err-put-clause-few : goal.returns-in_err-put-clause-few
returns-in_err-put-clause-few c digits short = let find = c.has_clash.ensures.few digits short in let place = c.put.ensures.few digits short in omega (arith, find, place)

pub returns-clause-few : goal.returns-clause-few
returns-clause-few c digits short = let find = c.has_clash.ensures.few digits short in let place = c.put.ensures.few digits short in omega (arith, find, place)

pub returns-then-has_clash-clause-few : goal.returns-then-has_clash-clause-few
returns-then-has_clash-clause-few c digits short = let find = c.has_clash.ensures.few digits short in omega (arith, find)

pub returns-then-self-ge-ROWS_MOST-clause-few : goal.returns-then-self-ge-ROWS_MOST-clause-few
returns-then-self-ge-ROWS_MOST-clause-few c digits short = let find = c.has_clash.ensures.few digits short in omega (arith, find)
