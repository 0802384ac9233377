use Rattle.std.proofs.Common.{◌≡◌, ◌+◌, ◌≤◌, ◌++◌, [], length, drop, sym, subst, arith}
use Rattle.std.proofs.lemmas.List.{append-nil, drop_all}
use Rattle.sqlread.specs.Meaning.{language_of}
use Rattle.durable.specs.Contents.{items_of}
use Rattle.durable.specs.Rows.{shown_log}
use Rattle.durable.specs.Judging.{Forms, Go}
use Rattle.durable.proofs.Judged.{shown_next, forms_rest}
use Rattle.durable.proofs.judging.log_shown.Goals as goal

pub each-preserved : goal.each-preserved
each-preserved c =
    let tables = language_of c.args.schema.now in
    let rows = c.args.rows.now in
    let e = c.in-Some.entry in
    let told = rw c.in-Some.is at c.in_ok-entry.ensures in
    record {
      counted = omega arith;
      later = omega arith;
      on = λ h. subst (λ n. Forms tables c.args.top (c.each.at + 1) e.term (n + 1) (drop (c.each.row-index + 1) rows)) (sym c.micros-least.ensures.value)
          (forms_rest tables c.args.top c.each.at c.each.term c.each.least c.each.row-index rows c.row-item.result e c.each-test.true c.row-item.is told.0 told.1 (c.each.invariant.on h));
      read = λ rest later go. subst (λ all. (rows ≡ shown_log 1 (items_of (all ++ rest))) × Go tables c.args.top 0 0 (all ++ rest)) (sym c.in_ok-push.ensures.items)
          (shown_next tables c.args.top c.each.at c.each.term c.each.least c.each.row-index rows c.row-item.result e c.each.log.items rest c.each-test.true c.row-item.is told.0 told.1 c.each.invariant.read
          later (subst (λ n. Go tables c.args.top e.term (n + 1) rest) c.micros-least.ensures.value go));
    }

pub returns : goal.returns
returns c =
    let tables = language_of c.args.schema.now in
    let rows = c.args.rows.now in
    let past : length rows ≤ c.each.row-index = omega arith in
    let end : drop c.each.row-index rows ≡ [] = drop_all c.each.row-index rows past in
    subst (λ all. (rows ≡ shown_log 1 (items_of all)) × Go tables c.args.top 0 0 all) (append-nil c.each.log.items) (c.each.invariant.read [] end tt)
