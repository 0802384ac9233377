use Rattle.std.proofs.Common.{map, sym, ap, ◌∙◌, ◌++◌}
use Rattle.std.proofs.lemmas.List.{append-nil}
use Rattle.current.specs.Rows.{row_of}
use Rattle.current.proofs.Lists.{pushed, one_absent, one_present}
use Rattle.current.proofs.compare.add_unless.Goals as goal

pub returns-then-has_row : goal.returns-then-has_row
returns-then-has_row c =
    let front = map row_of c.args.more.now.items in
    sym (append-nil front) ∙ ap (λ new. front ++ new) (sym (one_present c.args.others.now c.args.row.now (sym c.has_row.ensures ∙ c.if-has_row.true)))

pub returns : goal.returns
returns c =
    let front = map row_of c.args.more.now.items in
    pushed row_of _ _ _ (row_of c.args.row.now) c.in_ok-push.ensures.items c.in_ok-clone.ensures.cases ∙ ap (λ new. front ++ new) (sym (one_absent c.args.others.now c.args.row.now (sym c.has_row.ensures ∙ c.if-has_row.false)))
