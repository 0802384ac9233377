use Rattle.std.proofs.Common.{◌∙◌, List, ◌++◌, ◌∷◌, [], ap}
use Rattle.current.specs.Rows.{row_of}
use Rattle.versionlaws.specs.Versions.{Version}
use Rattle.versionlaws.specs.Committing.{opened}
use Rattle.sysversion.specs.Lists.{lists_of, list_in}
use Rattle.sysversion.proofs.Changed.{lists_written, lists_written_back, on_ok, on_err}
use Rattle.sysversion.proofs.lists.open_row.Goals as goal

pub returns-in-Some-clause-ok : goal.returns-in-Some-clause-ok
returns-in-Some-clause-ok c =
    let m = c.args.lists.now in
    let w = c.open.new.self in
    let key = c.args.row.key in
    let more : List Version → List Version = λ vs. vs ++ opened (row_of c.args.row) ∷ [] in
    let value = c.in-Some.ensures.value in
    on_ok c.open.result
    (λ put. lists_written m (c.get_mut.follows.lender w) key c.in-Some.list.now w (more (lists_of m key)) value (c.get_mut.follows.holds w) (put ∙ ap more (ap list_in value)))
    c.open.ensures.ok

pub returns-in-Some-clause-err : goal.returns-in-Some-clause-err
returns-in-Some-clause-err c =
    let w = c.open.new.self in
    on_err c.open.result
    (lists_written_back c.args.lists.now (c.get_mut.follows.lender w) c.args.row.key c.in-Some.list.now w c.in-Some.ensures.value (c.get_mut.follows.holds w))
    c.open.ensures.err
