use Rattle.std.proofs.Common.{◌∙◌, ◌∷◌, ◌++◌, [], Some, ap, map, subst}
use Rattle.std.specs.BTreeMap.{UpdatesBy}
use Rattle.model.specs.Values.{key_cmp}
use Rattle.current.specs.Rows.{row_of}
use Rattle.versionlaws.specs.Committing.{opened}
use Rattle.sysversion.specs.Lists.{version_of}
use Rattle.sysversion.proofs.Changed.{lists_changed}
use Rattle.sysversion.proofs.lists.open_first.Goals as goal

pub returns-clause-ok : goal.returns-clause-ok
returns-clause-ok c =
    let m = c.args.lists.now in
    let n = c.insert.new.self in
    let list = c.open.new.self in
    let updates = subst (λ key. UpdatesBy key_cmp (key_cmp key) m n (Some list)) c.in_ok-key.ensures.cases c.in_ok-insert.ensures.updates in
    lists_changed m n c.args.row.key (Some list) (opened (row_of c.args.row) ∷ []) updates (c.in_ok-open.ensures.ok ∙ ap (λ vs. map version_of vs ++ opened (row_of c.args.row) ∷ []) c.new-list.ensures)
