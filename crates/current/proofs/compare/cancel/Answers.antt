use Rattle.std.proofs.Common.{map}
use Rattle.current.specs.Rows.{row_of}
use Rattle.current.proofs.Among.{list_without, common_left_out, without_none, none_without, empty_is}
use Rattle.current.proofs.compare.cancel.Goals as goal
use Rattle.current.proofs.compare.cancel.Goals.{then-is_empty-via-then-is_empty, then-is_empty-via-else-is_empty+then-is_empty-2}

pub returns-then-is_empty-clause-added : goal.returns-then-is_empty-clause-added
returns-then-is_empty-clause-added c =
    let added = c.args.added.now.items in
    let later = c.args.later_removed.now.items in
    elim c.then-is_empty.branch [
      | then-is_empty-via-then-is_empty w ↦ none_without (map row_of added) (map row_of later) (empty_is c.args.added.now c.is_empty.result c.is_empty.ensures w.if-is_empty.true)
      | then-is_empty-via-else-is_empty+then-is_empty-2 w ↦ without_none (map row_of added) (map row_of later) (empty_is c.args.later_removed.now w.is_empty-else-is_empty.result w.is_empty-else-is_empty.ensures w.if-is_empty-2.true)
    ]

pub returns-then-is_empty-clause-removed : goal.returns-then-is_empty-clause-removed
returns-then-is_empty-clause-removed c =
    let added = c.args.added.now.items in
    let later = c.args.later_removed.now.items in
    elim c.then-is_empty.branch [
      | then-is_empty-via-then-is_empty w ↦ without_none (map row_of later) (map row_of added) (empty_is c.args.added.now c.is_empty.result c.is_empty.ensures w.if-is_empty.true)
      | then-is_empty-via-else-is_empty+then-is_empty-2 w ↦ none_without (map row_of later) (map row_of added) (empty_is c.args.later_removed.now w.is_empty-else-is_empty.result w.is_empty-else-is_empty.ensures w.if-is_empty-2.true)
    ]

pub returns-clause-added : goal.returns-clause-added
returns-clause-added c = rw (c.in_ok-both.ensures.left, c.as_slice.ensures.value) (list_without c.args.added.now.items c.args.later_removed.now.items)

pub returns-clause-removed : goal.returns-clause-removed
returns-clause-removed c =
    rw (c.in_ok-take_out.ensures.left, c.as_slice-2.ensures.value, c.in_ok-both.ensures.taken, c.as_slice.ensures.value) (common_left_out c.args.later_removed.now.items c.args.added.now.items)
