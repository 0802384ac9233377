use Rattle.std.proofs.Common.{◌∙◌, map, ap, sym}
use Rattle.sysversion.specs.Lists.{lists_of, list_in}
use Rattle.sysversion.specs.Open.{ended_from}
use Rattle.sysversion.proofs.Changed.{lists_written, lists_same}
use Rattle.sysversion.proofs.lists.end_in_lists.Goals as goal

pub returns-in_default-clause-lists : goal.returns-in_default-clause-lists
returns-in_default-clause-lists c =
    let m = c.args.lists.now in
    let row = c.args.row.now in
    let end = map (ended_from c.args.t row.period.start.number) in
    let none = sym (ap list_in c.in_default.ensures.value) in
    ap lists_of c.get_mut.follows.holds-at-none ∙ lists_same m row.key (end (lists_of m row.key)) (none ∙ sym (ap end none))

pub returns-clause-lists : goal.returns-clause-lists
returns-clause-lists c =
    let m = c.args.lists.now in
    let row = c.args.row.now in
    let end = map (ended_from c.args.t row.period.start.number) in
    let w = c.end_from.new.self in
    let value = c.in-Some.ensures.value in
    lists_written m (c.get_mut.follows.lender w) row.key c.in-Some.list.now w (end (lists_of m row.key)) value (c.get_mut.follows.holds w) (c.end_from.ensures.ended ∙ ap end (ap list_in value))
