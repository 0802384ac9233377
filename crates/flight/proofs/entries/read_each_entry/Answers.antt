use Rattle.std.proofs.Common.{◌≡◌, ◌<◌, ◌≤◌, ◌++◌, ◌∷◌, [], length, rules}
use Rattle.flight.specs.Spelling.{entry_text}
use Rattle.flight.specs.Ranges.{IsEntry}
use Rattle.flight.proofs.Lists.{counted_more, counted_unread, counted_only}
use Rattle.flight.proofs.entries.read_each_entry.Goals as goal

pub returns-in_err-entry-clause-err : goal.returns-in_err-entry-clause-err
returns-in_err-entry-clause-err c =
    let few : length c.loop-alloc.entries.items < c.args.count = search rules in
    let unread = counted_unread IsEntry entry_text c.args.count c.args.text.now c.loop-alloc.entries.items c.loop-alloc.rest.now c.in_err-entry.field-0.0 c.loop-alloc.invariant.taken few c.in_err-entry.ensures.err in
    search (rules, unread)

pub loop-alloc-preserved : goal.loop-alloc-preserved
loop-alloc-preserved c =
    let few : length c.loop-alloc.entries.items < c.args.count = search rules in
    let more = counted_more IsEntry entry_text c.args.count c.args.text.now c.loop-alloc.entries.items c.loop-alloc.rest.now c.in_ok-entry.entry c.in_ok-entry.left.now c.loop-alloc.invariant.taken few c.in_ok-entry.ensures.ok c.in_ok-entry.ensures.only in
    let items : c.push.new.self.items ≡ c.loop-alloc.entries.items ++ c.in_ok-entry.entry ∷ [] = search rules in
    record { utf8 = search rules; few = search rules; taken = rw items more }

pub returns-clause-only : goal.returns-clause-only
returns-clause-only c =
    let full : c.args.count ≤ length c.loop-alloc.entries.items = search rules in
    counted_only IsEntry entry_text c.args.count c.args.text.now c.loop-alloc.entries.items c.loop-alloc.rest.now c.loop-alloc.invariant.taken full
