use Rattle.std.proofs.Common.{◌≡◌, ◌<◌, ◌++◌, ◌∷◌, [], length, ap, rules, arith}
use Rattle.beginnings.specs.Lines.{part_text}
use Rattle.beginnings.proofs.Listed.{part_on, parts_more, parts_unread, parts_whole, parts_only, none_left}
use Rattle.beginnings.proofs.line.read_parts.Goals as goal

pub returns-in_err-beginning-clause-err : goal.returns-in_err-beginning-clause-err
returns-in_err-beginning-clause-err c =
    let some : 0 < length c.loop-rest.rest.now = search rules in
    let unread = parts_unread c.args.text.now c.loop-rest.seen.items c.loop-rest.rest.now some c.loop-rest.invariant.taken c.in_err-beginning.field-0.0 c.in_err-beginning.ensures.err in
    search (rules, unread)

pub loop-rest-preserved : goal.loop-rest-preserved
loop-rest-preserved c =
    let some : 0 < length c.loop-rest.rest.now = search rules in
    let more = parts_more c.args.text.now c.loop-rest.seen.items c.loop-rest.rest.now some c.loop-rest.invariant.taken c.in_ok-beginning.beginning c.in_ok-beginning.left.now c.in_ok-beginning.ensures.ok c.in_ok-beginning.ensures.only in
    let items : c.push.new.self.items ≡ c.loop-rest.seen.items ++ c.in_ok-beginning.beginning ∷ [] = search rules in
    record { utf8 = search rules; taken = rw items more }

pub loop-rest-smaller : goal.loop-rest-smaller
loop-rest-smaller c =
    let long : length c.loop-rest.rest.now ≡ length (part_text c.in_ok-beginning.beginning c.in_ok-beginning.left.now) = ap length c.in_ok-beginning.ensures.ok.1 in
    let longer = part_on c.in_ok-beginning.beginning c.in_ok-beginning.left.now in
    omega (arith, long, longer)

pub returns-clause-ok : goal.returns-clause-ok
returns-clause-ok c =
    let none : length c.loop-rest.rest.now ≡ 0 = search rules in
    let over = none_left c.loop-rest.rest.now none in
    parts_whole c.args.text.now c.loop-rest.seen.items c.loop-rest.rest.now over c.loop-rest.invariant.taken

pub returns-clause-only : goal.returns-clause-only
returns-clause-only c =
    let none : length c.loop-rest.rest.now ≡ 0 = search rules in
    let over = none_left c.loop-rest.rest.now none in
    parts_only c.args.text.now c.loop-rest.seen.items c.loop-rest.rest.now over c.loop-rest.invariant.taken
