use Rattle.std.proofs.Common.{◌≡◌, ◌<◌, ◌++◌, ◌∷◌, [], length, ap, rules, arith}
use Rattle.journal.specs.Spelling.{line_text}
use Rattle.journal.proofs.Listed.{line_on, lines_more, lines_unread, lines_whole, lines_only, none_left}
use Rattle.journal.proofs.reading.read_lines.Goals as goal

pub returns-in_err-line-clause-err : goal.returns-in_err-line-clause-err
returns-in_err-line-clause-err c =
    let some : 0 < length c.loop-rest.rest.now = search rules in
    let unread = lines_unread c.args.body.now c.loop-rest.lines.items c.loop-rest.rest.now some c.loop-rest.invariant.taken c.in_err-line.field-0.0 c.in_err-line.ensures.err in
    search (rules, unread)

pub loop-rest-preserved : goal.loop-rest-preserved
loop-rest-preserved c =
    let some : 0 < length c.loop-rest.rest.now = search rules in
    let more = lines_more c.args.body.now c.loop-rest.lines.items c.loop-rest.rest.now some c.loop-rest.invariant.taken c.in_ok-line.line c.in_ok-line.left.now c.in_ok-line.ensures.ok c.in_ok-line.ensures.only in
    let items : c.push.new.self.items ≡ c.loop-rest.lines.items ++ c.in_ok-line.line ∷ [] = search rules in
    record { utf8 = search rules; taken = rw items more }

pub loop-rest-smaller : goal.loop-rest-smaller
loop-rest-smaller c =
    let long : length c.loop-rest.rest.now ≡ length (line_text c.in_ok-line.line c.in_ok-line.left.now) = ap length c.in_ok-line.ensures.ok.1 in
    let longer = line_on c.in_ok-line.line c.in_ok-line.left.now in
    omega (arith, long, longer)

pub returns-clause-ok : goal.returns-clause-ok
returns-clause-ok c =
    let none : length c.loop-rest.rest.now ≡ 0 = search rules in
    let over = none_left c.loop-rest.rest.now none in
    lines_whole c.args.body.now c.loop-rest.lines.items c.loop-rest.rest.now over c.loop-rest.invariant.taken

pub returns-clause-only : goal.returns-clause-only
returns-clause-only c =
    let none : length c.loop-rest.rest.now ≡ 0 = search rules in
    let over = none_left c.loop-rest.rest.now none in
    lines_only c.args.body.now c.loop-rest.lines.items c.loop-rest.rest.now over c.loop-rest.invariant.taken
