use Rattle.std.proofs.Common.{List, ◌≡◌, ◌<◌, ◌≤◌, length, map, true, sym, ap, subst, ◌∙◌, rules}
use Rattle.sqlite.specs.State.{HasCleanDisk}
use Rattle.sqlite.specs.Held.{state}
use Rattle.sqlite.specs.Effect.{Database}
use Rattle.sqlread.specs.Meaning.{language_of}
use Rattle.keep.specs.Log.{is_vote}
use Rattle.std.specs.List.Sorted.{IsPermutation}
use Rattle.durable.specs.Contents.{Item}
use Rattle.durable.specs.Rows.{shown_entry, shown_log, log_rows, in_order}
use Rattle.durable.proofs.Deciding.{no_room, judged, judged_short}
use Rattle.durable.proofs.finding.judge.Goals as goal

pub returns-then-len-gt-LOG_ROOM-clause-ok : goal.returns-then-len-gt-LOG_ROOM-clause-ok
returns-then-len-gt-LOG_ROOM-clause-ok g c clean has =
    let db = (state g.S.Store c.args.conn.now).now in
    let mid : HasCleanDisk (state g.S.Store c.find_hard.new.conn) = c.read_log.ensures.clean clean in
    let hard = rw c.in-Some.is at (c.in_ok-hard.ensures.ok mid has) in
    let now = (c.in_ok-hard.ensures.same mid has).0.now_is in
    let shown = subst (λ (d : Database). (es : List Item) → in_order (d.trees 1) ≡ log_rows 1 es → c.in_ok-rows.rows.items ≡ shown_log 1 es) now (c.in_ok-rows.ensures.known clean (ap (λ (d : Database). d.schema) now ∙ has)) in
    let long : 100000 < length c.in_ok-rows.rows.items = search rules in
    no_room db c.args.members (language_of c.args.schema.now) c.in-Some.hard hard c.in_ok-rows.rows.items shown long

pub returns-clause-ok : goal.returns-clause-ok
returns-clause-ok g c clean has =
    let db = (state g.S.Store c.args.conn.now).now in
    let mid : HasCleanDisk (state g.S.Store c.find_hard.new.conn) = c.read_log.ensures.clean clean in
    let hard = rw c.in-Some.is at (c.in_ok-hard.ensures.ok mid has) in
    let same = (c.in_ok-hard.ensures.same mid has).0 in
    let now = same.now_is in
    let later = ap (λ (d : Database). d.schema) now ∙ has in
    let rows = c.in_ok-rows.rows.items in
    let shown = subst (λ (d : Database). IsPermutation (map shown_entry (d.trees 1)) rows) now (c.in_ok-rows.ensures.ok clean later) in
    let known = subst (λ (d : Database). (es : List Item) → in_order (d.trees 1) ≡ log_rows 1 es → rows ≡ shown_log 1 es) now (c.in_ok-rows.ensures.known clean later) in
    let told = rw c.deref.ensures.value at c.in_ok-log.ensures in
    let short : length rows ≤ 100000 = search rules in
    let voted : is_vote c.args.members c.in-Some.hard.vote ≡ true = sym c.is_vote.ensures ∙ c.if-not-is_vote.false in
    judged db c.args.members (language_of c.args.schema.now) c.in-Some.hard rows c.in_ok-log.log has (c.schema.ensures.live same.was_open).0 hard voted shown known short told

pub returns-clause-short : goal.returns-clause-short
returns-clause-short g c =
    let told = rw c.deref.ensures.value at c.in_ok-log.ensures in
    let short : length c.in_ok-rows.rows.items ≤ 100000 = search rules in
    judged_short (language_of c.args.schema.now) c.in-Some.hard.term c.in_ok-rows.rows.items c.in_ok-log.log short told
