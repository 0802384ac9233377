use Rattle.sqlite.specs.State.{HasCleanDisk}
use Rattle.sqlite.specs.Held.{state}
use Rattle.sqlread.specs.Meaning.{language_of}
use Rattle.durable.specs.Stored.{IsSound}
use Rattle.durable.proofs.Offering.{keeps_offers, offers_on}
use Rattle.durable.proofs.Opened.{judged_opens}
use Rattle.durable.proofs.finding.find_log.Goals as goal

pub returns-then-not-ready-clause-ok : goal.returns-then-not-ready-clause-ok
returns-then-not-ready-clause-ok g c clean d offer forms = c.in_ok-ready.ensures.foreign clean c.if-not-ready.true d offer

pub returns-clause-ok : goal.returns-clause-ok
returns-clause-ok g c clean =
    let old = state g.S.Store c.args.conn.now in
    let mid = state g.S.Store c.set_up.new.conn in
    let new = state g.S.Store c.judge.new.conn in
    let early : HasCleanDisk mid = c.judge.ensures.clean clean in
    let ready = c.in_ok-ready.ensures.ready early c.if-not-ready.false in
    judged_opens old mid new c.args.members (language_of c.args.schema.now) c.judge.result early c.set_up.ensures.autocommit ready c.set_up.ensures.left (c.judge.ensures.same clean) (c.judge.ensures.ok clean)

pub returns-clause-left : goal.returns-clause-left
returns-clause-left g c d offer =
    let mid = state g.S.Store c.set_up.new.conn in
    let new = state g.S.Store c.judge.new.conn in
    let late : HasCleanDisk new = offer.clean in
    let early : HasCleanDisk mid = c.judge.ensures.clean late in
    let ready = c.in_ok-ready.ensures.ready early c.if-not-ready.false in
    c.set_up.ensures.left d (keeps_offers mid new d early c.set_up.ensures.autocommit (c.judge.ensures.keeps late ready.tables) offer)

pub returns-clause-kept : goal.returns-clause-kept
returns-clause-kept g c sound d offer =
    let mid = state g.S.Store c.set_up.new.conn in
    let new = state g.S.Store c.judge.new.conn in
    let early : HasCleanDisk mid = c.judge.ensures.clean sound.clean in
    let ready = c.in_ok-ready.ensures.ready early c.if-not-ready.false in
    let keeps = c.judge.ensures.keeps sound.clean ready.tables in
    let still : IsSound mid = record { clean = early; is_open = keeps.was_open sound.is_open } in
    offers_on mid new d sound (c.judge.ensures.autocommit c.set_up.ensures.autocommit) (keeps.committed sound.is_open) (c.set_up.ensures.kept still d offer)
