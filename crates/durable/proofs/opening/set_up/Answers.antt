use Rattle.std.proofs.Common.{refl, sym, ◌∙◌, arith}
use Rattle.sqlite.specs.State.{HasCleanDisk}
use Rattle.sqlite.specs.Held.{state}
use Rattle.durable.proofs.Offering.{made_left, made_on}
use Rattle.durable.proofs.opening.set_up.Goals as goal

pub returns-then-is_blank-clause-left : goal.returns-then-is_blank-clause-left
returns-then-is_blank-clause-left g c d offer =
    let old = state g.S.Store c.args.conn.now in
    let new = state g.S.Store c.commit_tables.new.conn in
    let late : HasCleanDisk new = offer.clean in
    let clean : HasCleanDisk old = omega (arith, late, c.commit_tables.ensures.crash.clean) in
    let none = sym c.schema.ensures.value ∙ c.if-is_blank.ensures.0 refl in
    made_left old new d clean c.requires.out c.requires.settled none (c.in_ok-commit_tables.ensures.ok late) offer

pub returns-then-is_blank-clause-kept : goal.returns-then-is_blank-clause-kept
returns-then-is_blank-clause-kept g c sound d offer =
    let old = state g.S.Store c.args.conn.now in
    let new = state g.S.Store c.commit_tables.new.conn in
    let none = sym c.schema.ensures.value ∙ c.if-is_blank.ensures.0 refl in
    made_on old new d sound c.commit_tables.ensures.autocommit c.requires.settled none (c.in_ok-commit_tables.ensures.ok sound.clean) offer
