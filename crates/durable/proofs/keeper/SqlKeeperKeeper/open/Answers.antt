use Rattle.std.proofs.Common.{◌≡◌, ◌≤◌, ◌∙◌, length, vec_len, arith, refl, sym, ap, subst, rules}
use Rattle.sqlite.specs.Held.{state}
use Rattle.durable.specs.Stored.{stored_in, AreTexts, Offers}
use Rattle.durable.proofs.Settling.{settled_stored, settled_forms, stored_length, begins}
use Rattle.durable.proofs.keeper.SqlKeeperKeeper.open.Goals as goal

pub invariant_of-result : goal.invariant_of-result
invariant_of-result g c =
    let new = state g.S.Store c.find_log.new.conn in
    let low : vec_len c.in-Ok-Some.log ≤ 100000 = rw c.in-Ok-Some.field-0-is at c.in-Ok-Some.ensures.short in
    let size : c.len.result ≡ vec_len c.in-Ok-Some.log = search rules in
    let long : c.len.result ≡ length c.in-Ok-Some.log.items = search rules in
    record {
      autocommit = c.find_log.ensures.autocommit;
      unfailed = λ _. refl;
      short = λ _. omega (arith, low, size);
      settled = λ _ clean. let it = rw c.in-Ok-Some.field-0-is at (c.in-Ok-Some.ensures.ok clean) in it.settled;
      held = λ sound.
          let it = rw c.in-Ok-Some.field-0-is at (c.in-Ok-Some.ensures.ok sound.clean) in
          settled_stored new it.settled (subst (λ db. AreTexts (stored_in db).log) (sym it.settled.committed) it.offers.texts);
      counted = λ _ clean.
          let it = rw c.in-Ok-Some.field-0-is at (c.in-Ok-Some.ensures.ok clean) in
          long ∙ ap length it.read ∙ stored_length new it.settled;
      remembered = λ _. tt;
      begun = λ _ sound.
          let it = rw c.in-Ok-Some.field-0-is at (c.in-Ok-Some.ensures.ok sound.clean) in
          begins c.in-Ok-Some.log.items (stored_in new.committed).log (it.read ∙ ap (λ db. (stored_in db).log) (sym it.settled.committed));
    }

pub returns-in-Ok-Some-clause-found : goal.returns-in-Ok-Some-clause-found
returns-in-Ok-Some-clause-found g c sound =
    let it = rw c.in-Ok-Some.field-0-is at (c.in-Ok-Some.ensures.ok sound.clean) in
    subst (λ db. Offers (state g.S.Store c.args.image) (stored_in db)) (sym it.settled.committed) it.offers

pub returns-in-Ok-Some-clause-serves : goal.returns-in-Ok-Some-clause-serves
returns-in-Ok-Some-clause-serves g c sound =
    let it = rw c.in-Ok-Some.field-0-is at (c.in-Ok-Some.ensures.ok sound.clean) in
    settled_forms (state g.S.Store c.find_log.new.conn) it.settled it.forms

pub returns-in-Ok-Some-clause-log : goal.returns-in-Ok-Some-clause-log
returns-in-Ok-Some-clause-log g c sound =
    let it = rw c.in-Ok-Some.field-0-is at (c.in-Ok-Some.ensures.ok sound.clean) in
    settled_forms (state g.S.Store c.find_log.new.conn) it.settled it.forms

pub returns-in-Ok-None-clause-bad : goal.returns-in-Ok-None-clause-bad
returns-in-Ok-None-clause-bad g c same d offer forms = let it = rw c.in-Ok-None.field-0-is at (c.in-Ok-None.ensures.ok offer.clean) in it d offer forms

pub returns-in-Ok-None-clause-was_bad : goal.returns-in-Ok-None-clause-was_bad
returns-in-Ok-None-clause-was_bad g c same sound d offer forms =
    let it = rw c.in-Ok-None.field-0-is at (c.in-Ok-None.ensures.ok sound.clean) in
    it d (c.find_log.ensures.kept sound d offer) forms
