use Rattle.std.proofs.Common.{◌≡◌, ◌+◌, ◌≤◌, inl, inr, true, length, ap, sym, subst, ◌∙◌, arith, rules}
use Rattle.sqlite.specs.State.{HasCleanDisk}
use Rattle.sqlite.specs.Held.{state}
use Rattle.keep.specs.Durable.{Durable}
use Rattle.keep.specs.Log.{IsLog}
use Rattle.durable.specs.Stored.{contents_in, stored_in, IsSound, Offers}
use Rattle.durable.specs.Found.{offers_held}
use Rattle.durable.proofs.Offering.{log_plain}
use Rattle.durable.specs.Saving.{IsBeginning, IsHard}
use Rattle.durable.proofs.Settling.{saved_is, saved_stored, kept_sound, kept_same, kept_stored, stored_length, after_length, is_known}
use Rattle.durable.proofs.keeper.SqlKeeperKeeper.save.Goals as goal

pub commit_change-requires-clause-held : goal.commit_change-requires-clause-held
commit_change-requires-clause-held g c clean =
    let old = state g.S.Store c.args.self.now.conn in
    let up : c.args.self.now.is_up ≡ true = search rules in
    let set = c.args.self.now.settled up clean in
    let low = c.requires.kept (record { clean = clean; is_open = set.is_open }) up in
    let long = ap (λ db. length (stored_in db).log) set.committed ∙ stored_length old set in
    (contents_in old.now, set.holds, subst (λ n. c.args.change.now.kept ≤ n) long low)

pub commit_change-requires-clause-known : goal.commit_change-requires-clause-known
commit_change-requires-clause-known g c clean d has =
    let old = state g.S.Store c.args.self.now.conn in
    let up : c.args.self.now.is_up ≡ true = search rules in
    let set = c.args.self.now.settled up clean in
    let told = c.args.self.now.remembered (record { clean = clean; is_open = set.is_open }) in
    rw c.take-known.ensures.value (is_known old c.args.self.now.known c.args.self.now.count d set told (c.args.self.now.counted up clean) has)

pub invariant_of-self-in-Ok : goal.invariant_of-self-in-Ok
invariant_of-self-in-Ok g c =
    let old = state g.S.Store c.args.self.now.conn in
    let new = state g.S.Store c.commit_change.new.conn in
    let long : c.len.result ≡ length c.args.change.now.entries.items = search rules in
    let up : c.args.self.now.is_up ≡ true = search rules in
    record {
      autocommit = c.commit_change.ensures.autocommit;
      unfailed = λ _. c.args.self.now.unfailed up;
      short = λ _. omega (arith, c.requires.small.short, long);
      settled = λ _ clean.
          let early : HasCleanDisk old = c.commit_change.ensures.clean clean in
          let set = c.args.self.now.settled up early in
          let forms = c.requires.log.1.1.1 (record { clean = early; is_open = set.is_open }) up in
          (saved_is old new c.args.change.now set (log_plain _ _ _ forms) (c.in-Ok.ensures.ok clean)).0;
      held = λ sound.
          let early : HasCleanDisk old = c.commit_change.ensures.clean sound.clean in
          let set = c.args.self.now.settled up early in
          let was : IsSound old = record { clean = early; is_open = set.is_open } in
          let forms = c.requires.log.1.1.1 was up in
          let all = saved_is old new c.args.change.now set (log_plain _ _ _ forms) (c.in-Ok.ensures.ok sound.clean) in
          saved_stored old new c.args.change.now (c.args.self.now.held was) c.in-Ok.ensures.texts all.0 all.1;
      counted = λ _ clean.
          let early : HasCleanDisk old = c.commit_change.ensures.clean clean in
          let set = c.args.self.now.settled up early in
          let was : IsSound old = record { clean = early; is_open = set.is_open } in
          let forms = c.requires.log.1.1.1 was up in
          let all = saved_is old new c.args.change.now set (log_plain _ _ _ forms) (c.in-Ok.ensures.ok clean) in
          let size = after_length c.args.change.now (stored_in old.committed) (c.requires.kept was up) in
          ap (λ n. c.args.change.now.kept + n) long ∙ sym size ∙ ap (λ (d : Durable). length d.log) (sym (sym (ap stored_in all.0.committed) ∙ all.1)) ∙ stored_length new all.0;
      remembered = λ sound.
          let early : HasCleanDisk old = c.commit_change.ensures.clean sound.clean in
          let set = c.args.self.now.settled up early in
          let was : IsSound old = record { clean = early; is_open = set.is_open } in
          let forms = c.requires.log.1.1.1 was up in
          let all = saved_is old new c.args.change.now set (log_plain _ _ _ forms) (c.in-Ok.ensures.ok sound.clean) in
          ap (λ (d : Durable). d.hard) (sym all.1);
      begun = λ _ sound.
          let early : HasCleanDisk old = c.commit_change.ensures.clean sound.clean in
          let set = c.args.self.now.settled up early in
          let was : IsSound old = record { clean = early; is_open = set.is_open } in
          let forms = c.requires.log.1.1.1 was up in
          let all = saved_is old new c.args.change.now set (log_plain _ _ _ forms) (c.in-Ok.ensures.ok sound.clean) in
          subst (λ (d : Durable). IsBeginning c.keep_read.new.read.items d.log) (sym all.1) (c.keep_read.ensures (stored_in old.committed).log (c.args.self.now.begun up was));
    }

pub returns-in-Ok-clause-ok : goal.returns-in-Ok-clause-ok
returns-in-Ok-clause-ok g c sound =
    let old = state g.S.Store c.args.self.now.conn in
    let new = state g.S.Store c.commit_change.new.conn in
    let early : HasCleanDisk old = c.commit_change.ensures.clean sound.clean in
    let up : c.args.self.now.is_up ≡ true = search rules in
    let set = c.args.self.now.settled up early in
    let forms = c.requires.log.1.1.1 (record { clean = early; is_open = set.is_open }) up in
    (saved_is old new c.args.change.now set (log_plain _ _ _ forms) (c.in-Ok.ensures.ok sound.clean)).1

pub returns-in-Ok-clause-honest : goal.returns-in-Ok-clause-honest
returns-in-Ok-clause-honest g c sound =
    let old = state g.S.Store c.args.self.now.conn in
    let early : HasCleanDisk old = c.commit_change.ensures.clean sound.clean in
    let up : c.args.self.now.is_up ≡ true = search rules in
    record { clean = early; is_open = (c.args.self.now.settled up early).is_open }

pub returns-in-Ok-clause-left : goal.returns-in-Ok-clause-left
returns-in-Ok-clause-left g c _ d offer =
    let old = state g.S.Store c.args.self.now.conn in
    let new = state g.S.Store c.commit_change.new.conn in
    let sound : IsSound new = record { clean = offer.clean; is_open = offer.is_open } in
    let early : HasCleanDisk old = c.commit_change.ensures.clean sound.clean in
    let up : c.args.self.now.is_up ≡ true = search rules in
    let set = c.args.self.now.settled up early in
    let was : IsSound old = record { clean = early; is_open = set.is_open } in
    let forms = c.requires.log.1.1.1 was up in
    let all = saved_is old new c.args.change.now set (log_plain _ _ _ forms) (c.in-Ok.ensures.ok sound.clean) in
    let held = saved_stored old new c.args.change.now (c.args.self.now.held was) c.in-Ok.ensures.texts all.0 all.1 in
    inr (offers_held new d held offer ∙ all.1)

pub returns-in-Ok-clause-serves : goal.returns-in-Ok-clause-serves
returns-in-Ok-clause-serves g c members tables served owed sound =
    let old = state g.S.Store c.args.self.now.conn in
    let new = state g.S.Store c.commit_change.new.conn in
    let early : HasCleanDisk old = c.commit_change.ensures.clean sound.clean in
    let up : c.args.self.now.is_up ≡ true = search rules in
    let set = c.args.self.now.settled up early in
    let was : IsSound old = record { clean = early; is_open = set.is_open } in
    let forms = c.requires.log.1.1.1 was up in
    let all = saved_is old new c.args.change.now set (log_plain _ _ _ forms) (c.in-Ok.ensures.ok sound.clean) in
    subst (IsLog members tables) (sym all.1) (owed was up)

pub returns-in-Err-clause-torn : goal.returns-in-Err-clause-torn
returns-in-Err-clause-torn g c up given =
    let old = state g.S.Store c.args.self.now.conn in
    let new = state g.S.Store c.commit_change.new.conn in
    let is : c.refuse.new.self.conn ≡ c.commit_change.new.conn = c.refuse.ensures.conn in
    let sound : IsSound new = rw is at given in
    let early : HasCleanDisk old = c.commit_change.ensures.clean sound.clean in
    let kept = c.in-Err.ensures.err sound.clean in
    inl (subst (λ h. stored_in (state g.S.Store h).committed ≡ stored_in old.committed) (sym is) (kept_same old new kept sound))

pub returns-in-Err-clause-honest : goal.returns-in-Err-clause-honest
returns-in-Err-clause-honest g c given =
    let old = state g.S.Store c.args.self.now.conn in
    let new = state g.S.Store c.commit_change.new.conn in
    let is : c.refuse.new.self.conn ≡ c.commit_change.new.conn = c.refuse.ensures.conn in
    let sound : IsSound new = rw is at given in
    let early : HasCleanDisk old = c.commit_change.ensures.clean sound.clean in
    let kept = c.in-Err.ensures.err sound.clean in
    kept_sound old new early kept sound

pub returns-in-Err-clause-left : goal.returns-in-Err-clause-left
returns-in-Err-clause-left g c up d given =
    let old = state g.S.Store c.args.self.now.conn in
    let new = state g.S.Store c.commit_change.new.conn in
    let is : c.refuse.new.self.conn ≡ c.commit_change.new.conn = c.refuse.ensures.conn in
    let offer : Offers new d = rw is at given in
    let sound : IsSound new = record { clean = offer.clean; is_open = offer.is_open } in
    let early : HasCleanDisk old = c.commit_change.ensures.clean sound.clean in
    let kept = c.in-Err.ensures.err sound.clean in
    let held = kept_stored old new kept sound (c.args.self.now.held (kept_sound old new early kept sound)) in
    inl (offers_held new d held offer ∙ kept_same old new kept sound)

pub returns-in-Err-clause-serves : goal.returns-in-Err-clause-serves
returns-in-Err-clause-serves g c members tables served owed given =
    let old = state g.S.Store c.args.self.now.conn in
    let new = state g.S.Store c.commit_change.new.conn in
    let is : c.refuse.new.self.conn ≡ c.commit_change.new.conn = c.refuse.ensures.conn in
    let sound : IsSound new = rw is at given in
    let early : HasCleanDisk old = c.commit_change.ensures.clean sound.clean in
    let kept = c.in-Err.ensures.err sound.clean in
    subst (λ h. IsLog members tables (stored_in (state g.S.Store h).committed)) (sym is) (subst (IsLog members tables) (sym (kept_same old new kept sound)) (served (kept_sound old new early kept sound)))

pub invariant_of-self-in-Err-1 : goal.invariant_of-self-in-Err-1
invariant_of-self-in-Err-1 g c =
    let old = state g.S.Store c.args.self.now.conn in
    let new = state g.S.Store c.commit_change.new.conn in
    record {
      autocommit = c.commit_change.ensures.autocommit;
      unfailed = λ is. absurd (cc is);
      short = λ is. absurd (cc is);
      settled = λ is. absurd (cc is);
      held = λ sound.
          let early : HasCleanDisk old = c.commit_change.ensures.clean sound.clean in
          let kept = c.in-Err.ensures.err sound.clean in
          kept_stored old new kept sound (c.args.self.now.held (kept_sound old new early kept sound));
      counted = λ is. absurd (cc is);
      begun = λ is. absurd (cc is);
      remembered = λ _. subst (λ known. IsHard known (stored_in new.committed)) (sym c.take-known.ensures.after) tt;
    }
