use Rattle.std.proofs.Common.{◌≡◌, true, length, sym, ap, subst, ◌∙◌, rules}
use Rattle.sqlite.specs.State.{HasCleanDisk}
use Rattle.sqlite.specs.Held.{state}
use Rattle.sqlite.specs.Effect.{Database}
use Rattle.keep.specs.Durable.{tail_of}
use Rattle.keep.specs.Log.{IsLog}
use Rattle.durable.specs.Stored.{contents_in, stored_in, IsSound, Offers}
use Rattle.durable.proofs.Offering.{keeps_offers}
use Rattle.durable.proofs.Settling.{stored_length, same_settles, keeps_sound, keeps_same, keeps_stored, keeps_hard, keeps_begun}
use Rattle.durable.proofs.keeper.SqlKeeperKeeper.state.Goals as goal

pub invariant_of-self : goal.invariant_of-self
invariant_of-self g c =
    let old = state g.S.Store c.args.self.now.conn in
    let new = state g.S.Store c.read_state.new.conn in
    let up : c.args.self.now.is_up ≡ true = search rules in
    record {
      autocommit = c.read_state.ensures.autocommit c.args.self.now.autocommit;
      unfailed = λ _. c.args.self.now.unfailed up;
      short = λ _. c.args.self.now.short up;
      settled = λ _ clean.
          let early : HasCleanDisk old = c.read_state.ensures.clean clean in
          let set = c.args.self.now.settled up early in
          (same_settles old new set (c.in-Ok.ensures.same clean _ set.holds)).0;
      held = λ sound.
          let early : HasCleanDisk old = c.read_state.ensures.clean sound.clean in
          let set = c.args.self.now.settled up early in
          let keeps = c.read_state.ensures.keeps sound.clean _ set.holds in
          keeps_stored old new keeps sound (c.args.self.now.held (keeps_sound old new early keeps sound));
      counted = λ _ clean.
          let early : HasCleanDisk old = c.read_state.ensures.clean clean in
          let set = c.args.self.now.settled up early in
          c.args.self.now.counted up early ∙ ap (λ (b : Database). length (contents_in b).log) (sym (c.in-Ok.ensures.same clean _ set.holds).0.now_is);
      remembered = λ sound.
          let early : HasCleanDisk old = c.read_state.ensures.clean sound.clean in
          let set = c.args.self.now.settled up early in
          let keeps = c.read_state.ensures.keeps sound.clean _ set.holds in
          keeps_hard old new c.args.self.now.known keeps sound (c.args.self.now.remembered (keeps_sound old new early keeps sound));
      begun = λ _ sound.
          let early : HasCleanDisk old = c.read_state.ensures.clean sound.clean in
          let set = c.args.self.now.settled up early in
          let keeps = c.read_state.ensures.keeps sound.clean _ set.holds in
          keeps_begun old new c.args.self.now.read.items keeps sound (c.args.self.now.begun up (keeps_sound old new early keeps sound));
    }

pub returns-in-Ok-clause-ok : goal.returns-in-Ok-clause-ok
returns-in-Ok-clause-ok g c sound =
    let old = state g.S.Store c.args.self.now.conn in
    let new = state g.S.Store c.read_state.new.conn in
    let up : c.args.self.now.is_up ≡ true = search rules in
    let early : HasCleanDisk old = c.read_state.ensures.clean sound.clean in
    let set = c.args.self.now.settled up early in
    let keeps = c.read_state.ensures.keeps sound.clean _ set.holds in
    let told = c.in-Ok.ensures.ok sound.clean (contents_in old.now) set.holds (c.args.self.now.counted up early) in
    subst (λ db. (c.in-Ok.state.hard ≡ (stored_in db).hard) × (c.in-Ok.state.length ≡ length (stored_in db).log) × (c.in-Ok.state.tail.items ≡ tail_of (stored_in db).log)) (sym set.committed)
    (told.0, told.1 ∙ sym (stored_length old set), told.2)

pub returns-in-Ok-clause-log : goal.returns-in-Ok-clause-log
returns-in-Ok-clause-log g c sound members tables served =
    let old = state g.S.Store c.args.self.now.conn in
    let new = state g.S.Store c.read_state.new.conn in
    let up : c.args.self.now.is_up ≡ true = search rules in
    let early : HasCleanDisk old = c.read_state.ensures.clean sound.clean in
    let set = c.args.self.now.settled up early in
    let keeps = c.read_state.ensures.keeps sound.clean _ set.holds in
    served (keeps_sound old new early keeps sound)

pub returns-in-Ok-clause-same : goal.returns-in-Ok-clause-same
returns-in-Ok-clause-same g c given =
    let old = state g.S.Store c.args.self.now.conn in
    let new = state g.S.Store c.read_state.new.conn in
    let up : c.args.self.now.is_up ≡ true = search rules in
    let sound : IsSound new = given in
    let early : HasCleanDisk old = c.read_state.ensures.clean sound.clean in
    let set = c.args.self.now.settled up early in
    let keeps = c.read_state.ensures.keeps sound.clean _ set.holds in
    keeps_same old new keeps sound

pub returns-in-Ok-clause-honest : goal.returns-in-Ok-clause-honest
returns-in-Ok-clause-honest g c given =
    let old = state g.S.Store c.args.self.now.conn in
    let new = state g.S.Store c.read_state.new.conn in
    let up : c.args.self.now.is_up ≡ true = search rules in
    let sound : IsSound new = given in
    let early : HasCleanDisk old = c.read_state.ensures.clean sound.clean in
    let set = c.args.self.now.settled up early in
    let keeps = c.read_state.ensures.keeps sound.clean _ set.holds in
    keeps_sound old new early keeps sound

pub returns-in-Ok-clause-left : goal.returns-in-Ok-clause-left
returns-in-Ok-clause-left g c d given =
    let old = state g.S.Store c.args.self.now.conn in
    let new = state g.S.Store c.read_state.new.conn in
    let up : c.args.self.now.is_up ≡ true = search rules in
    let offer : Offers new d = given in
    let early : HasCleanDisk old = c.read_state.ensures.clean offer.clean in
    let set = c.args.self.now.settled up early in
    let keeps = c.read_state.ensures.keeps offer.clean _ set.holds in
    keeps_offers old new d early c.args.self.now.autocommit keeps offer

pub returns-in-Ok-clause-serves : goal.returns-in-Ok-clause-serves
returns-in-Ok-clause-serves g c members tables served given =
    let old = state g.S.Store c.args.self.now.conn in
    let new = state g.S.Store c.read_state.new.conn in
    let up : c.args.self.now.is_up ≡ true = search rules in
    let sound : IsSound new = given in
    let early : HasCleanDisk old = c.read_state.ensures.clean sound.clean in
    let set = c.args.self.now.settled up early in
    let keeps = c.read_state.ensures.keeps sound.clean _ set.holds in
    subst (IsLog members tables) (sym (keeps_same old new keeps sound)) (served (keeps_sound old new early keeps sound))

pub returns-in-Err-clause-same : goal.returns-in-Err-clause-same
returns-in-Err-clause-same g c given =
    let old = state g.S.Store c.args.self.now.conn in
    let new = state g.S.Store c.read_state.new.conn in
    let up : c.args.self.now.is_up ≡ true = search rules in
    let is : c.refuse.new.self.conn ≡ c.read_state.new.conn = c.refuse.ensures.conn in
    let sound : IsSound new = rw is at given in
    let early : HasCleanDisk old = c.read_state.ensures.clean sound.clean in
    let set = c.args.self.now.settled up early in
    let keeps = c.read_state.ensures.keeps sound.clean _ set.holds in
    subst (λ h. stored_in (state g.S.Store h).committed ≡ stored_in old.committed) (sym is) (keeps_same old new keeps sound)

pub returns-in-Err-clause-honest : goal.returns-in-Err-clause-honest
returns-in-Err-clause-honest g c given =
    let old = state g.S.Store c.args.self.now.conn in
    let new = state g.S.Store c.read_state.new.conn in
    let up : c.args.self.now.is_up ≡ true = search rules in
    let is : c.refuse.new.self.conn ≡ c.read_state.new.conn = c.refuse.ensures.conn in
    let sound : IsSound new = rw is at given in
    let early : HasCleanDisk old = c.read_state.ensures.clean sound.clean in
    let set = c.args.self.now.settled up early in
    let keeps = c.read_state.ensures.keeps sound.clean _ set.holds in
    keeps_sound old new early keeps sound

pub returns-in-Err-clause-left : goal.returns-in-Err-clause-left
returns-in-Err-clause-left g c d given =
    let old = state g.S.Store c.args.self.now.conn in
    let new = state g.S.Store c.read_state.new.conn in
    let up : c.args.self.now.is_up ≡ true = search rules in
    let is : c.refuse.new.self.conn ≡ c.read_state.new.conn = c.refuse.ensures.conn in
    let offer : Offers new d = rw is at given in
    let early : HasCleanDisk old = c.read_state.ensures.clean offer.clean in
    let set = c.args.self.now.settled up early in
    let keeps = c.read_state.ensures.keeps offer.clean _ set.holds in
    keeps_offers old new d early c.args.self.now.autocommit keeps offer

pub returns-in-Err-clause-serves : goal.returns-in-Err-clause-serves
returns-in-Err-clause-serves g c members tables served given =
    let old = state g.S.Store c.args.self.now.conn in
    let new = state g.S.Store c.read_state.new.conn in
    let up : c.args.self.now.is_up ≡ true = search rules in
    let is : c.refuse.new.self.conn ≡ c.read_state.new.conn = c.refuse.ensures.conn in
    let sound : IsSound new = rw is at given in
    let early : HasCleanDisk old = c.read_state.ensures.clean sound.clean in
    let set = c.args.self.now.settled up early in
    let keeps = c.read_state.ensures.keeps sound.clean _ set.holds in
    subst (λ h. IsLog members tables (stored_in (state g.S.Store h).committed)) (sym is) (subst (IsLog members tables) (sym (keeps_same old new keeps sound)) (served (keeps_sound old new early keeps sound)))

pub invariant_of-self-in-Err-1 : goal.invariant_of-self-in-Err-1
invariant_of-self-in-Err-1 g c =
    let old = state g.S.Store c.args.self.now.conn in
    let new = state g.S.Store c.read_state.new.conn in
    let up : c.args.self.now.is_up ≡ true = search rules in
    record {
      autocommit = c.read_state.ensures.autocommit c.args.self.now.autocommit;
      unfailed = λ is. absurd (cc is);
      short = λ is. absurd (cc is);
      settled = λ is. absurd (cc is);
      held = λ sound.
          let early : HasCleanDisk old = c.read_state.ensures.clean sound.clean in
          let set = c.args.self.now.settled up early in
          let keeps = c.read_state.ensures.keeps sound.clean _ set.holds in
          keeps_stored old new keeps sound (c.args.self.now.held (keeps_sound old new early keeps sound));
      counted = λ is. absurd (cc is);
      remembered = λ sound.
          let early : HasCleanDisk old = c.read_state.ensures.clean sound.clean in
          let set = c.args.self.now.settled up early in
          let keeps = c.read_state.ensures.keeps sound.clean _ set.holds in
          keeps_hard old new c.args.self.now.known keeps sound (c.args.self.now.remembered (keeps_sound old new early keeps sound));
      begun = λ is. absurd (cc is);
    }
