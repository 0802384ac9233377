use Rattle.std.proofs.Common.{◌≡◌, ◌+◌, [], ◌∷◌, refl, rules}
use Rattle.store.proofs.Going.{posted, publishes_at, spent_same}
use Rattle.store.proofs.store.Store.post.Goals as goal
use Rattle.store.proofs.store.Store.post.Goals.{in-Ok, in-Err}

pub returns-clause-passes : goal.returns-clause-passes
returns-clause-passes g c =
    let old = c.args.self.now in
    let next : c.in-Some.number ≡ old.sent + 1 = search rules in
    let mid = record old { queue = c.push_back.new.self; sent = c.in-Some.number } in
    elim c.match-push_back.branch [
      | in-Ok w ↦ publishes_at g.K.Journal.Device.contents g.K.LogReader.is_honest g.K.LogReader.may_hold g.K.Keeper.holds old mid c.match-push_back.self (c.args.message ∷ []) [] w.self-is
          (posted g.K.Journal.Device.contents g.K.LogReader.is_honest g.K.LogReader.may_hold g.K.Keeper.holds old mid c.in-Some.number c.args.message next (search rules) refl refl refl refl refl refl)
      | in-Err w ↦ publishes_at g.K.Journal.Device.contents g.K.LogReader.is_honest g.K.LogReader.may_hold g.K.Keeper.holds old w.spend-in-Err.new.self c.match-push_back.self (c.args.message ∷ []) [] w.self-is
          (spent_same g.K.Journal.Device.contents g.K.LogReader.is_honest g.K.LogReader.may_hold g.K.Keeper.holds old mid w.spend-in-Err.new.self (c.args.message ∷ []) [] refl refl refl w.spend-in-Err.ensures.passes.journal w.spend-in-Err.ensures.same w.spend-in-Err.ensures.fails)
    ]
