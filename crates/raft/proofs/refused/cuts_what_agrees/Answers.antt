use Rattle.std.proofs.Common.{◌≡◌, ◌∙◌, ◌+◌, ◌++◌, length, rules, take}
use Rattle.raft.proofs.Refusing.{agreed_stays, if_ok}
use Rattle.raft.proofs.refused.cuts_what_agrees.Goals as goal

pub returns : goal.returns
returns g c =
    let old = c.args.log.now in
    let r = c.requires in
    let whole : c.args.index ≡ c.args.prev + length c.args.entries.items = search rules in
    if_ok c.accept.result _ _ c.accept.ensures.ok (λ u ok. ok r.1.1.1.0 ∙ agreed_stays (take old.elsewhere g.stored ++ old.tail.items) c.args.prev c.args.entries.items c.args.index r.1.1.1.0 whole)
