use Rattle.std.proofs.Common.{◌≡◌, ◌∙◌, ap, length}
use Rattle.node.specs.Member.{member_of}
use Rattle.store.specs.Chains.{links_of}
use Rattle.store.proofs.Links.{links_length}
use Rattle.store.proofs.Statuses.{applied_of, same_status, status_up}
use Rattle.store.proofs.store.Store.status_of.Goals as goal

pub returns : goal.returns
returns g c =
    let seat = c.args.seat.now in
    let node = c.in-Some.node in
    let x = member_of node in
    status_up g.K.LogReader.is_honest c.args.self.now.leader seat node _ c.in-Some.is
    (λ up honest.
    let linked : seat.chain.links.items ≡ links_of x.log = seat.linked node c.in-Some.is up honest in
    same_status seat.member c.standing_of.result _ x c.hard_state.result.term c.len.result c.unwrap_or.result c.closed_time.result
    c.standing_of.ensures (ap (λ h. h.term) c.hard_state.ensures) (c.len.ensures ∙ ap length linked ∙ links_length x.log)
    (applied_of node.is_up x.commit c.commit.result c.unwrap_or.result up c.commit.ensures c.unwrap_or.ensures) (c.closed_time.ensures.closed up honest))
