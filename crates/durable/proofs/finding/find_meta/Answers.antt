use Rattle.sqlite.specs.Held.{state}
use Rattle.durable.proofs.Deciding.{meta_told}
use Rattle.durable.proofs.finding.find_meta.Goals as goal

pub returns-clause-ok : goal.returns-clause-ok
returns-clause-ok g c clean has =
    let db = (state g.S.Store c.args.conn.now).now in
    let open_now = (c.in_ok-rows.ensures.same clean has).0.was_open in
    meta_told db c.in_ok-rows.rows.items c.in_ok-meta.meta (c.schema.ensures.live open_now).0 has (c.in_ok-rows.ensures.ok clean has) (rw c.deref.ensures.value at c.in_ok-meta.ensures)
