use Rattle.std.proofs.Common.{◌≡◌, ◌+◌, pos, [], ◌∷◌, length, vec_len, slice_get, subst, sym, ap, ◌∙◌, rules}
use Rattle.sqlite.specs.declared.types.Value.TheVariants.{Int}
use Rattle.sqlite.specs.State.{Shown}
use Rattle.sqlite.specs.Held.{state}
use Rattle.durable.proofs.Meaning.{read_entry}
use Rattle.durable.proofs.Queries.{reads_entry, last_of, shown_same, shown_keeps, failed_keeps, entry_plain_in}
use Rattle.durable.proofs.rows.find_row.Goals as goal

pub returns-clause-ok : goal.returns-clause-ok
returns-clause-ok g c clean d m has at =
    let old = state g.S.Store c.args.conn.now in
    let new = state g.S.Store c.query_all.new.self in
    let all : Shown read_entry (Int (pos c.args.number.value) ∷ []) old new c.in_ok-rows.rows.items = rw c.params-to_sql.ensures at (c.in_ok-rows.ensures.ok clean) in
    let rows = reads_entry old new d m c.in_ok-rows.rows.items has (subst (λ n. Shown read_entry (Int (pos n) ∷ []) old new c.in_ok-rows.rows.items) at all) in
    let long : vec_len c.in_ok-rows.rows ≡ length c.in_ok-rows.rows.items = search rules in
    last_of (m + 1) (slice_get d.log m) c.pop.new.self.items c.pop.result (vec_len c.in_ok-rows.rows) (long ∙ ap length rows) c.pop.ensures.variant (sym rows ∙ c.pop.ensures.items)

pub returns-clause-same : goal.returns-clause-same
returns-clause-same g c clean d has =
    shown_same _ _ _ _ _ (entry_plain_in (state g.S.Store c.args.conn.now).now d has) (c.in_ok-rows.ensures.ok clean)

pub returns-clause-keeps : goal.returns-clause-keeps
returns-clause-keeps g c clean d has =
    shown_keeps _ _ (shown_same _ _ _ _ _ (entry_plain_in (state g.S.Store c.args.conn.now).now d has) (c.in_ok-rows.ensures.ok clean))

pub returns-in_err-rows-clause-keeps : goal.returns-in_err-rows-clause-keeps
returns-in_err-rows-clause-keeps g c clean d has =
    failed_keeps _ _ _ _ _ (entry_plain_in (state g.S.Store c.args.conn.now).now d has) (c.in_err-rows.ensures.err clean)
