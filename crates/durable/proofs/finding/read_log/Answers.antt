use Rattle.std.proofs.Common.{sym, subst}
use Rattle.sqlite.specs.Held.{state}
use Rattle.sqlite.specs.Listing.{understood}
use Rattle.sqlite.proofs.Callers.{IsPlain}
use Rattle.durable.proofs.Meaning.{read_log, log_plain}
use Rattle.durable.proofs.Queries.{shown_same, shown_keeps, failed_keeps}
use Rattle.durable.proofs.WholeTables.{reads_any_log, reads_log}
use Rattle.durable.proofs.finding.read_log.Goals as goal

pub returns-clause-ok : goal.returns-clause-ok
returns-clause-ok g c clean has = reads_any_log (state g.S.Store c.args.conn.now) (state g.S.Store c.query_all.new.self) c.in_ok-rows.rows.items has (c.in_ok-rows.ensures.ok clean)

pub returns-clause-known : goal.returns-clause-known
returns-clause-known g c clean has = reads_log (state g.S.Store c.args.conn.now) (state g.S.Store c.query_all.new.self) c.in_ok-rows.rows.items has (c.in_ok-rows.ensures.ok clean)

pub returns-clause-same : goal.returns-clause-same
returns-clause-same g c clean has =
    shown_same _ _ _ _ _ (subst (λ s. IsPlain (understood s read_log)) (sym has) log_plain) (c.in_ok-rows.ensures.ok clean)

pub returns-clause-keeps : goal.returns-clause-keeps
returns-clause-keeps g c clean has =
    shown_keeps _ _ (shown_same _ _ _ _ _ (subst (λ s. IsPlain (understood s read_log)) (sym has) log_plain) (c.in_ok-rows.ensures.ok clean))

pub returns-in_err-rows-clause-keeps : goal.returns-in_err-rows-clause-keeps
returns-in_err-rows-clause-keeps g c clean has =
    failed_keeps _ _ _ _ _ (subst (λ s. IsPlain (understood s read_log)) (sym has) log_plain) (c.in_err-rows.ensures.err clean)
