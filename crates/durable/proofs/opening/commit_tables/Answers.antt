use Rattle.std.proofs.Common.{◌≡◌, subst, arith, rules}
use Rattle.sqlite.specs.State.{HasCleanDisk}
use Rattle.sqlite.specs.Held.{state}
use Rattle.durable.specs.Steps.{IsKept}
use Rattle.durable.proofs.Stepping.{begun_keeps, rolled_kept}
use Rattle.durable.proofs.opening.commit_tables.Goals as goal

pub returns-in_err-make_tables-clause-err : goal.returns-in_err-make_tables-clause-err
returns-in_err-make_tables-clause-err g c clean =
    let old = c.args.conn.now in
    let mid = c.make_tables.new.tx.conn.now in
    let end = c.drop-tx.new.self.0 in
    let same : end ≡ c.conn-1.given.0 = search rules in
    let begun = c.transaction-tx.ensures.begun in
    let kept : HasCleanDisk (state g.S.Store end) → IsKept (state g.S.Store old) (state g.S.Store end) = λ late.
    let early : HasCleanDisk (state g.S.Store mid) = omega (arith, c.drop-tx.ensures.survives.clean) in
    rolled_kept _ (state g.S.Store mid) _ (begun_keeps g.S.Store old (state g.S.Store mid) (rw begun at (c.make_tables.ensures.keeps early))) (c.drop-tx.ensures.undone late) in
    let it = subst (λ h. HasCleanDisk (state g.S.Store h) → IsKept (state g.S.Store old) (state g.S.Store h)) same kept clean in
    search rules
