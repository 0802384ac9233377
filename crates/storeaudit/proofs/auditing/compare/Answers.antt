use Rattle.std.proofs.Common.{List, subst, sym}
use Rattle.keep.specs.Durable.{Durable}
use Rattle.model.specs.declared.entry.Entry.{Entry}
use Rattle.store.specs.HeldAt.{entries_in}
use Rattle.storeaudit.proofs.Alike.{held_as, on_ok}
use Rattle.storeaudit.proofs.auditing.compare.Goals as goal

pub returns : goal.returns
returns g c =
    let holds = g.K.Keeper.holds in
    let found = c.in_ok-found.found in
    let stored : Durable = record { hard = found.summary.hard; log = c.entries.result.now } in
    let held = held_as holds g.K.Keeper.is_sound c.args.database found.image found.summary (entries_in found.log) c.in_ok-found.ensures in
    on_ok c.check_found.result
    (λ left. (stored, found.image, (λ sane. subst (λ (l : List Entry). holds c.args.database (record { hard = found.summary.hard; log = l })) (sym c.entries.ensures) (held sane)), left))
    c.check_found.ensures
