use Rattle.std.proofs.Common.{◌<◌, zero, suc, arith}
use Rattle.test_groups.proofs.clusters.new_images.Goals as goal

pub returns-clause-logs : goal.returns-clause-logs
returns-clause-logs c members tables zero d below = rw c.in_ok-images.ensures.items (c.new.ensures members tables)
returns-clause-logs c members tables (suc zero) d below = rw c.in_ok-images.ensures.items (c.new-2.ensures members tables)
returns-clause-logs c members tables (suc (suc zero)) d below = rw c.in_ok-images.ensures.items (c.new-3.ensures members tables)
returns-clause-logs c members tables (suc (suc (suc k))) d below =
    let short : suc (suc (suc k)) < 3 = rw c.in_ok-images.ensures.items at below in
    absurd (omega arith)
