use Rattle.std.proofs.Common.{refl, string_bytes}
use Rattle.store.proofs.Continuing.{continues_torn}
use Rattle.store.proofs.Written.{part_written}
use Rattle.store.proofs.scribe.Scribe.settle.Goals as goal

pub returns-in-Err-clause-part : goal.returns-in-Err-clause-part
returns-in-Err-clause-part g c =
    let contents = g.J.Device.contents in
    let old = c.args.self.now in
    λ up. part_written (contents old.device) (contents c.flush.new.self.device) (contents c.settle.new.self) old.sum (string_bytes old.buffer) c.settle.ensures.same c.in_ok-flush.ensures.ok

pub returns-in-Err-clause-lost : goal.returns-in-Err-clause-lost
returns-in-Err-clause-lost g c =
    let contents = g.J.Device.contents in
    let old = c.args.self.now in
    continues_torn contents old _ c.in_ok-flush.ensures.up.0 refl (part_written (contents old.device) (contents c.flush.new.self.device) (contents c.settle.new.self) old.sum (string_bytes old.buffer) c.settle.ensures.same c.in_ok-flush.ensures.ok) c.flush.ensures.reading
