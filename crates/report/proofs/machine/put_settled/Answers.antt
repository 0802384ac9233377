use Rattle.std.proofs.Common.{◌++◌}
use Rattle.std.specs.Prelude.{codes}
use Rattle.hex.specs.Hex.{encode_lower}
use Rattle.looks.specs.Outcomes.{counts, says}
use Rattle.report.specs.Machine.{requests_tokens, settled_tokens, stamp_tokens}
use Rattle.report.proofs.Adding.{both, named}
use Rattle.report.proofs.machine.put_settled.Goals as goal

pub returns : goal.returns
unfolding settled_tokens
returns c =
    let s = c.args.settled.now in
    let entries = counts (codes "entries") s.entries in
    let requests = requests_tokens s in
    let first = stamp_tokens (codes "first") s.first in
    let last = stamp_tokens (codes "last") s.last in
    let digest = says (codes "sha256") (encode_lower s.log) in
    named c.end_object.result c.args.writer.now c.key.new.self c.begin_object.new.self c.put_digest.new.writer c.end_object.new.self (codes "decided") (entries ++ (requests ++ (first ++ (last ++ digest))))
    (c.in_ok-key.ensures.room.0, c.in_ok-key.ensures.ok) (c.in_ok-begin_object.ensures.room.0, c.in_ok-begin_object.ensures.ok)
    (both c.begin_object.new.self c.put_number.new.writer c.put_digest.new.writer entries (requests ++ (first ++ (last ++ digest))) c.in_ok-put_number.ensures
    (both c.put_number.new.writer c.put_requests.new.writer c.put_digest.new.writer requests (first ++ (last ++ digest)) c.in_ok-put_requests.ensures
    (both c.put_requests.new.writer c.put_stamp.new.writer c.put_digest.new.writer first (last ++ digest) c.in_ok-put_stamp.ensures
    (both c.put_stamp.new.writer c.put_stamp-2.new.writer c.put_digest.new.writer last digest c.in_ok-put_stamp-2.ensures c.in_ok-put_digest.ensures))))
    c.end_object.ensures
