use Rattle.std.proofs.Common.{◌++◌}
use Rattle.std.specs.Prelude.{codes}
use Rattle.hex.specs.Hex.{encode_lower}
use Rattle.looks.specs.Outcomes.{counts, says}
use Rattle.report.specs.Machine.{digested_tokens}
use Rattle.report.proofs.Adding.{both, named}
use Rattle.report.proofs.machine.put_schema.Goals as goal

pub returns : goal.returns
unfolding digested_tokens
returns c =
    let s = c.args.schema.now in
    let bytes = counts (codes "bytes") s.bytes in
    let digest = says (codes "sha256") (encode_lower s.digest) in
    named c.end_object.result c.args.writer.now c.key.new.self c.begin_object.new.self c.put_digest.new.writer c.end_object.new.self (codes "schema") (bytes ++ digest)
    (c.in_ok-key.ensures.room.0, c.in_ok-key.ensures.ok) (c.in_ok-begin_object.ensures.room.0, c.in_ok-begin_object.ensures.ok)
    (both c.begin_object.new.self c.put_number.new.writer c.put_digest.new.writer bytes digest c.in_ok-put_number.ensures c.in_ok-put_digest.ensures)
    c.end_object.ensures
