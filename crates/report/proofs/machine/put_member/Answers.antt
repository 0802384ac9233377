use Rattle.std.proofs.Common.{◌++◌}
use Rattle.std.specs.Prelude.{codes}
use Rattle.hex.specs.Hex.{encode_lower}
use Rattle.looks.specs.Outcomes.{counts, says}
use Rattle.report.specs.Machine.{made_tokens, member_tokens, told_tokens}
use Rattle.report.proofs.Adding.{both, closed}
use Rattle.report.proofs.machine.put_member.Goals as goal

pub returns : goal.returns
unfolding member_tokens
returns c =
    let h = c.args.held.now in
    let node = counts (codes "node") c.args.node in
    let file = says (codes "file") c.args.name.now in
    let bytes = counts (codes "bytes") h.file.bytes in
    let digest = says (codes "sha256") (encode_lower h.file.digest) in
    let made = made_tokens h.counts in
    let told = told_tokens h.counts in
    closed c.end_object.result c.args.writer.now c.begin_object.new.self c.put_told.new.writer c.end_object.new.self (node ++ (file ++ (bytes ++ (digest ++ (made ++ told)))))
    (c.in_ok-begin_object.ensures.room.0, c.in_ok-begin_object.ensures.ok)
    (both c.begin_object.new.self c.put_number.new.writer c.put_told.new.writer node (file ++ (bytes ++ (digest ++ (made ++ told)))) c.in_ok-put_number.ensures
    (both c.put_number.new.writer c.put_text.new.writer c.put_told.new.writer file (bytes ++ (digest ++ (made ++ told))) c.in_ok-put_text.ensures
    (both c.put_text.new.writer c.put_number-2.new.writer c.put_told.new.writer bytes (digest ++ (made ++ told)) c.in_ok-put_number-2.ensures
    (both c.put_number-2.new.writer c.put_digest.new.writer c.put_told.new.writer digest (made ++ told) c.in_ok-put_digest.ensures
    (both c.put_digest.new.writer c.put_made.new.writer c.put_told.new.writer made told c.in_ok-put_made.ensures c.in_ok-put_told.ensures)))))
    c.end_object.ensures
