use Rattle.std.proofs.Common.{◌++◌}
use Rattle.std.specs.Prelude.{codes}
use Rattle.hex.specs.Hex.{encode_lower}
use Rattle.looks.specs.Outcomes.{counts, says}
use Rattle.report.specs.Machine.{answers_tokens}
use Rattle.report.proofs.Adding.{both, named}
use Rattle.report.proofs.machine.put_answers.Goals as goal

pub returns : goal.returns
unfolding answers_tokens
returns c =
    let r = c.args.report.now in
    let count = counts (codes "count") r.contents.given in
    let digest = says (codes "sha256") (encode_lower r.contents.answers) in
    named c.end_object.result c.args.writer.now c.key.new.self c.begin_object.new.self c.put_digest.new.writer c.end_object.new.self (codes "answers") (count ++ digest)
    (c.in_ok-key.ensures.room.0, c.in_ok-key.ensures.ok) (c.in_ok-begin_object.ensures.room.0, c.in_ok-begin_object.ensures.ok)
    (both c.begin_object.new.self c.put_number.new.writer c.put_digest.new.writer count digest c.in_ok-put_number.ensures c.in_ok-put_digest.ensures)
    c.end_object.ensures
