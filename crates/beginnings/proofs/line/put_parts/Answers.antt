use Rattle.std.proofs.Common.{◌<◌, [], length, arith, string_bytes}
use Rattle.beginnings.specs.declared.beginning.Beginning.{Beginning}
use Rattle.beginnings.proofs.Listed.{parts_added}
use Rattle.beginnings.proofs.line.put_parts.Goals as goal

pub loop-beginning-preserved : goal.loop-beginning-preserved
loop-beginning-preserved c =
    let within : c.loop-beginning.beginning-index < length c.args.seen.now = omega arith in
    let blank : Beginning = record { bytes = 0; answers = 0; digest = [] } in
    parts_added c.args.seen.now c.loop-beginning.beginning-index blank (string_bytes c.args.text.now) (string_bytes c.loop-beginning.text) (string_bytes c.put_part.new.text) within c.loop-beginning.invariant c.in_ok-put_part.ensures
