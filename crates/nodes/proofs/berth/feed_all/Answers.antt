use Rattle.std.proofs.Common.{◌≡◌, ◌+◌, ap, ◌∙◌, map, vec_len, arith}
use Rattle.nodes.proofs.Numbers.{counts_on}
use Rattle.nodes.proofs.berth.feed_all.Goals as goal

pub loop-packet-preserved : goal.loop-packet-preserved
loop-packet-preserved g c =
    let before = c.loop-packet.invariant in
    let grown = c.push_reserved.ensures in
    let steps = c.in-Some.ensures.steps in
    let fed = c.feed-report.ensures in
    let number : c.feed-report.result.number ≡ c.args.batch.before + 1 + vec_len c.loop-packet.reports = omega (arith, fed.number, before.1) in (
      ap (map (λ r. r.number)) grown.items ∙ counts_on (λ r. r.number) c.loop-packet.reports.items c.feed-report.result (c.args.batch.before + 1) (vec_len c.loop-packet.reports) (vec_len c.push_reserved.new.self) before.0 number grown.len,
      omega (arith, grown.len, before.1),
      omega (arith, grown.len, steps.1, before.2),
      omega (arith, grown.capacity, before.3),
      fed.group.0 ∙ before.4,
      fed.group.1 ∙ before.5,
    )
