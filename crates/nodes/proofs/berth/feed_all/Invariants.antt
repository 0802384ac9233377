use Rattle.std.proofs.Common.{◌≡◌, ◌≤◌, ◌+◌, map, vec_len}
use Rattle.std.specs.List.{range_with_len}
use Rattle.std.specs.Vec.{vec_capacity}
use Rattle.std.specs.Vec.Iter.{into_iter_len}
use Rattle.node.specs.Member.{members_of, tables_of}
use Rattle.nodes.proofs.berth.feed_all.Given as goal

abbrev pub invariant-loop-packet : goal.invariant-loop-packet
invariant-loop-packet g l =
    (map (λ r. r.number) l.reports.items ≡ range_with_len (l.fn.batch.before + 1) (vec_len l.reports)) ×
    (l.number ≡ l.fn.batch.before + vec_len l.reports) ×
    (vec_len l.reports + into_iter_len l.packet-iterator ≡ vec_len l.fn.batch.packets) ×
    (vec_len l.fn.batch.packets ≤ vec_capacity l.reports) ×
    (tables_of l.cell.node ≡ tables_of l.initial.cell.node) × (members_of l.cell.node ≡ members_of l.initial.cell.node)
