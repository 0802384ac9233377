use Rattle.std.proofs.Common.{◌≡◌, ◌+◌, ◌≤◌, false, is_err, vec_len, arith}
use Rattle.std.specs.Vec.{vec_capacity}
use Rattle.nodes.proofs.Carried.{on_ok}
use Rattle.nodes.proofs.berth.lead.Goals as goal

pub push_reserved-requires : goal.push_reserved-requires
push_reserved-requires g c =
    let went : is_err c.reserve.result ≡ false = cc c.if-is_err.ensures.value in
    let room : vec_len c.reserve.new.self + 1 ≤ vec_capacity c.reserve.new.self = on_ok c.reserve.result _ went c.reserve.ensures.ok in
    omega arith
