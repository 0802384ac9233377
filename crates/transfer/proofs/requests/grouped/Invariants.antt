use Rattle.std.proofs.Common.{◌≡◌, ◌++◌, map, drop, None, option_map}
use Rattle.transfer.specs.Requests.{grouped, request_of}
use Rattle.transfer.specs.Shapes.{row_shape}
use Rattle.transfer.proofs.requests.grouped.Given as goal

-- the requests so far, and those of the rows that are left, make the whole
abbrev pub invariant-loop-row : goal.invariant-loop-row
invariant-loop-row l = grouped None (map row_shape l.rows) ≡ map request_of l.done.items ++ grouped (option_map request_of l.begun) (map row_shape (drop l.row-index l.rows))
