use Rattle.std.proofs.Common.{◌≡◌, ◌+◌, map, drop}
use Rattle.std.specs.List.{enumerate_from}
use Rattle.std.specs.Str.Lines.{strip_carriage_return}
use Rattle.transfer.specs.Faults.{found_in}
use Rattle.transfer.specs.Rows.{row_from}
use Rattle.transfer.specs.Shapes.{header_shape, row_shape}
use Rattle.transfer.proofs.Found.{found_after}
use Rattle.transfer.proofs.requests.rows_of.Given as goal

-- the rows so far, and those of the lines that are left, make the whole
abbrev pub invariant-loop-at : goal.invariant-loop-at
invariant-loop-at l =
    let row = row_from l.into.name.now l.into.table.now (header_shape l.into.header.now) l.from in
    found_in row (enumerate_from 1 (map strip_carriage_return (map (λ p. p.now) l.pieces)))
    ≡ found_after row (map row_shape l.rows.items) (enumerate_from (1 + l.at) (map strip_carriage_return (map (λ p. p.now) (drop l.at l.pieces))))
