-- What contracts see of headers and rows.
use Rattle.std.specs.Prelude.{ℕ, List, string_bytes}
use Rattle.transfer.specs.declared.header.Header.{Header}
use Rattle.transfer.specs.declared.header.Target.{Target}
use Rattle.transfer.specs.declared.rows.Row.{Row}

abbrev pub header_shape : Header → List Target × ℕ
header_shape header = (header.targets.items, header.width)

abbrev pub row_shape : Row → ℕ × List ℕ
row_shape row = (row.line, string_bytes row.text)
