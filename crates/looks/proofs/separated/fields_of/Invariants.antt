use Rattle.std.proofs.Common.{◌≡◌, map, take, string_bytes}
use Rattle.looks.specs.Separated.{fields_of}
use Rattle.looks.proofs.separated.fields_of.Given as goal

abbrev pub invariant-loop-column : goal.invariant-loop-column
invariant-loop-column l = map string_bytes l.fields.items ≡ fields_of (take l.column-index l.columns) l.row
