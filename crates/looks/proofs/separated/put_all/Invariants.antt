use Rattle.std.proofs.Common.{◌∷◌, ◌++◌, map, take, Some}
use Rattle.std.specs.List.{flat_map}
use Rattle.std.specs.Io.KnownBytes.{Appends}
use Rattle.csv.specs.Writing.{row_text, text_written}
use Rattle.looks.specs.Separated.{fields_of, rfc_4180, IsBetween}
use Rattle.looks.proofs.separated.put_all.Given as goal

abbrev pub invariant-loop-row : goal.invariant-loop-row
invariant-loop-row l =
    IsBetween l.writer
    × Appends (text_written (λ v. Some v.items) l.fn.writer) (text_written (λ v. Some v.items) l.writer)
    (flat_map (row_text rfc_4180) (map (λ c. c.name) l.columns ∷ map (fields_of l.columns) (take l.row-index l.answer.rows.items)))
