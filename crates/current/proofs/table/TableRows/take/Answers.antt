use Rattle.std.proofs.Common.{◌≡◌, ◌∙◌, sym, arith}
use Rattle.std.specs.List.{list_any}
use Rattle.rowlaws.specs.Touching.{same_row}
use Rattle.current.specs.Rows.{row_of}
use Rattle.current.specs.Reads.{is_of}
use Rattle.current.specs.ByKey.{strands_of, rows_in}
use Rattle.current.proofs.Reading.{no_more, strand_length}
use Rattle.current.proofs.Undoing.{not_there, not_in_strand, in_strand_there, take_in_strands, row_taken, length_taken}
use Rattle.current.proofs.table.TableRows.take.Goals as goal

pub returns-then-not-has-clause-rows : goal.returns-then-not-has-clause-rows
returns-then-not-has-clause-rows c =
    let s = c.args.self.now in
    let row = row_of c.args.row.now in
    let test : list_any (same_row row) (strands_of s.index.strands row.key) ≡ c.has.result = sym c.has.ensures.there in
    not_there row (rows_in s.index.strands.entries) (not_in_strand s.index.strands s.ordered s.in_strands row (test ∙ c.if-not-has.true))

pub take_row-requires-clause-there : goal.take_row-requires-clause-there
take_row-requires-clause-there c =
    let s = c.args.self.now in
    let row = row_of c.args.row.now in
    sym c.has.ensures.there ∙ c.if-not-has.false

pub overflow_sub-self : goal.overflow_sub-self
overflow_sub-self c =
    let s = c.args.self.now in
    let row = row_of c.args.row.now in
    let n = c.take_row.new.index.strands in
    let test : list_any (same_row row) (strands_of s.index.strands row.key) ≡ c.has.result = sym c.has.ensures.there in
    let in' = take_in_strands row (strands_of s.index.strands) (strands_of n) c.take_row.ensures.rest s.in_strands in
    let long = length_taken s.index.strands n s.ordered c.keys_in_order.ensures s.in_strands in' row c.take_row.ensures.rest (in_strand_there s.index.strands s.ordered s.in_strands row c.has.result test c.if-not-has.false) in
    let count = s.counted in
    omega (arith, long, count)

pub invariant_of-self : goal.invariant_of-self
invariant_of-self c =
    let s = c.args.self.now in
    let row = row_of c.args.row.now in
    let n = c.take_row.new.index.strands in
    let test : list_any (same_row row) (strands_of s.index.strands row.key) ≡ c.has.result = sym c.has.ensures.there in
    let in' = take_in_strands row (strands_of s.index.strands) (strands_of n) c.take_row.ensures.rest s.in_strands in
    let long = length_taken s.index.strands n s.ordered c.keys_in_order.ensures s.in_strands in' row c.take_row.ensures.rest (in_strand_there s.index.strands s.ordered s.in_strands row c.has.result test c.if-not-has.false) in
    let count = s.counted in
    record {
      ordered = c.keys_in_order.ensures;
      in_strands = in';
      short = λ r h. s.short r ((row_taken s.index.strands n s.ordered c.keys_in_order.ensures s.in_strands in' row c.take_row.ensures.rest r).0 h).0;
      counted = omega (arith, long, count);
    }

pub returns-clause-rows : goal.returns-clause-rows
returns-clause-rows c =
    let s = c.args.self.now in
    let row = row_of c.args.row.now in
    let n = c.take_row.new.index.strands in
    let in' = take_in_strands row (strands_of s.index.strands) (strands_of n) c.take_row.ensures.rest s.in_strands in
    row_taken s.index.strands n s.ordered c.keys_in_order.ensures s.in_strands in' row c.take_row.ensures.rest

pub returns-clause-shorter : goal.returns-clause-shorter
returns-clause-shorter c =
    let s = c.args.self.now in
    let row = row_of c.args.row.now in
    let n = c.take_row.new.index.strands in
    let test : list_any (same_row row) (strands_of s.index.strands row.key) ≡ c.has.result = sym c.has.ensures.there in
    let in' = take_in_strands row (strands_of s.index.strands) (strands_of n) c.take_row.ensures.rest s.in_strands in
    let long = length_taken s.index.strands n s.ordered c.keys_in_order.ensures s.in_strands in' row c.take_row.ensures.rest (in_strand_there s.index.strands s.ordered s.in_strands row c.has.result test c.if-not-has.false) in
    omega (arith, long)

pub returns-then-not-has-clause-few : goal.returns-then-not-has-clause-few
returns-then-not-has-clause-few c digits short =
    let of_key = no_more (is_of c.args.row.now.key) (rows_in c.args.self.now.index.strands.entries) in
    let find = c.has.ensures.few digits (omega (arith, of_key, short)) in
    omega (arith, find)

pub returns-clause-few : goal.returns-clause-few
returns-clause-few c digits short =
    let s = c.args.self.now in
    let key = c.args.row.now.key in
    let of_key = no_more (is_of key) (rows_in s.index.strands.entries) in
    let strand = strand_length s.index.strands s.ordered s.in_strands key in
    let find = c.has.ensures.few digits (omega (arith, of_key, short)) in
    let out = c.take_row.ensures.few digits (omega (arith, of_key, strand, short)) in
    omega (arith, find, out)
