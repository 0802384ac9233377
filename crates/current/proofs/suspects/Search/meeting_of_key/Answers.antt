use Rattle.std.proofs.Common.{◌+◌, cond, map, arith}
use Rattle.std.proofs.lemmas.List.{length-map}
use Rattle.model.specs.Periods.{period_of}
use Rattle.model.specs.Tables.{Row}
use Rattle.current.specs.Rows.{row_of}
use Rattle.current.specs.Reads.{judging}
use Rattle.current.specs.Suspects.{rows_by, references_by, refers_among}
use Rattle.current.proofs.Costs.{one_each}
use Rattle.current.proofs.Looking.{ok_looks}
use Rattle.current.proofs.Meeting.{met_among, met_each, met_total}
use Rattle.current.proofs.suspects.Search.meeting_of_key.Goals as goal

pub referring-requires : goal.referring-requires
referring-requires c r h =
    let met = c.sharing.result in
    c.requires.among r (met_among c.sharing_is_overlap.ensures (period_of c.args.span) c.args.span.ordered c.args.strand.now met.1.now met.0 c.sharing.ensures.found r h)

pub returns-clause-looks : goal.returns-clause-looks
returns-clause-looks c =
    let met = c.sharing.result in
    ok_looks c.args.self.now _ _ _ c.referring.result c.referring.ensures.looks
    (λ r w. (met_each c.sharing_is_overlap.ensures (period_of c.args.span) c.args.span.ordered c.args.strand.now met.1.now met.0 c.sharing.ensures.found r w.0 w.2 w.3, w.1))

pub returns-clause-few : goal.returns-clause-few
returns-clause-few c digits short =
    let s = c.args.self.now in
    let met = c.sharing.result in
    let judged = λ (r : Row). cond (refers_among s.table.now c.args.columns.now c.args.keys.now.keys r) (judging digits (rows_by s) (references_by s) r) 0 in
    let less = c.requires.short in
    let here = short s.place in
    let halves = c.sharing.ensures.few digits (omega (arith, less, here)) in
    let few = c.referring.ensures.few digits short in
    let each = one_each judged (map row_of met.1.now) in
    let long = length-map met.1.now row_of in
    let most = met_total c.sharing_is_overlap.ensures (period_of c.args.span) c.args.span.ordered c.args.strand.now met.1.now met.0 c.sharing.ensures.found (λ r. 1 + judged r) in
    omega (arith, halves, few, each, long, most)
