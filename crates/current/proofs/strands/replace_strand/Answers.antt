use Rattle.std.proofs.Common.{◌∙◌, map, ap, sym, refl}
use Rattle.current.specs.Rows.{row_of}
use Rattle.current.specs.Plans.{instead}
use Rattle.current.specs.ByKey.{strands_of, strand_in}
use Rattle.current.proofs.Changed.{strands_written, strands_written_back, strands_same, instead_none, instead_some}
use Rattle.current.proofs.strands.replace_strand.Goals as goal

pub returns-in_default : goal.returns-in_default
returns-in_default c =
    let m = c.args.strands.now in
    let rows = map row_of c.args.rows.items in
    let none = sym (ap strand_in c.in_default.ensures.value) in
    ap strands_of c.get_mut.follows.holds-at-none ∙ strands_same m c.args.key.now (instead (strands_of m c.args.key.now) rows) (none ∙ sym (ap (λ old. instead old rows) none))

pub returns-then-is_empty : goal.returns-then-is_empty
returns-then-is_empty c =
    let m = c.args.strands.now in
    let key = c.args.key.now in
    let v = c.in-Some.strand.now in
    let rows = map row_of c.args.rows.items in
    let value = c.in-Some.ensures.value in
    let old = ap strand_in value in
    strands_written_back m (c.get_mut.follows.lender v) key v v value (c.get_mut.follows.holds v) refl
    ∙ strands_same m key (instead (strands_of m key) rows) (sym old ∙ instead_none v rows (sym c.is_empty.ensures ∙ c.if-is_empty.true) ∙ ap (λ o. instead o rows) old)

pub returns-then-some_left : goal.returns-then-some_left
returns-then-some_left c =
    let m = c.args.strands.now in
    let key = c.args.key.now in
    let w = c.from.result in
    let v = c.in-Some.strand.now in
    let rows = map row_of c.args.rows.items in
    let value = c.in-Some.ensures.value in
    strands_written m (c.get_mut.follows.lender w) key v w (instead (strands_of m key) rows) value (c.get_mut.follows.holds w) (ap (map row_of) c.from.ensures ∙ instead_some v rows (sym c.is_empty.ensures ∙ c.if-is_empty.false) ∙ ap (λ o. instead o rows) (ap strand_in value))

pub returns : goal.returns
returns c =
    let m = c.args.strands.now in
    let key = c.args.key.now in
    let w = c.from.result in
    let v = c.in-Some.strand.now in
    let rows = map row_of c.args.rows.items in
    let value = c.in-Some.ensures.value in
    c.forget_if_empty.ensures
    ∙ strands_written m (c.get_mut.follows.lender w) key v w (instead (strands_of m key) rows) value (c.get_mut.follows.holds w) (ap (map row_of) c.from.ensures ∙ instead_some v rows (sym c.is_empty.ensures ∙ c.if-is_empty.false) ∙ ap (λ o. instead o rows) (ap strand_in value))
