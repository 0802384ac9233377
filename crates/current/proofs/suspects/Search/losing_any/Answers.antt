use Rattle.std.proofs.Common.{◌∷◌, ◌+◌, ◌∙◌, ap, sym, subst, List, drop, inl, inr, map, arith}
use Rattle.model.specs.Tables.{Row}
use Rattle.rowlaws.specs.Rows.{Has}
use Rattle.rowlaws.specs.Suspects.{rows_losing}
use Rattle.schema.specs.Shape.{ReferenceShape}
use Rattle.sqlread.specs.Meaning.{reference_of}
use Rattle.current.specs.Touched.{removed_in}
use Rattle.current.specs.Reads.{total, following}
use Rattle.current.specs.Suspects.{rows_by, references_by}
use Rattle.current.proofs.Costs.{costs_next, costs_last}
use Rattle.current.proofs.Seeking.{drop_nothing}
use Rattle.current.proofs.Lists.{drop_here, drop_none}
use Rattle.current.proofs.Looking.{looks_first, looks_then, looks_last}
use Rattle.current.proofs.suspects.Search.losing_any.Goals as goal

pub loop-reference-init : goal.loop-reference-init
loop-reference-init c =
    let s = c.args.self.now in
    record {
      looks = looks_first s _ _ _ (λ r w. (w.0, subst (λ (fs : List ReferenceShape). Has fs w.0) (sym c.references-references.ensures) w.1, w.2, w.3, w.4));
      few = λ digits short.
          let e = ap (λ (fs : List ReferenceShape). total (λ g. following digits (rows_by s) (references_by s) g (removed_in c.args.touched.now g.parent)) (map (reference_of s.place s.table.now) fs)) (drop_nothing c.references-references.result.now ∙ c.references-references.ensures) in
          omega (arith, e);
    }

pub loop-reference-preserved : goal.loop-reference-preserved
loop-reference-preserved c =
    let s = c.args.self.now in
    let references = c.references-references.result.now in
    let i = c.loop-reference.reference-index in
    let x = c.reference-item.result in
    record {
      looks = looks_then s _ _ _ _ _ _ _ c.loop-reference.invariant.looks c.in_ok-next.ensures.looks (λ r w left.
          let here : Has (x ∷ drop (i + 1) references) left.0 = subst (λ (fs : List ReferenceShape). Has fs left.0) (drop_here references i x c.loop-reference-test.true c.reference-item.is) left.1 in
          elim here [
            | inl same ↦
                let went = ap (λ (f : ReferenceShape). removed_in c.args.touched.now f.parent) same ∙ ap (removed_in c.args.touched.now) (sym c.parent.ensures) ∙ sym c.removed-removed.ensures in
                inl (left.2, subst (λ (rows : List Row). Has rows left.2) went left.3, subst (λ (f : ReferenceShape). Has (rows_losing (reference_of s.place s.table.now f) (rows_by s s.place) (rows_by s f.parent) left.2) r) same left.4)
            | inr later ↦ inr (left.0, later, left.2, left.3, left.4)
          ]);
      few = λ digits short.
          let went = c.removed-removed.ensures ∙ ap (removed_in c.args.touched.now) c.parent.ensures in
          let cost = ap (following digits (rows_by s) (references_by s) (reference_of s.place s.table.now x)) went in
          let few = c.losing.ensures.few digits short in
          costs_next (reference_of s.place s.table.now) (λ g. following digits (rows_by s) (references_by s) g (removed_in c.args.touched.now g.parent)) references i x c.loop-reference-test.true c.reference-item.is
          c.loop-reference.count c.losing.new.count _ (c.loop-reference.invariant.few digits short) (omega (arith, cost, few));
    }

pub returns-in_err-next-clause-few : goal.returns-in_err-next-clause-few
returns-in_err-next-clause-few c digits short =
    let s = c.args.self.now in
    let references = c.references-references.result.now in
    let i = c.loop-reference.reference-index in
    let x = c.reference-item.result in
    let went = c.removed-removed.ensures ∙ ap (removed_in c.args.touched.now) c.parent.ensures in
    let cost = ap (following digits (rows_by s) (references_by s) (reference_of s.place s.table.now x)) went in
    let few = c.losing.ensures.few digits short in
    costs_last (reference_of s.place s.table.now) (λ g. following digits (rows_by s) (references_by s) g (removed_in c.args.touched.now g.parent)) references i x c.loop-reference-test.true c.reference-item.is
    c.loop-reference.count c.losing.new.count _ (c.loop-reference.invariant.few digits short) (omega (arith, cost, few))

pub returns-clause-few : goal.returns-clause-few
returns-clause-few c digits short = let few = c.loop-reference.invariant.few digits short in omega (arith, few)

pub returns-clause-looks : goal.returns-clause-looks
returns-clause-looks c = looks_last c.args.self.now _ _ _ _ c.loop-reference.invariant.looks (λ r w left. subst (λ (fs : List ReferenceShape). Has fs left.0) (drop_none c.references-references.result.now c.loop-reference.reference-index c.loop-reference-test.false) left.1)
