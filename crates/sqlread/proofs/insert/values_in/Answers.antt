use Rattle.std.proofs.Common.{map, ap, ◌∙◌, inl, inr}
use Rattle.std.proofs.lemmas.List.{length-map}
use Rattle.sqlsyntax.specs.Shared.{literal_form}
use Rattle.sqlread.specs.Changes.{given_of, given}
use Rattle.sqlread.proofs.Lists.{each_after, zip_none, zip_no_others, values_are}
use Rattle.sqlread.proofs.insert.values_in.Goals as goal

pub returns : goal.returns
returns c =
    let columns = c.loop-column.column-iterator.a.rest.now in
    let literals = map literal_form c.loop-column.column-iterator.b.rest.now in
    let so_far = map given_of c.loop-column.given.items in
    elim c.in-None.ensures.steps [
      | inl h ↦ c.loop-column.invariant ∙ ap (λ xs. each_after given so_far xs) (zip_none columns literals h.1.0)
      | inr h ↦ c.loop-column.invariant ∙ ap (λ xs. each_after given so_far xs) (zip_no_others columns literals (length-map c.loop-column.column-iterator.b.rest.now literal_form ∙ h.1.0))
    ]

pub loop-column-init : goal.loop-column-init
loop-column-init c =
    let same = values_are c.args.columns.now (map literal_form c.args.literals.now) (length-map c.args.literals.now literal_form ∙ c.if-literals-columns.false) in
    let none = ap (λ gs. map given_of gs) c.new-given.ensures.items in
    cc
