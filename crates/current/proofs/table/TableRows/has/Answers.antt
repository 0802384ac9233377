use Rattle.std.proofs.Common.{◌∙◌, ap, sym}
use Rattle.std.specs.Prelude.{option_copied}
use Rattle.current.proofs.Placed.{found_in_strand, is_found}
use Rattle.current.proofs.Reading.{few_to_find}
use Rattle.current.proofs.table.TableRows.has.Goals as goal

pub returns-in-Some-clause-there : goal.returns-in-Some-clause-there
returns-in-Some-clause-there c =
    let t = c.args.self.now in
    let row = c.args.row.now in
    c.is_same.ensures ∙ sym (found_in_strand c.sharing_is_overlap.ensures t.index.strands row (t.in_strands row.key) c.find.result c.find.ensures.item ∙ ap (λ o. is_found row (option_copied o)) c.in-Some.is)

pub returns-in-None-clause-there : goal.returns-in-None-clause-there
returns-in-None-clause-there c =
    let t = c.args.self.now in
    let row = c.args.row.now in
    sym (found_in_strand c.sharing_is_overlap.ensures t.index.strands row (t.in_strands row.key) c.find.result c.find.ensures.item ∙ ap (λ o. is_found row (option_copied o)) c.in-None.is)

pub returns-in-Some-clause-few : goal.returns-in-Some-clause-few
returns-in-Some-clause-few c = let t = c.args.self.now in few_to_find t.index.strands t.ordered t.in_strands c.args.row.now.key c.args.count.now c.find.new.count c.find.ensures.few

pub returns-in-None-clause-few : goal.returns-in-None-clause-few
returns-in-None-clause-few c = let t = c.args.self.now in few_to_find t.index.strands t.ordered t.in_strands c.args.row.now.key c.args.count.now c.find.new.count c.find.ensures.few
