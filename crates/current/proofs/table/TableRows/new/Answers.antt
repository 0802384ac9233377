use Rattle.std.proofs.Common.{◌≡◌, ◌∙◌, [], map, length, sym, ap, subst}
use Rattle.std.specs.BTreeMap.{get}
use Rattle.model.specs.Values.{key_cmp}
use Rattle.rowlaws.specs.Rows.{Has}
use Rattle.current.specs.Rows.{row_of}
use Rattle.current.specs.ByKey.{strands_of, rows_in, in_strand}
use Rattle.current.proofs.Placed.{strand_items}
use Rattle.current.proofs.table.TableRows.new.Goals as goal

pub invariant_of-result : goal.invariant_of-result
invariant_of-result c =
    let m = c.new-index.result.strands in
    let none : rows_in m.entries ≡ [] = ap rows_in c.new-index.ensures.entries in
    record {
      ordered = c.keys_in_order.ensures;
      in_strands = λ k. let e : strands_of m k ≡ [] = strand_items (get key_cmp m k) ∙ ap (λ items. map row_of (items k)) c.new-index.ensures.items in ap (in_strand k 0) e;
      short = λ row h. absurd (subst (λ rows. Has rows row) none h);
      counted = sym (ap length none);
    }

pub returns-clause-rows : goal.returns-clause-rows
returns-clause-rows c = ap rows_in c.new-index.ensures.entries
