use Rattle.std.proofs.Common.{◌≡◌, ◌∙◌, ℕ, ◌+◌, ◌≤◌, ◌∷◌, drop, filter, length, refl, sym, ap, subst, arith, inl, inr}
use Rattle.std.proofs.lemmas.Bool.{cases_lt}
use Rattle.std.specs.Vec.Iter.{into_iter_items}
use Rattle.current.specs.declared.touched.Touched.{Touched}
use Rattle.current.specs.Touched.{removed_of, added_of, removed_in, added_in}
use Rattle.versionlaws.specs.ByKey.{is_of, SameByKey}
use Rattle.versionlaws.specs.Committing.{committed}
use Rattle.sysversion.specs.declared.versions.Versions.{Versions}
use Rattle.sysversion.specs.Reads.{reads_in_tables}
use Rattle.sysversion.specs.Versions.{versions_of, versions_of_table, table_count}
use Rattle.sysversion.proofs.Ending.{none_committed}
use Rattle.sysversion.proofs.Counting.{one_table_read, no_more_reads}
use Rattle.sysversion.proofs.Tabled.{past_end, rows_at_head, drop_next, drop_all}
use Rattle.sysversion.proofs.versions.Versions.commit_tables.Goals as goal

-- no more is read than in the tables that are there
reads_to_last : (touched : Touched) (self : Versions) (n : ℕ) → reads_in_tables n (removed_in touched) (versions_of self) ≤ reads_in_tables (table_count self) (removed_in touched) (versions_of self)
reads_to_last touched self n =
    no_more_reads n (table_count self) (removed_in touched) (versions_of self) (λ k past. past_end versions_of_table self.tables.items k (let counted = self.counted in omega (arith, past, counted)))

pub loop-table-preserved : goal.loop-table-preserved
loop-table-preserved c =
    let t = c.args.t in
    let touched = c.args.touched in
    let start = c.args.self.now in
    let new = c.commit_table.new.self in
    let table = c.in-Some.table in
    let inv = c.loop-table.invariant in
    let steps = c.in-Some.ensures.steps in
    let one = c.in_ok-commit_table.ensures in
    let here : table ≡ c.loop-table.table-iterator.count = steps.1 in
    let head : drop table touched.tables.items ≡ c.in-Some.changes ∷ into_iter_items c.next.new.self.iter = ap (λ n. drop n touched.tables.items) here ∙ sym inv.rest ∙ steps.0.0 in
    let removed = rows_at_head removed_of touched.tables.items table c.in-Some.changes (into_iter_items c.next.new.self.iter) head in
    let added = rows_at_head added_of touched.tables.items table c.in-Some.changes (into_iter_items c.next.new.self.iter) head in
    record {
      schema = one.schema ∙ inv.schema;
      rest = drop_next touched.tables.items table c.next.new.self.count c.in-Some.changes (into_iter_items c.next.new.self.iter) (omega (arith, here, steps.2)) head;
      done = λ n l b. elim (cases_lt n table) [
        | inl before ↦ λ key. ap (filter (is_of key)) (one.others n (omega (arith, before))) ∙ inv.done n (omega (arith, before, here)) b key
        | inr from ↦
            let e : n ≡ table = omega (arith, l, from, here, steps.2) in
            let is : SameByKey (versions_of new table) (committed t (removed_in touched table) (added_in touched table) (versions_of start table)) =
            λ key. one.here (let long = ap length inv.schema in omega (arith, b, e, long)) key ∙ (λ i. filter (is_of key) (committed t (sym removed i) (sym added i) (inv.left table (omega (arith, here)) i))) in
            subst (λ m. SameByKey (versions_of new m) (committed t (removed_in touched m) (added_in touched m) (versions_of start m))) (sym e) is
      ];
      few =
          let same = inv.left table (omega (arith, here)) in
          let next : c.next.new.self.count ≡ table + 1 = omega (arith, here, steps.2) in
          let before = subst (λ n. c.loop-table.count ≤ c.args.count.now + reads_in_tables n (removed_in touched) (versions_of start)) (sym here) inv.few in
          one_table_read (removed_in touched) (versions_of start) table c.next.new.self.count c.args.count.now c.loop-table.count c.commit_table.new.count (removed_of c.in-Some.changes) (versions_of c.loop-table.self table) next removed same before one.few;
      left = λ n l. one.others n (omega (arith, l, here, steps.2)) ∙ inv.left n (omega (arith, l, here, steps.2));
    }

pub returns-in_err-commit_table-clause-few : goal.returns-in_err-commit_table-clause-few
returns-in_err-commit_table-clause-few c =
    let touched = c.args.touched in
    let start = c.args.self.now in
    let table = c.in-Some.table in
    let inv = c.loop-table.invariant in
    let steps = c.in-Some.ensures.steps in
    let here : table ≡ c.loop-table.table-iterator.count = steps.1 in
    let head : drop table touched.tables.items ≡ c.in-Some.changes ∷ into_iter_items c.next.new.self.iter = ap (λ n. drop n touched.tables.items) here ∙ sym inv.rest ∙ steps.0.0 in
    let removed = rows_at_head removed_of touched.tables.items table c.in-Some.changes (into_iter_items c.next.new.self.iter) head in
    let same = inv.left table (omega (arith, here)) in
    let before = subst (λ n. c.loop-table.count ≤ c.args.count.now + reads_in_tables n (removed_in touched) (versions_of start)) (sym here) inv.few in
    let read = one_table_read (removed_in touched) (versions_of start) table (table + 1) c.args.count.now c.loop-table.count c.commit_table.new.count (removed_of c.in-Some.changes) (versions_of c.loop-table.self table) refl removed same before c.commit_table.ensures.few in
    let all = reads_to_last touched start (table + 1) in
    omega (arith, read, all)

pub returns-clause-few : goal.returns-clause-few
returns-clause-few c =
    let most = c.loop-table.invariant.few in
    let all = reads_to_last c.args.touched c.args.self.now c.loop-table.table-iterator.count in
    omega (arith, most, all)

pub returns-clause-ok : goal.returns-clause-ok
returns-clause-ok c n l =
    let t = c.args.t in
    let touched = c.args.touched in
    let inv = c.loop-table.invariant in
    let steps = c.in-None.ensures.steps in
    let old = versions_of c.args.self.now n in
    elim (cases_lt n c.loop-table.table-iterator.count) [
      | inl before ↦ inv.done n before l
      | inr from ↦
          let none : length (drop c.loop-table.table-iterator.count touched.tables.items) ≡ 0 = let rest = ap length inv.rest in omega (arith, rest, c.loop-table.table-iterator.iter.rest.ok.0, steps.0.0) in
          let all : length touched.tables.items ≤ n = let most = drop_all touched.tables.items c.loop-table.table-iterator.count none in omega (arith, most, from) in
          let (removed, added) = c.nothing_beyond.ensures touched n all in
          λ key. ap (filter (is_of key)) (inv.left n from ∙ sym (none_committed t old) ∙ (λ i. committed t (sym removed i) (sym added i) old))
    ]
