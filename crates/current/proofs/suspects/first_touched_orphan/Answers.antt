use Rattle.std.proofs.Common.{◌<◌, ◌≤◌, ℕ, None, option_map, sym, subst, length, ap, arith}
use Rattle.sqlread.specs.Meaning.{references_from}
use Rattle.current.specs.Orphans.{place_of}
use Rattle.current.specs.Reads.{checking_from}
use Rattle.current.proofs.Seeking.{table_next, table_last, drop_nothing}
use Rattle.current.specs.Places.{rows_at}
use Rattle.current.specs.Table.{rows_of_table}
use Rattle.current.specs.Touched.{removed_in, added_in}
use Rattle.current.specs.Suspects.{IsFirstPicked}
use Rattle.current.proofs.Suspected.{among_there, orphan_here, no_orphan, one_more}
use Rattle.current.proofs.suspects.first_touched_orphan.Goals as goal

pub returns-in-Some-clause-first : goal.returns-in-Some-clause-first
returns-in-Some-clause-first c whole =
    let schema = c.args.schema.now in
    let all = rows_at rows_of_table c.args.tables.now in
    let removed = removed_in c.args.touched.now in
    let added = added_in c.args.touched.now in
    let bound : c.loop-place.place < length schema = subst (λ (n : ℕ). c.loop-place.place < n) c.len-place-end.ensures c.loop-place-test.true in
    let here = subst (λ o. IsFirstPicked (references_from 0 schema) all removed added c.loop-place.place (option_map place_of o)) c.in-Some.is c.in_ok-found.ensures.picked in
    orphan_here c.picked_orphan.ensures schema all removed added whole c.loop-place.place c.loop-place.invariant.picked (place_of c.in-Some.found) here bound

pub returns-in-Some-clause-within : goal.returns-in-Some-clause-within
returns-in-Some-clause-within c =
    let schema = c.args.schema.now in
    let all = rows_at rows_of_table c.args.tables.now in
    let bound : c.loop-place.place < length schema = subst (λ (n : ℕ). c.loop-place.place < n) c.len-place-end.ensures c.loop-place-test.true in
    let here = subst (λ o. IsFirstPicked (references_from 0 schema) all (removed_in c.args.touched.now) (added_in c.args.touched.now) c.loop-place.place (option_map place_of o)) c.in-Some.is c.in_ok-found.ensures.picked in
    let there = among_there (references_from 0 schema) all c.loop-place.place here.0 (place_of c.in-Some.found) (sym here.1.1) in
    subst (λ (n : ℕ). n < length schema) (sym there) bound

pub loop-place-preserved : goal.loop-place-preserved
loop-place-preserved c =
    let schema = c.args.schema.now in
    let all = rows_at rows_of_table c.args.tables.now in
    let removed = removed_in c.args.touched.now in
    let added = added_in c.args.touched.now in
    let here = subst (λ o. IsFirstPicked (references_from 0 schema) all removed added c.loop-place.place (option_map place_of o)) c.in_default.is c.in_ok-found.ensures.picked in
    let bound : c.loop-place.place < length schema = subst (λ (n : ℕ). c.loop-place.place < n) c.len-place-end.ensures c.loop-place-test.true in
    record {
      picked = one_more (λ m. IsFirstPicked (references_from 0 schema) all removed added m None) c.loop-place.place c.loop-place.invariant.picked here;
      few = λ digits short. table_next digits all removed added schema c.loop-place.place c.loop-place.count c.first_in_table.new.count _ bound (c.loop-place.invariant.few digits short) (c.first_in_table.ensures.few digits short);
    }

pub returns-clause-first : goal.returns-clause-first
returns-clause-first c whole =
    let schema = c.args.schema.now in
    let all = rows_at rows_of_table c.args.tables.now in
    let bound : length schema ≤ c.loop-place.place = subst (λ (n : ℕ). n ≤ c.loop-place.place) c.len-place-end.ensures c.loop-place-test.false in
    no_orphan c.picked_orphan.ensures schema all (removed_in c.args.touched.now) (added_in c.args.touched.now) whole c.loop-place.place c.loop-place.invariant.picked bound

pub loop-place-init : goal.loop-place-init
loop-place-init c = record {
  picked = λ m l. absurd (omega arith);
  few = λ digits short.
      let e = ap (checking_from digits (rows_at rows_of_table c.args.tables.now) (removed_in c.args.touched.now) (added_in c.args.touched.now) 0) (drop_nothing c.args.schema.now) in
      omega (arith, e);
}

pub returns-in_err-found-clause-few : goal.returns-in_err-found-clause-few
returns-in_err-found-clause-few c digits short =
    let schema = c.args.schema.now in
    let bound : c.loop-place.place < length schema = subst (λ (n : ℕ). c.loop-place.place < n) c.len-place-end.ensures c.loop-place-test.true in
    table_last digits (rows_at rows_of_table c.args.tables.now) (removed_in c.args.touched.now) (added_in c.args.touched.now) schema c.loop-place.place c.loop-place.count c.first_in_table.new.count _ bound (c.loop-place.invariant.few digits short) (c.first_in_table.ensures.few digits short)

pub returns-in-Some-clause-few : goal.returns-in-Some-clause-few
returns-in-Some-clause-few c digits short =
    let schema = c.args.schema.now in
    let bound : c.loop-place.place < length schema = subst (λ (n : ℕ). c.loop-place.place < n) c.len-place-end.ensures c.loop-place-test.true in
    table_last digits (rows_at rows_of_table c.args.tables.now) (removed_in c.args.touched.now) (added_in c.args.touched.now) schema c.loop-place.place c.loop-place.count c.first_in_table.new.count _ bound (c.loop-place.invariant.few digits short) (c.first_in_table.ensures.few digits short)

pub returns-clause-few : goal.returns-clause-few
returns-clause-few c digits short = let few = c.loop-place.invariant.few digits short in omega (arith, few)
