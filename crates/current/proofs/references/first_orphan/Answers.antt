use Rattle.std.proofs.Common.{◌<◌, ◌≤◌, ◌∙◌, ℕ, ap, option_map, sym, subst, length}
use Rattle.sqlread.specs.Meaning.{references_from}
use Rattle.current.specs.Orphans.{place_of}
use Rattle.current.specs.Places.{rows_at}
use Rattle.current.specs.Table.{rows_of_table}
use Rattle.current.proofs.Orphans.{found_in_table, none_in_table, none_left, misses_there, orphan_is}
use Rattle.current.proofs.references.first_orphan.Goals as goal

pub returns-in-Some-clause-first : goal.returns-in-Some-clause-first
returns-in-Some-clause-first c =
    let schema = c.args.schema.now in
    let all = rows_at rows_of_table c.args.tables.now in
    let bound : c.loop-place.place < length schema = subst (λ (n : ℕ). c.loop-place.place < n) c.len-place-end.ensures c.loop-place-test.true in
    found_in_table (references_from 0 schema) all c.loop-place.place (length schema) (place_of c.in-Some.found) _ bound c.loop-place.invariant
    (sym (ap (option_map place_of) c.in-Some.is) ∙ c.in_ok-found.ensures) ∙ sym (orphan_is schema all)

pub returns-in-Some-clause-within : goal.returns-in-Some-clause-within
returns-in-Some-clause-within c =
    let schema = c.args.schema.now in
    let all = rows_at rows_of_table c.args.tables.now in
    let there = misses_there (references_from 0 schema) all c.loop-place.place (all c.loop-place.place) (place_of c.in-Some.found) (sym c.in_ok-found.ensures ∙ ap (option_map place_of) c.in-Some.is) in
    let bound : c.loop-place.place < length schema = subst (λ (n : ℕ). c.loop-place.place < n) c.len-place-end.ensures c.loop-place-test.true in
    subst (λ (n : ℕ). n < length schema) (sym there) bound

pub loop-place-preserved : goal.loop-place-preserved
loop-place-preserved c =
    let schema = c.args.schema.now in
    let all = rows_at rows_of_table c.args.tables.now in
    let bound : c.loop-place.place < length schema = subst (λ (n : ℕ). c.loop-place.place < n) c.len-place-end.ensures c.loop-place-test.true in
    none_in_table (references_from 0 schema) all c.loop-place.place (length schema) _ bound c.loop-place.invariant
    (sym (ap (option_map place_of) c.in_default.is) ∙ c.in_ok-found.ensures)

pub returns-clause-first : goal.returns-clause-first
returns-clause-first c =
    let schema = c.args.schema.now in
    let all = rows_at rows_of_table c.args.tables.now in
    let bound : length schema ≤ c.loop-place.place = subst (λ (n : ℕ). n ≤ c.loop-place.place) c.len-place-end.ensures c.loop-place-test.false in
    none_left (references_from 0 schema) all c.loop-place.place (length schema) _ bound c.loop-place.invariant ∙ sym (orphan_is schema all)
