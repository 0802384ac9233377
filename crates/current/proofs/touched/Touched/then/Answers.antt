use Rattle.std.proofs.Common.{◌≡◌, ◌∙◌, ℕ, [], ◌+◌, ◌≤◌, ◌∷◌, List, length, ap, sym, arith, inl, inr}
use Rattle.std.proofs.lemmas.Bool.{cases_lt}
use Rattle.std.proofs.lemmas.List.{length-append}
use Rattle.model.specs.Tables.{Row}
use Rattle.rowlaws.specs.Touching.{removed_both, added_both}
use Rattle.current.specs.declared.strand.Changes.{Changes}
use Rattle.current.specs.Touched.{removed_of, added_of, removed_in, added_in}
use Rattle.current.specs.Places.{rows_at}
use Rattle.current.proofs.Joined.{push_each, rows_at-beyond, none_both, none_added}
use Rattle.current.proofs.touched.Touched.then.Goals as goal

pub loop-preserved : goal.loop-preserved
loop-preserved c =
    let a = c.args.self in
    let b = c.args.later in
    let old = c.loop.tables.items in
    let n = c.loop.counter in
    let new : Changes = c.in_ok-changes_both.field-0 in
    let items = c.in_ok-push.ensures.items in
    let inv = c.loop.invariant in
    let was = inv.long in
    let long : length c.push.new.self.items ≡ length old + 1 = ap length items ∙ length-append old (new ∷ []) in
    let here : n + 0 ≡ n = omega arith in
    let next : (m : ℕ) → n + (m + 1) ≡ n + 1 + m = λ m. omega arith in
    let first_removed = c.next_changes-first.ensures.removed ∙ inv.first_removed 0 ∙ ap (removed_in a) here in
    let first_added = c.next_changes-first.ensures.added ∙ inv.first_added 0 ∙ ap (added_in a) here in
    let later_removed = c.next_changes-later.ensures.removed ∙ inv.later_removed 0 ∙ ap (removed_in b) here in
    let later_added = c.next_changes-later.ensures.added ∙ inv.later_added 0 ∙ ap (added_in b) here in
    let removed_here : removed_of new ≡ removed_both (removed_in a n) (added_in a n) (removed_in b n) = c.in_ok-changes_both.ensures.removed ∙ (λ i. removed_both (first_removed i) (first_added i) (later_removed i)) in
    let added_here : added_of new ≡ added_both (added_in a n) (removed_in b n) (added_in b n) = c.in_ok-changes_both.ensures.added ∙ (λ i. added_both (first_added i) (later_removed i) (later_added i)) in
    let both_removed : ℕ → List Row = λ m. removed_both (removed_in a m) (added_in a m) (removed_in b m) in
    let both_added : ℕ → List Row = λ m. added_both (added_in a m) (removed_in b m) (added_in b m) in
    record {
      long = omega (arith, long, was);
      removed = λ m l. ap (λ xs. rows_at removed_of xs m) items ∙ push_each removed_of old new both_removed inv.removed (removed_here ∙ ap both_removed (sym was)) m (omega (arith, long, l));
      added = λ m l. ap (λ xs. rows_at added_of xs m) items ∙ push_each added_of old new both_added inv.added (added_here ∙ ap both_added (sym was)) m (omega (arith, long, l));
      first_removed = λ m. c.next_changes-first.ensures.removed_left m ∙ inv.first_removed (m + 1) ∙ ap (removed_in a) (next m);
      first_added = λ m. c.next_changes-first.ensures.added_left m ∙ inv.first_added (m + 1) ∙ ap (added_in a) (next m);
      later_removed = λ m. c.next_changes-later.ensures.removed_left m ∙ inv.later_removed (m + 1) ∙ ap (removed_in b) (next m);
      later_added = λ m. c.next_changes-later.ensures.added_left m ∙ inv.later_added (m + 1) ∙ ap (added_in b) (next m);
    }

pub returns-clause-removed : goal.returns-clause-removed
returns-clause-removed c n =
    let a = c.args.self in
    let b = c.args.later in
    let tables = c.loop.tables.items in
    let was = c.loop.invariant.long in
    let stop = c.loop-test.false in
    let first : length a.tables.items ≤ length tables = omega (arith, was, stop, a.tables.ok.0, c.len.ensures, c.max-count.ensures) in
    let second : length b.tables.items ≤ length tables = omega (arith, was, stop, b.tables.ok.0, c.len-2.ensures, c.max-count.ensures) in
    elim (cases_lt n (length tables)) [
      | inl l ↦ c.loop.invariant.removed n l
      | inr g ↦ rows_at-beyond removed_of tables n g ∙ sym (none_both (removed_in a n) (added_in a n) (removed_in b n) (rows_at-beyond removed_of a.tables.items n (omega arith)) (rows_at-beyond removed_of b.tables.items n (omega arith)))
    ]

pub returns-clause-added : goal.returns-clause-added
returns-clause-added c n =
    let a = c.args.self in
    let b = c.args.later in
    let tables = c.loop.tables.items in
    let was = c.loop.invariant.long in
    let stop = c.loop-test.false in
    let first : length a.tables.items ≤ length tables = omega (arith, was, stop, a.tables.ok.0, c.len.ensures, c.max-count.ensures) in
    let second : length b.tables.items ≤ length tables = omega (arith, was, stop, b.tables.ok.0, c.len-2.ensures, c.max-count.ensures) in
    elim (cases_lt n (length tables)) [
      | inl l ↦ c.loop.invariant.added n l
      | inr g ↦ rows_at-beyond added_of tables n g ∙ sym (none_added (added_in a n) (removed_in b n) (added_in b n) (rows_at-beyond added_of a.tables.items n (omega arith)) (rows_at-beyond added_of b.tables.items n (omega arith)))
    ]
