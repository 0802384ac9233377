use Rattle.std.proofs.Common.{◌∙◌, ◌≤◌, ◌++◌, length, ap, sym, inl, inr, arith}
use Rattle.std.proofs.lemmas.Bool.{cases_lt}
use Rattle.std.proofs.lemmas.List.{append-nil}
use Rattle.current.specs.Touched.{removed_of, added_of, removed_in, added_in}
use Rattle.current.proofs.Joined.{rows_at-beyond}
use Rattle.current.proofs.touched.Touched.joined.Goals as goal

pub returns-clause-removed : goal.returns-clause-removed
returns-clause-removed c n =
    let later = c.args.later.now in
    let stop = c.loop-n-test.false in
    let past : length later.tables.items ≤ c.loop-n.n = omega (arith, stop, later.tables.ok.0, c.len-count.ensures) in
    elim (cases_lt n c.loop-n.n) [
      | inl l ↦ c.loop-n.invariant.removed n l
      | inr g ↦ c.loop-n.invariant.removed_left n g ∙ sym (append-nil (removed_in c.args.self n)) ∙ ap (λ rows. removed_in c.args.self n ++ rows) (sym (rows_at-beyond removed_of later.tables.items n (omega arith)))
    ]

pub returns-clause-added : goal.returns-clause-added
returns-clause-added c n =
    let later = c.args.later.now in
    let stop = c.loop-n-test.false in
    let past : length later.tables.items ≤ c.loop-n.n = omega (arith, stop, later.tables.ok.0, c.len-count.ensures) in
    elim (cases_lt n c.loop-n.n) [
      | inl l ↦ c.loop-n.invariant.added n l
      | inr g ↦ c.loop-n.invariant.added_left n g ∙ sym (append-nil (added_in c.args.self n)) ∙ ap (λ rows. added_in c.args.self n ++ rows) (sym (rows_at-beyond added_of later.tables.items n (omega arith)))
    ]
